-- A list of facts as a state: which facts hold, and that none holds which the domain does not count.
use Prim.Native.Nat.{ℕ, ◌*◌, ◌≤◌}
use mathlib.Core.Path.{◌≡◌, refl}
use mathlib.Core.Bool.{true, false}
use mathlib.Core.List.{List}
use native.Mathlib.Omega.{arith}
use lib.Dec.{eqb}
use borrow.Author.Tests.{eqb-true, eq-eqb}
use Rattle.truth.specs.Bools.{is_false}
use Rattle.terms.specs.declared.Fact.{Fact}
use Rattle.terms.specs.Schema.{Schema, TypedObjects}
use Rattle.terms.specs.Facts.{fact_number}
use Rattle.limits.specs.Limits.{max_objects}
use Rattle.quantify.specs.Quantify.{Mem}
use Rattle.quantify.proofs.Quantify.{any_in, any_out}
use Rattle.factsets.specs.Holding.{holding}
use Rattle.factsets.specs.Right.{RightState}
use Rattle.factsets.proofs.Numbers.{number_below}

-- a fact holds in a state exactly if some fact of the list has its number
pub holding_in : (fs : List Fact) {f : Fact} → Mem f fs → holding fs (fact_number f) ≡ true
unfolding holding
holding_in fs {f} m = any_in (λ g. eqb (fact_number g) (fact_number f)) fs m (eq-eqb (fact_number f) (fact_number f) refl)

pub holding_out : (fs : List Fact) (n : ℕ) → holding fs n ≡ true → (f : Fact) × Mem f fs × (fact_number f ≡ n)
unfolding holding
holding_out fs n e = let (f, m, h) = any_out (λ g. eqb (fact_number g) n) fs e in (f, m, eqb-true (fact_number f) n h)

-- No fact that the domain does not count holds in a right state.
pub holding_below : (sch : Schema) (ob : TypedObjects) → ob.count ≤ max_objects → (fs : List Fact) → RightState sch ob fs → (n : ℕ) → 256 * sch.relations ≤ n → holding fs n ≡ false
holding_below sch ob few fs right n h =
    is_false
    _
    (λ e.
    let (f, m, q) = holding_out fs n e in
    omega (arith, number_below sch ob few f (right.suits f m)))
