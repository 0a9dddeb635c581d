-- The value of a bound fact in a state: it holds exactly if the fact that it becomes is in the list.
use Prim.Native.Nat.{ℕ, ◌≤◌}
use mathlib.Core.Path.{◌≡◌, sym, subst}
use mathlib.Core.Bool.{true}
use mathlib.Core.List.{List}
use Rattle.terms.specs.declared.Binding.{Binding}
use Rattle.terms.specs.declared.Step.{Step}
use Rattle.terms.specs.declared.Fact.{Fact}
use Rattle.terms.specs.Schema.{Schema, TypedObjects}
use Rattle.terms.specs.Steps.{is_atom, ground}
use Rattle.limits.specs.Limits.{max_objects}
use Rattle.quantify.specs.Quantify.{Mem}
use Rattle.factsets.specs.Holding.{holding}
use Rattle.factsets.specs.Right.{RightStep, RightState}
use Rattle.wellformed.specs.Grounding.{fact_of}
use Rattle.wellformed.proofs.Atoms.{ground_number}
use Rattle.wellformed.proofs.Inverse.{fact_of_atom}
use Rattle.factsets.proofs.Holding.{holding_in, holding_out}

pub holds_in : (sch : Schema) (b : Binding) (fs : List Fact) (n : ℕ) → Mem (fact_of sch b n) fs → holding fs (ground sch b n) ≡ true
holds_in sch b fs n m = rw (ground_number sch b n) at (holding_in fs m)

-- the other way round for a right step and a right state over the same objects
pub holds_out : (sch : Schema) (ob : TypedObjects) → ob.count ≤ max_objects → (st : Step) → RightStep sch ob st → (fs : List Fact) → RightState sch ob fs
    → (n : ℕ) → is_atom sch st.action.0 n ≡ true → holding fs (ground sch st.binding n) ≡ true → Mem (fact_of sch st.binding n) fs
holds_out sch ob few st right fs state n atom e =
    let (f, m, q) = holding_out fs (ground sch st.binding n) e in
    subst (λ (g : Fact). Mem g fs) (fact_of_atom sch ob few st right f (state.suits f m) n atom (sym q)) m
