-- A set copied out of lent memory, and a difference made by value: a set united with the empty one is that set.
use Prim.Native.Nat.{ℕ, ◌+◌, ◌-◌}
use native.Mathlib.Omega.{arith}
use mathlib.Core.Path.{◌≡◌, ◌∙◌, ap}
use mathlib.Core.List.{List}
use lib.ListN.{length, take, drop}
use Rattle.mask.specs.Sets.{union, difference, empty}
use Rattle.mask.proofs.Laws.{length_difference}
use Rattle.mask.proofs.Whole.{union_empty}
use Rattle.observed.specs.Observed.{set_at, observed_set}

pub difference_by : (a b m x r : List ℕ) → length a ≡ 32 → m ≡ empty 32 → x ≡ b → r ≡ union m (difference a x) → r ≡ difference a b
difference_by a b m x r l e f g = g ∙ rw (e, f) (union_empty 32 (difference a b) (length_difference a b ∙ l))

pub observed_set_by : (l : List ℕ) (a k at : ℕ) (r : List ℕ) → at ≡ set_at a k → r ≡ take (at + 32 - at) (drop at l) → r ≡ observed_set l a k
unfolding observed_set
observed_set_by l a k at r f u =
    let n : at + 32 - at ≡ 32 = omega arith in
    u ∙ rw n (ap (λ (x : ℕ). take 32 (drop x l)) f)
