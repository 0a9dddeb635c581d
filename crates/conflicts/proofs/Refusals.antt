-- Rows 11, 12 and 28: whether something is in a set, and the answers. Uses the definitions of observed, and `any` and `least` of quantify.
use Prim.Native.Nat.{ℕ, zero, suc, ◌+◌, ◌≤◌, ◌<◌}
use native.Mathlib.Numerals.{add-one}
use native.Mathlib.Omega.{arith}
use mathlib.Core.Path.{◌≡◌, refl, ap, ◌∙◌}
use mathlib.Core.Bool.{Bool, true, ◌||◌, not}
use mathlib.Core.List.{List, [], ◌∷◌}
use lib.Dec.{eqb}
use Rattle.std.specs.List.{list_any}
use Rattle.answer.specs.Answer.{Good, Refused}
use Rattle.quantify.specs.Quantify.{any, least}
use Rattle.quantify.proofs.Quantify.{least_found, least_unfound}
use Rattle.jobs.specs.Learn.{conflict_answer}
use Rattle.observed.specs.Rules.{unbound_answer, conflict_observed, conflict_among, in_use}

-- ---- something is in a set, as the library finds it
listed_any : {A : Type 0} (p : A → Bool) (xs : List A) → list_any p xs ≡ any p xs
unfolding any
listed_any p [] = refl
listed_any p (x ∷ xs) = ap (λ (b : Bool). p x || b) (listed_any p xs)

pub in_use_by : (m : List ℕ) (r : Bool) → r ≡ list_any (λ x. not (eqb x 0)) m → r ≡ in_use m
unfolding in_use
in_use_by m r e = e ∙ listed_any _ m

-- ---- the answers
pub unbound_named : (p : ℕ) → (p ≡ 0 → ⊥) → Refused 11 p ≡ unbound_answer p
unfolding unbound_answer
unbound_named zero d = absurd (d refl)
unbound_named (suc p) d = refl

-- row 12, going up over the moves: none up to number i has a conflict
module _ (l : List ℕ) (i n : ℕ) (none : least i (conflict_observed l) ≡ 0) where
  pub among_here : (b : Bool) → b ≡ conflict_observed l (i + 1) → b ≡ true → i < n → Refused 12 (i + 1) ≡ conflict_among l n
  unfolding conflict_among conflict_answer
  among_here b e f h =
      let at : suc i ≡ least n (conflict_observed l) = rw add-one at (least_found _ i n b none e f (omega arith)) in
      rw add-one (ap conflict_answer at)

  pub among_none : i ≤ n → n ≤ i → Good 0 ≡ conflict_among l n
  unfolding conflict_among conflict_answer
  among_none h k = ap conflict_answer (least_unfound _ i n none h k)
