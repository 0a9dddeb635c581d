-- The judge says at most one thing, whichever models he holds; and it depends on the models, not on how they are told.
use Prim.Native.Nat.{ℕ}
use native.Mathlib.Omega.{arith}
use native.Mathlib.Nat.{le_antisymm}
use mathlib.Core.Path.{◌≡◌, refl, ap}
use mathlib.Core.Logic.{◌↔◌}
use mathlib.Core.List.{List}
use Rattle.model.specs.Domain.{Domain, State, GroundAction, GoalLiteral}
use Rattle.model.specs.Model.{Model, Run, stopped, ended}
use Rattle.model.specs.Judge.{Verdict, impossible, stops, misses, passes, Judged}

-- a run does not both stop and end, and it ends in one state
pub not_both : (r : Run) (k : ℕ) (end : State) → r ≡ stopped k → r ≡ ended end → ⊥
not_both r k end p q = let z : ◌≡◌ {A = ℕ} 0 1 = cc in omega arith

pub one_end : (r : Run) (e f : State) → r ≡ ended e → r ≡ ended f → e ≡ f
one_end r e f p q = cc

module _ (D : Domain) (P : Model → Type 0) (plan : List GroundAction) (st : State) (goal : List GoalLiteral) where
  -- Two verdicts that are both the judge's are one.
  pub unique : (v w : Verdict) → Judged D P plan st goal v → Judged D P plan st goal w → v ≡ w
  unique impossible impossible h j = refl
  unique impossible (stops k) h j = absurd (h j.0.0 j.0.1)
  unique impossible (misses i) h j = absurd (h j.1.0 j.1.1)
  unique impossible (passes e) h j = absurd (h j.0.0 j.0.1)
  unique (stops k) impossible h j = absurd (j h.0.0 h.0.1)
  unique (stops k) (stops l) h j = ap stops (le_antisymm (h.1 j.0.0 j.0.1 l j.0.2) (j.1 h.0.0 h.0.1 k h.0.2))
  unique (stops k) (misses i) h j = absurd (j.0 h.0.0 h.0.1 k h.0.2)
  unique (stops k) (passes e) h j = absurd (not_both _ k e h.0.2 (j.1 h.0.0 h.0.1))
  unique (misses i) impossible h j = absurd (j h.1.0 h.1.1)
  unique (misses i) (stops l) h j = absurd (h.0 j.0.0 j.0.1 l j.0.2)
  unique (misses i) (misses l) h j = ap misses (le_antisymm (h.2 j.1.0 j.1.1 l j.1.2) (j.2 h.1.0 h.1.1 i h.1.2))
  unique (misses i) (passes e) h j = absurd (j.2 h.1.0 h.1.1 i h.1.2)
  unique (passes e) impossible h j = absurd (j h.0.0 h.0.1)
  unique (passes e) (stops l) h j = absurd (not_both _ l e j.0.2 (h.1 j.0.0 j.0.1))
  unique (passes e) (misses l) h j = absurd (h.2 j.1.0 j.1.1 l j.1.2)
  unique (passes e) (passes f) h j = ap passes (one_end _ e f (h.1 h.0.0 h.0.1) (j.1 h.0.0 h.0.1))

  -- The end state of a pass is one, fact by fact.
  pub one_state : (e f : State) → Judged D P plan st goal (passes e) → Judged D P plan st goal (passes f) → (n : ℕ) → e n ≡ f n
  one_state e f h j n = ap (λ s. s n) (one_end _ e f (h.1 h.0.0 h.0.1) (j.1 h.0.0 h.0.1))

  -- A judge who holds the same models says the same.
  pub judged_alike : (Q : Model → Type 0) → ((M : Model) → P M ↔ Q M) → (v : Verdict) → Judged D P plan st goal v → Judged D Q plan st goal v
  judged_alike Q same impossible h = λ M q. h M ((same M).1 q)
  judged_alike Q same (stops k) h = ((h.0.0, (same _).0 h.0.1, h.0.2), λ M q. h.1 M ((same M).1 q))
  judged_alike Q same (misses i) h = (λ M q. h.0 M ((same M).1 q), (h.1.0, (same _).0 h.1.1, h.1.2), λ M q. h.2 M ((same M).1 q))
  judged_alike Q same (passes e) h = ((h.0.0, (same _).0 h.0.1, tt), λ M q. h.1 M ((same M).1 q), λ M q. h.2 M ((same M).1 q))
