-- The check's verdict is the judge's, whichever models he holds, if the check is by one of them that is stricter than each.
use Prim.Native.Nat.{ℕ, zero, suc}
use native.Mathlib.Omega.{arith}
use mathlib.Core.Path.{◌≡◌, refl, sym, ◌∙◌}
use mathlib.Core.Logic.{◌⊎◌, inl, inr, ◌↔◌}
use mathlib.Core.Bool.{Bool, true, false}
use mathlib.Core.List.{List}
use Rattle.truth.specs.Bools.{decide, is_true}
use Rattle.quantify.specs.Quantify.{has, first}
use Rattle.model.specs.Domain.{Domain, State, GroundAction, GoalLiteral}
use Rattle.model.specs.Model.{Model, Valid, Run, stopped, ended, run}
use Rattle.model.specs.Judge.{impossible, wrong, MissesAt, Judged}
use Rattle.model.specs.Check.{reached, judged_run, checked_by}
use Rattle.model.specs.Formed.{Grounded}
use Rattle.model.specs.Exact.{Exact}
use Rattle.model.specs.Stricter.{Stricter}
use Rattle.quantify.proofs.Quantify.{First, first_law}
use Rattle.model.proofs.Lockstep.{NoLater, lockstep}
use Rattle.model.proofs.Judge.{not_both, one_end, unique}

module _ (D : Domain) (P : Model → Type 0) (valid : (M : Model) → P M → Valid D M) (L : Model) (own : P L) (strict : (M : Model) → P M → Stricter D L M) where
  -- Whatever models the judge holds: if one of them is stricter than each, his verdict is what that one's run comes to.
  pub exact_run : (plan : List GroundAction) → Grounded D plan → (st : State) (goal : List GoalLiteral) → Judged D P plan st goal (judged_run goal (run D L plan st 1))
  unfolding judged_run reached
  exact_run plan grounded st goal = go (run D L plan st 1) refl (λ M m. lockstep D L M (strict M m) (valid L own) (valid M m) plan grounded st 1)
    where
      go : (r : Run) → run D L plan st 1 ≡ r → ((M : Model) → P M → NoLater r (run D M plan st 1)) → Judged D P plan st goal (judged_run goal r)
      go (stopped k) e ahead = ((L, own, e), ahead)
      go (ended end) e ahead = reach (first (wrong end) goal) (first_law (wrong end) goal)
        where
          missed : (M : Model) → P M → (j : ℕ) → MissesAt D P plan st goal M j → has (wrong end) goal j ≡ true
          missed M m j (end', e', h) = rw (one_end _ end' end e' (ahead M m)) at h

          reach : (i : ℕ) → First (wrong end) goal i → Judged D P plan st goal (reached end i)
          reach zero none = ((L, own, tt), ahead, λ M m j miss. none j (missed M m j miss))
          reach (suc i) law =
              (λ M m j stop. not_both _ j end stop (ahead M m), (L, own, (end, e, law.0)), λ M m j miss. law.1 j (missed M m j miss))

module _ (none : Bool) (D : Domain) (L : Model) (plan : List GroundAction) (st : State) (goal : List GoalLiteral) where
  pub checked_none : none ≡ true → checked_by none D L plan st goal ≡ impossible
  unfolding checked_by
  checked_none e = rw (e, checked_by)

  pub checked_run : none ≡ false → checked_by none D L plan st goal ≡ judged_run goal (run D L plan st 1)
  unfolding checked_by
  checked_run e = rw (e, checked_by)

  -- a check by a model says impossible exactly if the row is met
  checked_refuses : (checked_by none D L plan st goal ≡ impossible) ↔ (none ≡ true)
  unfolding judged_run reached
  checked_refuses = (λ e. is_true _ (λ some. go (run D L plan st 1) (sym (checked_run some) ∙ e)), checked_none)
    where
      go : (r : Run) → judged_run goal r ≡ impossible → ⊥
      go (stopped k) e = let z : ◌≡◌ {A = ℕ} 0 1 = cc in omega arith
      go (ended end) e = reach (first (wrong end) goal) e
        where
          reach : (i : ℕ) → reached end i ≡ impossible → ⊥
          reach zero e = let z : ◌≡◌ {A = ℕ} 0 1 = cc in omega arith
          reach (suc i) e = let z : ◌≡◌ {A = ℕ} 0 1 = cc in omega arith

-- The check by a model is exact, if the judge holds no model where the row is met, and elsewhere this one among those than which it is stricter.
module _ (D : Domain) (P : Model → Type 0) (valid : (M : Model) → P M → Valid D M) (L : Model) (none : Bool) (barred : none ≡ true → (M : Model) → P M → ⊥) (own : none ≡ false → P L) (strict : (M : Model) → P M → Stricter D L M) where
  pub exact_by : Exact D P none (checked_by none D L)
  exact_by =
      record {
        unfit = (barred, λ empty. is_true _ (λ some. empty L (own some)));
        refuses = λ plan st goal. checked_refuses none D L plan st goal;
        verdict = λ plan grounded st goal v. (
          λ h. unique D P plan st goal (checked_by none D L plan st goal) v (judged plan grounded st goal) h,
          λ e. rw e at (judged plan grounded st goal),
        );
      }
    where
      judged : (plan : List GroundAction) → Grounded D plan → (st : State) (goal : List GoalLiteral) → Judged D P plan st goal (checked_by none D L plan st goal)
      judged plan grounded st goal = go (decide none)
        where
          go : (none ≡ true) ⊎ (none ≡ false) → Judged D P plan st goal (checked_by none D L plan st goal)
          go (inl e) = rw (checked_none none D L plan st goal e) (barred e)
          go (inr e) = rw (checked_run none D L plan st goal e) (exact_run D P valid L (own e) strict plan grounded st goal)
