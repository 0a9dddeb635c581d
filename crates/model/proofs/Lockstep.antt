-- Running under a stricter model: what it executes, the other executes alike; where the other stops, it has stopped before or there.
-- Nothing here mentions transitions.
use Prim.Native.Nat.{ℕ, suc, ◌+◌, ◌≤◌, ◌<◌}
use native.Mathlib.Omega.{arith}
use mathlib.Core.Path.{◌≡◌, refl, sym, ◌∙◌}
use mathlib.Core.Logic.{◌⊎◌, inl, inr}
use mathlib.Core.Bool.{true, false, not}
use mathlib.Core.List.{List, [], ◌∷◌}
use lib.ListN.{length}
use Rattle.truth.specs.Bools.{clash, decide, is_false}
use Rattle.quantify.specs.Quantify.{here, there}
use Rattle.model.specs.Domain.{Domain, State, GroundAction}
use Rattle.model.specs.Model.{Model, Valid, Run, stopped, ended, image, inapplicable, next, run}
use Rattle.model.specs.Formed.{Proper, Grounded}
use Rattle.model.specs.Stricter.{Stricter}
use Rattle.model.proofs.Next.{each_fact, next_at, next_off, inapplicable_in_lem, inapplicable_out}

module _ (D : Domain) (M : Model) (s : GroundAction) (plan : List GroundAction) (st : State) (k : ℕ) where
  pub run_stop : inapplicable D M s st ≡ true → run D M (s ∷ plan) st k ≡ stopped k
  unfolding run
  run_stop e = rw (e, run)

  pub run_go : inapplicable D M s st ≡ false → run D M (s ∷ plan) st k ≡ run D M plan (next D M s st) (suc k)
  unfolding run
  run_go e = rw (e, run)

-- a run stops at the number of one of its steps
pub run_within : (D : Domain) (M : Model) (plan : List GroundAction) (st : State) (k j : ℕ) → run D M plan st k ≡ stopped j
    → (k ≤ j) × (j < k + length plan)
unfolding run
run_within D M [] st k j e = absurd (let z : ◌≡◌ {A = ℕ} 0 1 = cc in omega arith)
run_within D M (s ∷ plan) st k j e = go (decide (inapplicable D M s st)) (run_within D M plan (next D M s st) (suc k) j)
  where
    go : (inapplicable D M s st ≡ true) ⊎ (inapplicable D M s st ≡ false)
        → (run D M plan (next D M s st) (suc k) ≡ stopped j → (suc k ≤ j) × (j < suc k + length plan))
        → (k ≤ j) × (j < k + length (s ∷ plan))
    go (inl h) rest = let z : k ≡ j = cc (run_stop D M s plan st k h) in (omega arith, omega arith)
    go (inr h) rest = let (low, high) = rest (sym (run_go D M s plan st k h) ∙ e) in (omega arith, omega arith)

-- what the run under a stricter model says of another
abbrev pub NoLater : Run → Run → Type 0
NoLater (stopped k) r = (j : ℕ) → r ≡ stopped j → k ≤ j
NoLater (ended end) r = r ≡ ended end

module _ (D : Domain) (L M : Model) (strict : Stricter D L M) where
  -- A step that is applicable under the stricter model is applicable under the other.
  pub goes_too : (s : GroundAction) (st : State) → inapplicable D L s st ≡ false → inapplicable D M s st ≡ false
  goes_too s st goes =
      is_false
      _
      (λ e. let (n, h, p) = inapplicable_out D s M st e in clash _ (inapplicable_in_lem D s L st n h (strict.needs _ _ n p)) goes)

  module _ (valid : Valid D L) (valid' : Valid D M) where
    -- And it yields the same state under both.
    pub same_next : (s : GroundAction) (st : State) → Proper D s → inapplicable D L s st ≡ false → next D M s st ≡ next D L s st
    same_next s st proper goes = λ i f. each_fact D s (λ g. next D M s st g ≡ next D L s st g) on off f i
      where
        met : (n : ℕ) → D.atom s.action n ≡ true → L.precondition (not (st (s.ground n))) s.action n ≡ false
        met n atom = is_false _ (λ e. clash _ (inapplicable_in_lem D s L st n (proper.ranged n atom) e) goes)

        on : (n : ℕ) → D.atom s.action n ≡ true → next D M s st (s.ground n) ≡ next D L s st (s.ground n)
        on n atom = next_at D s M valid' st proper n atom ∙ strict.alike _ _ n atom (met n atom) ∙ sym (next_at D s L valid st proper n atom)

        off : (f : ℕ) → image D (D.atom s.action) s f ≡ false → next D M s st f ≡ next D L s st f
        off f e = next_off D s M valid' st f e ∙ sym (next_off D s L valid st f e)

    -- Where the stricter run ends, the other ends in the same state; where it stops, the other does not stop earlier.
    pub lockstep : (plan : List GroundAction) → Grounded D plan → (st : State) (k : ℕ) → NoLater (run D L plan st k) (run D M plan st k)
    unfolding run
    lockstep [] grounded st k = refl
    lockstep (s ∷ plan) grounded st k = go (decide (inapplicable D L s st)) (lockstep plan (λ r m. grounded r (there m)) (next D L s st) (suc k))
      where
        go : (inapplicable D L s st ≡ true) ⊎ (inapplicable D L s st ≡ false) → NoLater (run D L plan (next D L s st) (suc k)) (run D M plan (next D L s st) (suc k))
            → NoLater (run D L (s ∷ plan) st k) (run D M (s ∷ plan) st k)
        go (inl e) rest = rw (run_stop D L s plan st k e) (λ j h. (run_within D M (s ∷ plan) st k j h).0)
        go (inr e) rest =
            rw (run_go D L s plan st k e, run_go D M s plan st k (goes_too s st e), same_next s st (grounded s here) e) rest
