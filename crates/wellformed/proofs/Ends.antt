-- The end state of a plan: it has no fact that neither the start nor a step's atoms could give it.
use Prim.Native.Nat.{ℕ, suc, ◌<◌}
use native.Mathlib.Decide.{dec_lt}
use native.Mathlib.Omega.{arith}
use mathlib.Core.Path.{◌≡◌, refl, sym, ◌∙◌}
use mathlib.Core.Logic.{◌⊎◌, inl, inr, ⊎_elim}
use mathlib.Core.Bool.{true, false}
use mathlib.Core.List.{List, [], ◌∷◌}
use Rattle.truth.specs.Bools.{clash, decide, is_false, and_out, or_out}
use Rattle.quantify.specs.Quantify.{Mem, here, there}
use Rattle.model.specs.Domain.{Domain, State, GroundAction}
use Rattle.model.specs.Model.{Model, Valid, ended, image, inapplicable, next, run}
use Rattle.model.proofs.Next.{image_out}
use Rattle.model.proofs.Lockstep.{run_stop, run_go}
use Rattle.model.proofs.Judge.{not_both, one_end}
use Rattle.model.specs.Formed.{Under}

-- no fact holds but those that have a property
abbrev pub HoldsOnly : (ℕ → Type 0) → State → Type 0
HoldsOnly P st = (f : ℕ) → st f ≡ true → P f

module _ (D : Domain) (M : Model) (valid : Valid D M) (P : ℕ → Type 0) where
  -- the atoms of the step's action become facts that have it
  abbrev pub GroundsWithin : GroundAction → Type 0
  GroundsWithin s = (n : ℕ) → D.atom s.action n ≡ true → P (s.ground n)

  next_within : (s : GroundAction) → GroundsWithin s → (st : State) → HoldsOnly P st → HoldsOnly P (next D M s st)
  unfolding next
  next_within s grounds st within f e =
      ⊎_elim
      (λ added.
      let (n, l, p, g) = image_out D s (M.effect true s.action) f added in
      rw g at (grounds n (valid.effect_atom true s.action n p)))
      (λ kept. within f (and_out (st f) _ kept).0)
      (or_out (image D (M.effect true s.action) s f) _ e)

  -- A run keeps to the facts that have the property.
  pub run_holds_only : (plan : List GroundAction) → ((s : GroundAction) → Mem s plan → GroundsWithin s) → (st : State) → HoldsOnly P st
      → (k : ℕ) (end : State) → run D M plan st k ≡ ended end → HoldsOnly P end
  unfolding run
  run_holds_only [] grounds st within k end e = rw (one_end _ end st refl (sym e)) within
  run_holds_only (s ∷ plan) grounds st within k end e = go (decide (inapplicable D M s st)) (run_holds_only plan (λ r m. grounds r (there m)) (next D M s st) (next_within s (grounds s here) st within) (suc k) end)
    where
      go : (inapplicable D M s st ≡ true) ⊎ (inapplicable D M s st ≡ false) → (run D M plan (next D M s st) (suc k) ≡ ended end → HoldsOnly P end) → HoldsOnly P end
      go (inl h) rest = absurd (not_both _ k end (run_stop D M s plan st k h) e)
      go (inr h) rest = rest (sym (run_go D M s plan st k h) ∙ e)

under_within : (bound : ℕ) (st : State) → Under bound st → HoldsOnly (λ f. f < bound) st
under_within bound st under f e = go (dec_lt f bound)
  where
    go : Dec (f < bound) → f < bound
    go (yes l) = l
    go (no l) = clash (st f) e (under f (omega arith))

-- A run keeps to the facts under a bound.
pub run_under : (D : Domain) (M : Model) → Valid D M → (bound : ℕ) (plan : List GroundAction)
    → ((s : GroundAction) → Mem s plan → (n : ℕ) → D.atom s.action n ≡ true → s.ground n < bound) → (st : State) → Under bound st
    → (k : ℕ) (end : State) → run D M plan st k ≡ ended end → Under bound end
run_under D M valid bound plan grounds st under k end e f l =
    is_false _ (λ h. omega (arith, run_holds_only D M valid (λ x. x < bound) plan grounds st (under_within bound st under) k end e f h))
