-- One step over masks is one step of the model: inapplicable alike, and after it the mask of the next state.
-- Injective grounding is not asked: both sides lay down all removed facts before any added one.
use Prim.Native.Nat.{ℕ, ◌<◌, ◌≤◌}
use native.Mathlib.Omega.{arith}
use mathlib.Core.Path.{◌≡◌, refl, sym, ap, ap₂, ◌∙◌}
use mathlib.Core.Bool.{Bool, true, false, cond, not, ◌&&◌, ◌||◌, and-true, and-false, or-false}
use lib.Dec.{eqb}
use Rattle.truth.specs.Bools.{is_false, and_out}
use Rattle.limits.specs.Limits.{state_size, set_size, max_atoms}
use Rattle.mask.specs.Sets.{mask_of}
use Rattle.mask.proofs.Whole.{test_mask_of, mask_of_same}
use Rattle.model.specs.Domain.{Domain, State, GroundAction}
use Rattle.model.specs.Model.{Model, Valid, image, inapplicable, next}
use Rattle.quantify.proofs.Quantify.{below_cong, below_wide}
use Rattle.model.proofs.Next.{image_out}
use Rattle.statemask.specs.Statemask.{MoveRules, unmet, inapplicable_in, effects, next_in, touched}
use Rattle.statemask.specs.Executing.{AllInMask, Ruled, InMask}
use Rattle.statemask.proofs.Masks.{test_mask, effects_mask}

-- a value is needed to be what it is not
either : (need : Bool → Bool) (t : Bool) → (need true && not t || need false && t) ≡ need (not t)
either need true = ap₂ (λ a b. a || b) (and-false (need true)) (and-true (need false))
either need false = ap₂ (λ a b. a || b) (and-true (need true)) (and-false (need false)) ∙ or-false (need true)

-- what was removed and then added
put_last : (added removed x : Bool) → cond added true (cond removed false x) ≡ (added || (x && not removed))
put_last true removed x = refl
put_last false true x = sym (and-false x)
put_last false false x = sym (and-true x)

module _ (D : Domain) (M : Model) (few : D.atoms ≤ max_atoms) (valid : Valid D M) (s : GroundAction) (fits : InMask D s) where
  -- the facts of a set of the model's are those of its mask
  image_mask : (q : ℕ → Bool) → ((n : ℕ) → q n ≡ true → D.atom s.action n ≡ true)
      → (f : ℕ) → touched (mask_of set_size q) s.ground max_atoms f ≡ image D q s f
  unfolding touched image
  image_mask q own f =
      below_cong max_atoms _ _ (λ n l. ap (λ t. t && eqb (s.ground n) f) (test_mask_of set_size q n l))
      ∙ below_wide max_atoms D.atoms (λ n. q n && eqb (s.ground n) f) few (λ n e. fits.ranged n (own n (and_out (q n) _ e).0))

  -- The state after the step has no fact from the bound on either.
  pub next_under : (st : State) → AllInMask st → AllInMask (next D M s st)
  unfolding next
  next_under st under f h =
      let off : image D (M.effect true s.action) s f ≡ false = is_false _
      (λ e.
      let (n, l, t, g) = image_out D s (M.effect true s.action) f e in
      omega (arith, fits.under n (valid.effect_atom true s.action n t)))
      in
      rw (off, under f h)

  module _ (R : MoveRules) (ruled : Ruled M s.action R) (st : State) (under : AllInMask st) where
    unmet_mask : (n : ℕ) → n < max_atoms → unmet R s.ground (mask_of state_size st) n ≡ M.precondition (not (st (s.ground n))) s.action n
    unfolding unmet
    unmet_mask n l =
        rw
        (ruled.needed, ruled.needed_not, test_mask_of set_size (M.precondition true s.action) n l, test_mask_of set_size (M.precondition false s.action) n l, test_mask st under (s.ground n))
        (either (λ b. M.precondition b s.action n) (st (s.ground n)))

    -- The step is inapplicable over the mask exactly if it is in the state.
    pub inapplicable_mask : inapplicable_in R s.ground (mask_of state_size st) ≡ inapplicable D M s st
    unfolding inapplicable_in inapplicable
    inapplicable_mask =
        below_cong max_atoms _ _ unmet_mask
        ∙ below_wide max_atoms D.atoms (λ n. M.precondition (not (st (s.ground n))) s.action n) few
        (λ n e. fits.ranged n (valid.needed_atom _ s.action n e))

    -- The mask after the step is that of the next state.
    pub next_mask : next_in R s.ground (mask_of state_size st) ≡ mask_of state_size (next D M s st)
    unfolding next_in next
    next_mask =
        ap (λ l. effects true R.added s.ground l max_atoms) (effects_mask false R.removed s.ground state_size st max_atoms)
        ∙ effects_mask true R.added s.ground state_size (λ f. cond (touched R.removed s.ground max_atoms f) false (st f)) max_atoms
        ∙ mask_of_same state_size _ _ (λ f h. laid f)
      where
        laid : (f : ℕ) → cond (touched R.added s.ground max_atoms f) true (cond (touched R.removed s.ground max_atoms f) false (st f))
            ≡ (image D (M.effect true s.action) s f || (st f && not (image D (M.effect false s.action) s f)))
        laid f =
            rw
            (ruled.added, ruled.removed, image_mask (M.effect true s.action) (valid.effect_atom true s.action) f, image_mask (M.effect false s.action) (valid.effect_atom false s.action) f)
            (put_last (image D (M.effect true s.action) s f) (image D (M.effect false s.action) s f) (st f))
