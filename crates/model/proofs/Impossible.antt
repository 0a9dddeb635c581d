-- Where row 11 or 12 is met no model is consistent. Elsewhere a model is consistent exactly if it is valid and explains what was seen at each
-- atom; the learned model does.
use Prim.Native.Nat.{ℕ}
use mathlib.Core.Path.{◌≡◌, sym, ◌∙◌}
use mathlib.Core.Logic.{◌⊎◌, inl, inr, ◌↔◌}
use mathlib.Core.Bool.{true, false, not, not-not}
use mathlib.Core.List.{List}
use lib.Dec.{leb}
use borrow.Author.Tests.{leb-true, leb-false}
use Rattle.truth.specs.Bools.{clash, decide, is_false, is_true}
use Rattle.quantify.specs.Quantify.{Mem}
use Rattle.model.specs.Domain.{Domain, Transition}
use Rattle.model.specs.Model.{Model, Valid, Fits, Consistent, image, inapplicable, next}
use Rattle.model.specs.Learned.{learned, unbound_effect, conflicting}
use Rattle.model.specs.Check.{inconsistent}
use Rattle.model.specs.Formed.{Formed}
use Rattle.model.specs.Stricter.{value}
use Rattle.quantify.proofs.Truth.{same_in, same_out}
use Rattle.model.proofs.Next.{each_fact, next_at, next_off, inapplicable_out}
use Rattle.model.proofs.Seen.{sight, before_in, after_in, turned_out, need_out, effect_out}
use Rattle.model.proofs.Stricter.{Unconflicted, Explains, explains, learned_makes, model_unconflicted}
use Rattle.model.proofs.Rows.{unbound_in, unbound_out, conflicting_in, conflicting_out, inconsistent_out, no_unbound, no_conflicting}

module _ (D : Domain) (ts : List Transition) (formed : Formed D ts) where
  -- A consistent model shows that neither row is met.
  pub possible : (M : Model) → Consistent D ts M → inconsistent D ts ≡ false
  possible M consistent = is_false _ (λ e. go (inconsistent_out D ts e))
    where
      go : ((t : Transition) × Mem t ts × (unbound_effect D t ≡ true)) ⊎ ((a : ℕ) × (conflicting D ts a ≡ true)) → ⊥
      go (inl (t, m, h)) =
          let (f, turns, off) = unbound_out D t h in
          turns (sym ((consistent.fits t m).yields f ∙ next_off D t.step M consistent.valid t.pre f off))
      go (inr (a, h)) = let (n, atom, conflicting) = conflicting_out D ts a h in conflicting (model_unconflicted D ts M (explains D ts formed M consistent) a n atom)

  module _ (clean : inconsistent D ts ≡ false) where
    -- a fact of no atom of the step stays
    pub stays : (t : Transition) → Mem t ts → (f : ℕ) → image D (D.atom t.step.action) t.step f ≡ false → t.pre f ≡ t.post f
    stays t m f off = go (decide (leb D.facts f))
      where
        go : (leb D.facts f ≡ true) ⊎ (leb D.facts f ≡ false) → t.pre f ≡ t.post f
        go (inl h) = formed.within t m f (leb-true D.facts f h)
        go (inr h) =
            same_out
            _
            _
            (is_true _ (λ e. clash _ (unbound_in D t f (leb-false D.facts f h) (λ q. clash _ (same_in _ _ q) e) off) (no_unbound D ts clean t m)))

    -- A valid model fits a transition that it does not stop at, if it makes of the value at each atom what is there after.
    pub fits_from : (M : Model) → Valid D M → (t : Transition) → Mem t ts → inapplicable D M t.step t.pre ≡ false
        → ((n : ℕ) → D.atom t.step.action n ≡ true → value M t.step.action n (t.pre (t.step.ground n)) ≡ t.post (t.step.ground n)) → Fits D M t
    fits_from M valid t m goes makes =
        record {
          goes = goes;
          yields =
              each_fact D t.step (λ f. t.post f ≡ next D M t.step t.pre f)
              (λ n atom. sym (next_at D t.step M valid t.pre (formed.proper t m) n atom ∙ makes n atom))
              (λ f off. sym (next_off D t.step M valid t.pre f off ∙ stays t m f off));
        }

    pub clean_unconflicted : (a n : ℕ) → D.atom a n ≡ true → Unconflicted ts a n
    clean_unconflicted a n atom y e h =
        let s = turned_out ts a n y e in
        let t = s.transition in
        let (low, high) = rw s.action at (formed.known t s.member) in
        let ranged = (formed.proper t s.member).ranged n (rw s.action atom) in
        clash _ (conflicting_in D ts a n ranged atom y e h) (no_conflicting D ts clean a low high)

    pub learned_valid : Valid D (learned D ts)
    learned_valid =
        record {
          needed_atom = λ b a n e. (need_out D ts b a n e).0;
          effect_atom = λ b a n e. (effect_out D ts b a n e).0;
          exclusive = λ a n e h.
              let (atom, up) = effect_out D ts true a n e in
              clean_unconflicted a n atom true up (after_in ts a n true false (turned_out ts a n false (effect_out D ts false a n h).1));
        }

    -- Where neither row is met, a model is consistent exactly if it is valid and explains what was seen at each atom alone;
    pub local_iff : (M : Model) → Consistent D ts M ↔ (Valid D M × Explains D ts M)
    local_iff M = (
      λ c. (c.valid, explains D ts formed M c),
      λ (valid, explained).
          record {
            valid = valid;
            fits = λ t m.
                fits_from M valid t m
                (is_false
                _
                (λ e.
                let (n, h, p) = inapplicable_out D t.step M t.pre e in
                clash _ p (explained.met _ n (valid.needed_atom _ _ n p) _ _ (sight ts t n m))))
                (λ n atom. explained.made _ n atom _ _ (sight ts t n m));
          },
    )

    -- so the learned model is.
    pub learned_consistent : Consistent D ts (learned D ts)
    learned_consistent = (local_iff (learned D ts)).1 (learned_valid, explained)
      where
        explained : Explains D ts (learned D ts)
        explained =
            record {
              made = λ a n atom x y s. learned_makes D ts a n atom (clean_unconflicted a n atom) x y s;
              met = λ a n atom x y s. is_false _ (λ e. clash _ (before_in ts a n x y s) (rw not-not at (need_out D ts (not x) a n e).1));
            }
