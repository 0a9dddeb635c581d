-- The state after a step, fact by fact: at an atom's fact it is what the action makes of the value there, elsewhere it stays.
use Prim.Native.Nat.{ℕ, ◌<◌}
use mathlib.Core.Path.{◌≡◌, refl}
use mathlib.Core.Logic.{◌⊎◌, inl, inr}
use mathlib.Core.Bool.{Bool, true, false, not, and-true}
use lib.Dec.{eqb}
use borrow.Author.Tests.{eqb-true, eq-eqb}
use Rattle.truth.specs.Bools.{clash, decide, is_false, bool_eq, and_in, and_out}
use Rattle.model.specs.Domain.{Domain, State, GroundAction}
use Rattle.model.specs.Model.{Model, Valid, image, inapplicable, next}
use Rattle.model.specs.Formed.{Proper}
use Rattle.model.specs.Stricter.{value}
use Rattle.quantify.proofs.Quantify.{below_in, below_out}

module _ (D : Domain) (s : GroundAction) where
  pub image_in : (q : ℕ → Bool) (n : ℕ) → n < D.atoms → q n ≡ true → image D q s (s.ground n) ≡ true
  unfolding image
  image_in q n h e = below_in _ _ n h (and_in (q n) _ e (eq-eqb (s.ground n) _ refl))

  pub image_out : (q : ℕ → Bool) (f : ℕ) → image D q s f ≡ true → (n : ℕ) × (n < D.atoms) × (q n ≡ true) × (s.ground n ≡ f)
  unfolding image
  image_out q f e =
      let (n, h, p) = below_out _ _ e in
      let (l, r) = and_out (q n) (eqb (s.ground n) f) p in
      (n, h, l, eqb-true (s.ground n) f r)

  -- what holds of the fact of each atom, and of each fact of no atom, holds of every fact
  pub each_fact : (Q : ℕ → Type 0) → ((n : ℕ) → D.atom s.action n ≡ true → Q (s.ground n))
      → ((f : ℕ) → image D (D.atom s.action) s f ≡ false → Q f) → (f : ℕ) → Q f
  each_fact Q on off f = go (decide (image D (D.atom s.action) s f))
    where
      go : (image D (D.atom s.action) s f ≡ true) ⊎ (image D (D.atom s.action) s f ≡ false) → Q f
      go (inl e) = let (n, h, atom, g) = image_out (D.atom s.action) f e in rw g at (on n atom)
      go (inr e) = off f e

  -- a set of atoms has the fact of an atom exactly if it has the atom
  pub image_at : Proper D s → (q : ℕ → Bool) → ((n : ℕ) → q n ≡ true → D.atom s.action n ≡ true)
      → (n : ℕ) → D.atom s.action n ≡ true → image D q s (s.ground n) ≡ q n
  image_at proper q own n atom =
      bool_eq
      _
      _
      (λ e. let (m, h, p, g) = image_out q (s.ground n) e in rw (proper.apart m n (own m p) atom g) at p)
      (λ e. image_in q n (proper.ranged n atom) e)

  -- a set of atoms has no fact but those of atoms
  pub image_off : (q : ℕ → Bool) → ((n : ℕ) → q n ≡ true → D.atom s.action n ≡ true)
      → (f : ℕ) → image D (D.atom s.action) s f ≡ false → image D q s f ≡ false
  image_off q own f off =
      is_false
      _
      (λ e. let (n, h, p, g) = image_out q f e in clash _ (rw g at (image_in (D.atom s.action) n h (own n p))) off)

  module _ (M : Model) (valid : Valid D M) (st : State) where
    pub next_at : Proper D s → (n : ℕ) → D.atom s.action n ≡ true → next D M s st (s.ground n) ≡ value M s.action n (st (s.ground n))
    unfolding next value
    next_at proper n atom =
        rw (image_at proper (M.effect true s.action) (valid.effect_atom true s.action) n atom, image_at proper (M.effect false s.action) (valid.effect_atom false s.action) n atom)

    pub next_off : (f : ℕ) → image D (D.atom s.action) s f ≡ false → next D M s st f ≡ st f
    unfolding next
    next_off f off =
        rw (image_off (M.effect true s.action) (valid.effect_atom true s.action) f off, image_off (M.effect false s.action) (valid.effect_atom false s.action) f off)
        (and-true (st f))

  module _ (M : Model) (st : State) where
    pub inapplicable_in_lem : (n : ℕ) → n < D.atoms → M.precondition (not (st (s.ground n))) s.action n ≡ true → inapplicable D M s st ≡ true
    unfolding inapplicable
    inapplicable_in_lem n h e = below_in _ _ n h e

    pub inapplicable_out : inapplicable D M s st ≡ true → (n : ℕ) × (n < D.atoms) × (M.precondition (not (st (s.ground n))) s.action n ≡ true)
    unfolding inapplicable
    inapplicable_out e = below_out _ _ e
