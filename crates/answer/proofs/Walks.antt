-- Laws of a walk over a number of items (specs/Walk.antt).
use Prim.Native.Nat.{ℕ, zero, suc, ◌-◌, ◌≤◌, ◌<◌}
use mathlib.Core.Path.{◌≡◌, refl, ◌∙◌, subst}
use native.Mathlib.Numerals.{sub-one}
use native.Mathlib.Omega.{arith}
use Rattle.answer.specs.Answer.{Answer, Good, Refused, ◌>>=◌}
use Rattle.answer.proofs.Laws.{bind_good, bind_unit, parted}
use Rattle.answer.specs.Walk.{walk}

module _ (item : ℕ → Answer) where
  pub walk_none : (n at : ℕ) → n ≡ 0 → walk item n at ≡ Good at
  unfolding walk
  walk_none n at e = rw e

  pub walk_refused : (n at k p : ℕ) → 0 < n → item at ≡ Refused k p → walk item n at ≡ Refused k p
  unfolding walk ◌>>=◌
  walk_refused zero at k p h e = absurd (omega arith)
  walk_refused (suc n) at k p h e = rw e

  pub walk_good : (n at next : ℕ) → 0 < n → item at ≡ Good next → walk item n at ≡ walk item (n - 1) next
  unfolding walk ◌>>=◌
  walk_good zero at next h e = absurd (omega arith)
  walk_good (suc n) at next h e = rw (e, sub-one)

  -- The first item of a good walk is good, and so is the walk after it.
  pub walk_parted : (n at last : ℕ) → walk item (suc n) at ≡ Good last → (next : ℕ) × (item at ≡ Good next) × (walk item n next ≡ Good last)
  unfolding walk
  walk_parted n at last e = parted (item at) last _ e

  -- Induction: a property of (items left, offset, end) holds of a good walk if it holds where no item is left, and holds before a good item whenever
  -- it holds behind that item.
  pub walk_induction : (Q : ℕ → ℕ → ℕ → Type 0) → ((at : ℕ) → Q 0 at at)
      → ((n at next last : ℕ) → item at ≡ Good next → Q n next last → Q (suc n) at last)
      → (n at last : ℕ) → walk item n at ≡ Good last → Q n at last
  unfolding walk
  walk_induction Q none more zero at last e =
      let h : at ≡ last = cc in
      subst (λ (x : ℕ). Q 0 at x) h (none at)
  walk_induction Q none more (suc n) at last e =
      let (next, good, rest) = walk_parted n at last e in
      more n at next last good (walk_induction Q none more n next last rest)

  -- one item more than a good walk has
  pub walk_last : (n at last : ℕ) → walk item n at ≡ Good last → walk item (suc n) at ≡ item last
  unfolding walk
  walk_last =
      walk_induction (λ n at last. walk item (suc n) at ≡ item last) (λ at. bind_unit (item at))
      (λ n at next last good rest. bind_good _ _ _ good ∙ rest)

-- Two walks side by side: for each good item of the first that ends by `most` the second has a good item at a related offset, and where the two items
-- end is related again. Then for a good walk of the first that ends by `most` the second has a good walk.
pub walk_beside : (f g : ℕ → Answer) (R : ℕ → ℕ → Type 0) (most : ℕ)
    → ((at next : ℕ) → f at ≡ Good next → at ≤ next)
    → ((a b next : ℕ) → R a b → next ≤ most → f a ≡ Good next → (m : ℕ) × R next m × (g b ≡ Good m))
    → (n a b last : ℕ) → R a b → last ≤ most → walk f n a ≡ Good last → (m : ℕ) × R last m × (walk g n b ≡ Good m)
unfolding walk
walk_beside f g R most grows item n a b last r l e =
    (walk_induction f (λ n a last. (a ≤ last) × (last ≤ most → (b : ℕ) → R a b → (m : ℕ) × R last m × (walk g n b ≡ Good m)))
    (λ a. (omega arith, λ l b r. (b, r, refl)))
    (λ n a next last good rest.
    let up = grows a next good in (
      omega arith,
      λ l b r.
          let (m, r', e) = item a b next r (omega arith) good in
          let (z, r'', e') = rest.1 l m r' in
          (z, r'', bind_good _ _ _ e ∙ e'),
    ))
    n a last e).1 l b r
