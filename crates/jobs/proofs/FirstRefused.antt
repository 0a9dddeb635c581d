-- Laws of a row over a list (`first_refused` of answer): the first member for which a test holds is refused, at its own place. They are of any list, any
-- test and any number, so that each row of this shape has them.
use Prim.Native.Nat.{ℕ, ◌≤◌}
use native.Mathlib.Omega.{arith}
use mathlib.Core.Path.{◌≡◌, refl, ◌∙◌}
use mathlib.Core.Logic.{◌⊎◌, inl, inr}
use mathlib.Core.Bool.{Bool, true, false}
use mathlib.Core.List.{List, [], ◌∷◌, ◌++◌}
use Rattle.answer.specs.Answer.{Good, Refused, ◌>>=◌, first_refused, max_number}
use Rattle.answer.proofs.Laws.{refuse_met, refuse_unmet}
use Rattle.answer.proofs.Bounds.{Bounded, bounded_good, bounded_row}
use Rattle.truth.specs.Bools.{clash, decide, neither}
use Rattle.quantify.specs.Quantify.{any, Mem, here, there}

module _ {A : Type 0} (bad : A → Bool) (num : ℕ) (placed : A → ℕ) where
  pub first_refused_here : (x : A) (xs : List A) → bad x ≡ true → first_refused bad num placed (x ∷ xs) ≡ Refused num (placed x)
  unfolding first_refused
  first_refused_here x xs e = refuse_met _ num (placed x) _ e

  pub first_refused_later : (x : A) (xs : List A) → bad x ≡ false → first_refused bad num placed (x ∷ xs) ≡ first_refused bad num placed xs
  unfolding first_refused
  first_refused_later x xs e = refuse_unmet _ num (placed x) _ e

  -- the test holds of none,
  pub first_refused_none : (xs : List A) → any bad xs ≡ false → first_refused bad num placed xs ≡ Good 0
  unfolding first_refused any
  first_refused_none [] e = refl
  first_refused_none (x ∷ xs) e = let (head, tail) = neither (bad x) (any bad xs) e in first_refused_later x xs head ∙ first_refused_none xs tail

  -- or of some: then the answer is the refusal of one of these
  pub first_refused_some : (xs : List A) → any bad xs ≡ true → (x : A) × Mem x xs × (bad x ≡ true) × (first_refused bad num placed xs ≡ Refused num (placed x))
  unfolding any
  first_refused_some [] e = clash false e refl
  first_refused_some (x ∷ xs) e = go (decide (bad x)) (first_refused_some xs)
    where
      go : (bad x ≡ true) ⊎ (bad x ≡ false) → (any bad xs ≡ true → (y : A) × Mem y xs × (bad y ≡ true) × (first_refused bad num placed xs ≡ Refused num (placed y)))
          → (y : A) × Mem y (x ∷ xs) × (bad y ≡ true) × (first_refused bad num placed (x ∷ xs) ≡ Refused num (placed y))
      go (inl h) rest = (x, here, h, first_refused_here x xs h)
      go (inr h) rest = let (y, m, t, q) = rest (rw h at e) in (y, there m, t, first_refused_later x xs h ∙ q)

  -- lists in a row: the second is asked where the first is not refused
  pub first_refused_append : (xs ys : List A) → first_refused bad num placed (xs ++ ys) ≡ (first_refused bad num placed xs >>= λ _. first_refused bad num placed ys)
  unfolding first_refused ◌>>=◌
  first_refused_append [] ys = refl
  first_refused_append (x ∷ xs) ys = go (decide (bad x)) (first_refused_append xs ys)
    where
      go : (bad x ≡ true) ⊎ (bad x ≡ false) → first_refused bad num placed (xs ++ ys) ≡ (first_refused bad num placed xs >>= λ _. first_refused bad num placed ys)
          → first_refused bad num placed (x ∷ (xs ++ ys)) ≡ (first_refused bad num placed (x ∷ xs) >>= λ _. first_refused bad num placed ys)
      go (inl e) rest = first_refused_here x (xs ++ ys) e ∙ rw (first_refused_here x xs e)
      go (inr e) rest = first_refused_later x (xs ++ ys) e ∙ rest ∙ rw (first_refused_later x xs e)

  -- another test that agrees on the members
  pub first_refused_same : (other : A → Bool) (xs : List A) → ((x : A) → Mem x xs → bad x ≡ other x) → first_refused bad num placed xs ≡ first_refused other num placed xs
  unfolding first_refused
  first_refused_same other [] same = refl
  first_refused_same other (x ∷ xs) same = rw (same x here, first_refused_same other xs (λ y m. same y (there m)))

  -- places within a size
  pub first_refused_bounded : (size : ℕ) → num ≤ max_number → (xs : List A) → ((x : A) → Mem x xs → placed x ≤ size) → Bounded size (first_refused bad num placed xs)
  unfolding first_refused
  first_refused_bounded size few [] all = bounded_good size 0 (omega arith)
  first_refused_bounded size few (x ∷ xs) all =
      bounded_row size _ num (placed x) _ few (all x here) (λ e. first_refused_bounded size few xs (λ y m. all y (there m)))
