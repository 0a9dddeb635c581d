-- Laws of the starts of an order: the first that fails, and what is left of a lent end sheet. They are of any lists, so that starts may be
-- states, facts or masks.
use Prim.Native.Nat.{ℕ, suc, ◌+◌, ◌≤◌}
use mathlib.Core.Path.{◌≡◌, refl, sym, ◌∙◌}
use mathlib.Core.Bool.{true, false}
use mathlib.Core.Logic.{◌⊎◌, inl, inr}
use mathlib.Core.List.{List, [], ◌∷◌, map}
use native.Mathlib.Omega.{arith}
use lib.ListN.{length}
use Rattle.answer.specs.Answer.{Answer, Good, is_refused, unpositioned, Positioned}
use Rattle.truth.specs.Bools.{decide}
use Rattle.quantify.specs.Quantify.{Mem, here, there}
use Rattle.jobs.specs.Check.{first_failing, end_after}

module _ {A : Type 0} (f : A → Answer) (steps : ℕ) where
  pub failing_none : (k : ℕ) → first_failing f steps k [] ≡ unpositioned (Good steps)
  unfolding first_failing
  failing_none k = refl

  pub failing_here : (k : ℕ) (x : A) (xs : List A) → is_refused (f x) ≡ true → first_failing f steps k (x ∷ xs) ≡ record { answer = f x; position = k }
  unfolding first_failing
  failing_here k x xs e = rw (first_failing, e)

  pub failing_later : (k : ℕ) (x : A) (xs : List A) → is_refused (f x) ≡ false → first_failing f steps k (x ∷ xs) ≡ first_failing f steps (suc k) xs
  unfolding first_failing
  failing_later k x xs e = rw (first_failing, e)

  -- what holds of every start's answer and of success holds of the answer
  pub failing_all : (P : Answer → Type 0) → P (Good steps) → (k : ℕ) (xs : List A) → ((x : A) → Mem x xs → P (f x)) → P (first_failing f steps k xs).answer
  unfolding unpositioned
  failing_all P good k [] all = rw (failing_none k) good
  failing_all P good k (x ∷ xs) all = go (decide (is_refused (f x))) (failing_all P good (suc k) xs (λ y m. all y (there m)))
    where
      go : (is_refused (f x) ≡ true) ⊎ (is_refused (f x) ≡ false) → P (first_failing f steps (suc k) xs).answer → P (first_failing f steps k (x ∷ xs)).answer
      go (inl e) rest = rw (failing_here k x xs e) (all x here)
      go (inr e) rest = rw (failing_later k x xs e) rest

  -- an answer with a position is that of a start that fails
  pub failing_some : (P : Answer → Type 0) → ((x : A) → is_refused (f x) ≡ true → P (f x)) → (k : ℕ) (xs : List A)
      → ((first_failing f steps k xs).position ≡ 0) ⊎ P (first_failing f steps k xs).answer
  unfolding unpositioned
  failing_some P fails k [] = inl (rw (failing_none k) refl)
  failing_some P fails k (x ∷ xs) = go (decide (is_refused (f x))) (failing_some P fails (suc k) xs)
    where
      go : (is_refused (f x) ≡ true) ⊎ (is_refused (f x) ≡ false) → ((first_failing f steps (suc k) xs).position ≡ 0) ⊎ P (first_failing f steps (suc k) xs).answer
          → ((first_failing f steps k (x ∷ xs)).position ≡ 0) ⊎ P (first_failing f steps k (x ∷ xs)).answer
      go (inl e) rest = inr (rw (failing_here k x xs e) (fails x e))
      go (inr e) rest = rw (failing_later k x xs e) rest

  pub failing_position : (k : ℕ) (xs : List A) → (first_failing f steps k xs).position ≤ k + length xs
  unfolding unpositioned
  failing_position k [] = rw (failing_none k) (omega arith)
  failing_position k (x ∷ xs) = go (decide (is_refused (f x))) (failing_position (suc k) xs)
    where
      go : (is_refused (f x) ≡ true) ⊎ (is_refused (f x) ≡ false) → (first_failing f steps (suc k) xs).position ≤ suc k + length xs → (first_failing f steps k (x ∷ xs)).position ≤ k + length (x ∷ xs)
      go (inl e) rest = rw (failing_here k x xs e) (omega arith)
      go (inr e) rest = rw (failing_later k x xs e) (omega arith)

-- starts that have the same answers, each for itself
pub failing_same : {A : Type 0} (f g : A → Answer) (steps k : ℕ) (xs : List A) → ((x : A) → Mem x xs → f x ≡ g x) → first_failing f steps k xs ≡ first_failing g steps k xs
failing_same f g steps k [] same = failing_none f steps k ∙ sym (failing_none g steps k)
failing_same f g steps k (x ∷ xs) same = go (decide (is_refused (f x))) (failing_same f g steps (suc k) xs (λ y m. same y (there m)))
  where
    alike : (i : ℕ) → ◌≡◌ {A = Positioned} (record { answer = f x; position = i }) (record { answer = g x; position = i })
    alike i = rw (same x here)

    go : (is_refused (f x) ≡ true) ⊎ (is_refused (f x) ≡ false) → first_failing f steps (suc k) xs ≡ first_failing g steps (suc k) xs
        → first_failing f steps k (x ∷ xs) ≡ first_failing g steps k (x ∷ xs)
    go (inl e) rest = failing_here f steps k x xs e ∙ alike k ∙ sym (failing_here g steps k x xs (rw (same x here) at e))
    go (inr e) rest = failing_later f steps k x xs e ∙ rest ∙ sym (failing_later g steps k x xs (rw (same x here) at e))

-- starts told another way
pub failing_map : {A B : Type 0} (h : A → B) (f : B → Answer) (steps k : ℕ) (xs : List A) → first_failing f steps k (map h xs) ≡ first_failing (λ x. f (h x)) steps k xs
failing_map h f steps k [] = failing_none f steps k ∙ sym (failing_none (λ x. f (h x)) steps k)
failing_map h f steps k (x ∷ xs) = go (decide (is_refused (f (h x)))) (failing_map h f steps (suc k) xs)
  where
    go : (is_refused (f (h x)) ≡ true) ⊎ (is_refused (f (h x)) ≡ false) → first_failing f steps (suc k) (map h xs) ≡ first_failing (λ x. f (h x)) steps (suc k) xs
        → first_failing f steps k (map h (x ∷ xs)) ≡ first_failing (λ x. f (h x)) steps k (x ∷ xs)
    go (inl e) rest = failing_here f steps k (h x) (map h xs) e ∙ sym (failing_here (λ x. f (h x)) steps k x xs e)
    go (inr e) rest = failing_later f steps k (h x) (map h xs) e ∙ rest ∙ sym (failing_later (λ x. f (h x)) steps k x xs e)

pub end_map : {A B : Type 0} (h : A → B) (f : B → List ℕ) (xs : List A) (lent : List ℕ) → end_after f (map h xs) lent ≡ end_after (λ x. f (h x)) xs lent
unfolding end_after
end_map h f [] lent = refl
end_map h f (x ∷ []) lent = refl
end_map h f (x ∷ y ∷ xs) lent = refl

-- the sheet is written for one start alone
pub end_several : {A : Type 0} (f : A → List ℕ) (xs : List A) (lent : List ℕ) → (length xs ≡ 1 → ⊥) → end_after f xs lent ≡ lent
unfolding end_after
end_several f [] lent h = refl
end_several f (x ∷ []) lent h = absurd (h refl)
end_several f (x ∷ y ∷ xs) lent h = refl
