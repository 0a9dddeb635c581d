-- Recorded steps parted into those that went and those that did not: which they are, of lists in a row and of steps at other offsets.
use Prim.Native.Nat.{ℕ}
use mathlib.Core.Path.{◌≡◌, refl}
use mathlib.Core.Bool.{true, false, not}
use mathlib.Core.List.{List, [], ◌∷◌, ◌++◌}
use borrow.Author.Tests.{not-true}
use Rattle.truth.specs.Bools.{not_in}
use Rattle.quantify.specs.Quantify.{any, Mem}
use Rattle.quantify.proofs.Chosen.{chosen_take, chosen_skip, chosen_none, chosen_in, chosen_out, chosen_append, chosen_map}
use Rattle.quantify.proofs.Mapped.{mem_map_out}
use Rattle.format.specs.Form.{Form}
use Rattle.format.specs.Decode.{RecordedStep, placed_at, placed_by}
use Rattle.model.specs.Domain.{Transition}
use Rattle.jobs.specs.Planning.{transition, went_steps, failed_steps, schema_of, steps_of_book, transitions_of}

pub went_in : (xs : List RecordedStep) {x : RecordedStep} → Mem x xs → x.went ≡ true → Mem x (went_steps xs)
unfolding went_steps
went_in xs m e = chosen_in _ xs m e

pub went_out : (xs : List RecordedStep) {x : RecordedStep} → Mem x (went_steps xs) → Mem x xs × (x.went ≡ true)
unfolding went_steps
went_out xs m = chosen_out _ xs m

pub failed_out : (xs : List RecordedStep) {x : RecordedStep} → Mem x (failed_steps xs) → Mem x xs × (x.went ≡ false)
unfolding failed_steps
failed_out xs m = let (k, e) = chosen_out _ xs m in (k, not-true _ e)

-- the first of some steps, by whether it went
module _ (x : RecordedStep) (xs : List RecordedStep) where
  pub went_take : x.went ≡ true → went_steps (x ∷ xs) ≡ x ∷ went_steps xs
  unfolding went_steps
  went_take e = chosen_take _ x xs e

  pub went_skip : x.went ≡ false → went_steps (x ∷ xs) ≡ went_steps xs
  unfolding went_steps
  went_skip e = chosen_skip _ x xs e

  pub failed_take : x.went ≡ false → failed_steps (x ∷ xs) ≡ x ∷ failed_steps xs
  unfolding failed_steps
  failed_take e = chosen_take _ x xs (not_in _ e)

  pub failed_skip : x.went ≡ true → failed_steps (x ∷ xs) ≡ failed_steps xs
  unfolding failed_steps
  failed_skip e = chosen_skip _ x xs (rw e)

pub failed_append : (xs ys : List RecordedStep) → failed_steps (xs ++ ys) ≡ failed_steps xs ++ failed_steps ys
unfolding failed_steps
failed_append xs ys = chosen_append _ xs ys

-- where all went, none failed
pub failed_none : (xs : List RecordedStep) → any (λ x. not x.went) xs ≡ false → failed_steps xs ≡ []
unfolding failed_steps
failed_none xs e = chosen_none _ xs e

-- the offset does not tell
pub went_placed : (to : ℕ → ℕ) (xs : List RecordedStep) → went_steps (placed_by to xs) ≡ placed_by to (went_steps xs)
unfolding went_steps placed_by placed_at
went_placed to xs = chosen_map (λ x. x.went) (λ x. x.went) (λ x. placed_at (to x.place) x) (λ x. refl) xs

pub failed_placed : (to : ℕ → ℕ) (xs : List RecordedStep) → failed_steps (placed_by to xs) ≡ placed_by to (failed_steps xs)
unfolding failed_steps placed_by placed_at
failed_placed to xs = chosen_map (λ x. not x.went) (λ x. not x.went) (λ x. placed_at (to x.place) x) (λ x. refl) xs

-- a transition of a book is a recorded step that went
pub transition_out : (form : Form) (s : List ℕ) {t : Transition} → Mem t (transitions_of form s)
    → (x : RecordedStep) × Mem x (steps_of_book form s) × (x.went ≡ true) × (transition (schema_of s) x ≡ t)
unfolding transitions_of
transition_out form s m =
    let (x, k, e) = mem_map_out (transition (schema_of s)) (went_steps (steps_of_book form s)) m in
    let (l, went) = went_out (steps_of_book form s) k in
    (x, l, went, e)
