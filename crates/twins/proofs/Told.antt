-- Two lists of recorded steps with the same members but for their places: so are those of them that went, and those that did not, and what is made of
-- a step without its place is made of both lists.
use mathlib.Core.Path.{◌≡◌, refl, sym, ap₂, subst}
use mathlib.Core.Logic.{◌↔◌}
use mathlib.Core.Bool.{not}
use mathlib.Core.List.{List, [], ◌∷◌, map}
use Rattle.format.specs.Decode.{RecordedStep, placed_at, placed_by}
use Rattle.quantify.specs.Quantify.{Mem}
use Rattle.quantify.proofs.Chosen.{chosen_alike}
use Rattle.quantify.proofs.Mapped.{map_alike}
use Rattle.jobs.specs.Planning.{went_steps, failed_steps}
use Rattle.jobs.proofs.Parted.{went_placed, failed_placed}
use Rattle.converted.specs.Converted.{unplaced}

-- the same steps, wherever each is recorded
abbrev pub SameUnplaced : List RecordedStep → List RecordedStep → Type 0
SameUnplaced xs ys = (x : RecordedStep) → Mem x (unplaced xs) ↔ Mem x (unplaced ys)

module _ (xs ys : List RecordedStep) (same : SameUnplaced xs ys) where
  pub went_same : SameUnplaced (went_steps xs) (went_steps ys)
  unfolding unplaced went_steps
  went_same x = rw (← went_placed (λ at. 0) xs, ← went_placed (λ at. 0) ys) (chosen_alike (λ z. z.went) (unplaced xs) (unplaced ys) same x)

  pub failed_same : SameUnplaced (failed_steps xs) (failed_steps ys)
  unfolding unplaced failed_steps
  failed_same x = rw (← failed_placed (λ at. 0) xs, ← failed_placed (λ at. 0) ys) (chosen_alike (λ z. not z.went) (unplaced xs) (unplaced ys) same x)

-- a value made of each step without its place, and what is kept of that value
module _ {B C : Type 0} (cut : B → C) where
  unplaced_told : (made : RecordedStep → B) → ((x : RecordedStep) → made (placed_at 0 x) ≡ made x) → (xs : List RecordedStep)
      → map cut (map made xs) ≡ map (λ x. cut (made x)) (unplaced xs)
  unfolding unplaced placed_by
  unplaced_told made still [] = refl
  unplaced_told made still (x ∷ xs) =
      ap₂ (λ (b : B) (cs : List C). cut b ∷ cs) (sym (still x)) (unplaced_told made still xs)

  -- The same is kept of both lists, made of each its own way.
  pub told_same : (made made' : RecordedStep → B) → ((x : RecordedStep) → made (placed_at 0 x) ≡ made x) → ((x : RecordedStep) → made' (placed_at 0 x) ≡ made' x)
      → ((x : RecordedStep) → cut (made x) ≡ cut (made' x)) → (xs ys : List RecordedStep) → SameUnplaced xs ys
      → (c : C) → Mem c (map cut (map made xs)) ↔ Mem c (map cut (map made' ys))
  told_same made made' still still' each xs ys same c =
      let one : RecordedStep → C = λ x. cut (made x) in
      let other : RecordedStep → C = λ x. cut (made' x) in
      let both : other ≡ one = λ i x. sym (each x) i in
      let told : map cut (map made xs) ≡ map one (unplaced xs) = unplaced_told made still xs in
      let told' : map cut (map made' ys) ≡ map one (unplaced ys) =
      subst (λ (h : RecordedStep → C). map cut (map made' ys) ≡ map h (unplaced ys)) both (unplaced_told made' still' ys) in
      let alike = map_alike one (unplaced xs) (unplaced ys) same c in (
        λ m. subst (λ (cs : List C). Mem c cs) (sym told') (alike.0 (subst (λ (cs : List C). Mem c cs) told m)),
        λ m. subst (λ (cs : List C). Mem c cs) (sym told) (alike.1 (subst (λ (cs : List C). Mem c cs) told' m)),
      )
