-- What good records in a row say, told by the bytes of each: their steps, and how many these are.
use Prim.Native.Nat.{ℕ, ◌+◌}
use mathlib.Core.Path.{◌≡◌, refl, sym, ap, ap₂, ◌∙◌}
use mathlib.Core.List.{List, [], ◌∷◌, ◌++◌, flat_map}
use Rattle.answer.specs.Answer.{Good}
use Rattle.answer.specs.Walk.{walk}
use Rattle.terms.specs.declared.Sections.{Sections}
use Rattle.format.specs.Form.{Form}
use Rattle.format.specs.Records.{steps_in, length_in, record_at}
use Rattle.format.specs.LookOver.{step_total}
use Rattle.format.specs.Decode.{RecordedStep, steps_of_record, steps_of_records, placed_at, placed_by, moved_by}
use Rattle.format.specs.Parts.{record_part, records_at}
use Rattle.format.proofs.Records.{record_within}
use Rattle.format.proofs.Copies.{placed_append}
use Rattle.format.proofs.Parts.{record_alone, steps_alone_lem}
use Rattle.converted.specs.Converted.{unplaced}
use Rattle.permuted.proofs.Sequences.{total}
use Rattle.answer.proofs.Walks.{walk_induction}

-- the steps that the bytes of a record say by themselves, without their places
unfoldable pub steps_alone : Form → List ℕ → List RecordedStep
steps_alone form r = unplaced (steps_of_record form r 0)

unplaced_moved : (k : ℕ) (fs : List RecordedStep) → unplaced (moved_by k fs) ≡ unplaced fs
unfolding unplaced moved_by placed_by placed_at
unplaced_moved k [] = refl
unplaced_moved k (f ∷ fs) = ap (λ (gs : List RecordedStep). placed_at 0 f ∷ gs) (unplaced_moved k fs)

module _ (form : Form) (h : Sections) (s : List ℕ) where
  pub steps_by_records : (n at last : ℕ) → walk (record_at form h s) n at ≡ Good last → unplaced (steps_of_records form s n at) ≡ flat_map (steps_alone form) (records_at s n at)
  unfolding steps_of_records records_at flat_map steps_alone unplaced placed_by
  steps_by_records =
      walk_induction (record_at form h s) (λ n at last. unplaced (steps_of_records form s n at) ≡ flat_map (steps_alone form) (records_at s n at)) (λ at. refl)
      (λ n at next last good rest.
      placed_append (λ p. 0) (steps_of_record form s at) (steps_of_records form s n (at + length_in s at))
      ∙ ap₂ (λ (fs gs : List RecordedStep). fs ++ gs)
      (ap unplaced (record_alone form h s at next good) ∙ unplaced_moved at (steps_of_record form (record_part s at) 0))
      (rw (record_within form h s at next good).0 at rest))

  pub total_by_records : (n at last : ℕ) → walk (record_at form h s) n at ≡ Good last → step_total s n at ≡ total (λ r. steps_in r 0) (records_at s n at)
  unfolding step_total records_at total
  total_by_records =
      walk_induction (record_at form h s) (λ n at last. step_total s n at ≡ total (λ r. steps_in r 0) (records_at s n at)) (λ at. refl)
      (λ n at next last good rest.
      ap₂ (λ (x y : ℕ). x + y) (sym (steps_alone_lem form h s at next good)) (rw (record_within form h s at next good).0 at rest))
