-- The second walk, for row 28: good records one after the other, each by its bytes and its offset, say what all their steps say.
use Prim.Native.Nat.{ℕ, suc, ◌+◌}
use mathlib.Core.Path.{◌≡◌, refl, ap, ap₂, ◌∙◌}
use mathlib.Core.List.{List, []}
use Rattle.answer.specs.Answer.{Answer, Good, ◌>>=◌}
use Rattle.answer.specs.Walk.{walk}
use Rattle.answer.proofs.Walks.{walk_induction}
use Rattle.terms.specs.declared.Sections.{Sections}
use Rattle.quantify.specs.Quantify.{any}
use Rattle.format.specs.Form.{Form}
use Rattle.format.specs.Records.{length_in, record_at}
use Rattle.format.specs.Decode.{steps_of_record, steps_of_records}
use Rattle.format.specs.Parts.{records_at}
use Rattle.format.proofs.Records.{record_within}
use Rattle.format.proofs.Parts.{record_length, record_alone}
use Rattle.observed.specs.Observed.{Observed}
use Rattle.observed.specs.Rules.{refuted_observed}
use Rattle.observed.proofs.Refuted.{refuted_append, refuted_none}
use Rattle.onewalk.specs.OneWalk.{held_refutation}

module _ (form : Form) (h : Sections) (s : List ℕ) (seen : Observed) where
  one_more_lem : (n at next : ℕ) → record_at form h s at ≡ Good next
      → refuted_observed seen.masks (steps_of_records form s n next) ≡ held_refutation form (records_at s n next) next seen
      → refuted_observed seen.masks (steps_of_records form s (suc n) at) ≡ held_refutation form (records_at s (suc n) at) at seen
  unfolding steps_of_records records_at held_refutation
  one_more_lem n at next good rest =
      let place = (record_within form h s at next good).0 in
      let bytes = record_length form h s at next good in
      refuted_append seen.masks (steps_of_record form s at) (steps_of_records form s n (at + length_in s at))
      ∙ ap₂ (λ (a b : Answer). a >>= λ _. b) (ap (refuted_observed seen.masks) (record_alone form h s at next good)) (rw (bytes, ← place) rest)

  pub second_steps : (n at last : ℕ) → walk (record_at form h s) n at ≡ Good last
      → refuted_observed seen.masks (steps_of_records form s n at) ≡ held_refutation form (records_at s n at) at seen
  unfolding steps_of_records records_at held_refutation any
  second_steps =
      walk_induction (record_at form h s) (λ n at last. refuted_observed seen.masks (steps_of_records form s n at) ≡ held_refutation form (records_at s n at) at seen)
      (λ at. refuted_none seen.masks [] refl) (λ n at next last good rest. one_more_lem n at next good rest)
