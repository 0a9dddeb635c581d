-- The theorems: records in another sequence give the same transitions, and so the same answers.
use Prim.Native.Nat.{ℕ}
use mathlib.Core.Path.{◌≡◌, sym, ◌∙◌, subst}
use mathlib.Core.Logic.{◌↔◌}
use mathlib.Core.List.{List}
use Rattle.answer.specs.Answer.{Good}
use Rattle.terms.specs.Sections.{sections_of}
use Rattle.format.specs.Form.{Form}
use Rattle.format.specs.Records.{steps_in}
use Rattle.format.specs.LookOver.{look_over}
use Rattle.format.specs.Decode.{RecordedStep, recorded_steps}
use Rattle.format.specs.Parts.{records_of}
use Rattle.format.proofs.LookOver.{LookedOver, look_over_good}
use Rattle.quantify.specs.Quantify.{Mem}
use Rattle.quantify.proofs.Members.{flat_alike}
use Rattle.jobs.specs.Planning.{steps_of_book}
use Rattle.converted.specs.Converted.{unplaced}
use Rattle.twins.specs.Twins.{SameTransitions}
use Rattle.twins.proofs.Twins.{same_transitions_same_answers}
use Rattle.permuted.specs.Permuted.{Permutation, Permuted, PermutedSameAnswers, refiled, AnySequenceIsGood}
use Rattle.permuted.proofs.Sequences.{members_kept, total_kept}
use Rattle.permuted.proofs.Records.{steps_alone, steps_by_records, total_by_records}
use Rattle.permuted.proofs.Sections.{one_schema, one_count, bytes_before}
use Rattle.permuted.proofs.Refiled.{refiled_good}

module _ (form : Form) (s t : List ℕ) (m n : ℕ) (good : look_over form s ≡ Good m) (good' : look_over form t ≡ Good n) (same : Permuted s t) where
  was : LookedOver form s m
  was = look_over_good form s m good

  is : LookedOver form t n
  is = look_over_good form t n good'

  as_many : m ≡ n
  unfolding records_of
  as_many =
      was.total ∙ total_by_records form (sections_of s) s _ _ _ was.records ∙ total_kept (λ r. steps_in r 0) same.records
      ∙ sym (total_by_records form (sections_of t) t _ _ _ is.records) ∙ sym is.total

  steps_same : (x : RecordedStep) → Mem x (unplaced (steps_of_book form s)) ↔ Mem x (unplaced (steps_of_book form t))
  unfolding records_of steps_of_book recorded_steps
  steps_same x =
      rw (steps_by_records form (sections_of s) s _ _ _ was.records, steps_by_records form (sections_of t) t _ _ _ is.records)
      (flat_alike (steps_alone form) (records_of s) (records_of t) (members_kept same.records) x)

  transitions_same : SameTransitions form form s t m
  transitions_same =
      let before = bytes_before s t was.sections is.sections same.sections in
      record {
        comparable =
            record {
              good = good;
              good' = rw as_many good';
              schema = one_schema s t was.sections before;
              kinds = one_count s t was.sections before;
            };
        steps = steps_same;
      }

-- Good books with the same sections and the same records, each as often, in whatever sequence, get the same answers.
pub permuted_same_answers : PermutedSameAnswers
permuted_same_answers form s t m n good good' same =
    (as_many form s t m n good good' same, same_transitions_same_answers form form s t m (transitions_same form s t m n good good' same))

-- The records of a good book in any sequence are a good book, with its answers.
pub any_sequence_is_good : AnySequenceIsGood
any_sequence_is_good form s n good rs permutation =
    let h = refiled_good form s n good rs permutation in
    let same : Permuted s (refiled s rs) =
    record { sections = sym h.sections; records = subst (λ (us : List (List ℕ)). Permutation (records_of s) us) (sym h.records) permutation } in
    (h, (permuted_same_answers form s (refiled s rs) n n good h.good same).1)
