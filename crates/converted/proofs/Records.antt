-- Records in a row, rendered in any form: of good form where they stand, with as many steps, which say the same, and rendered again as they
-- would be from the first book.
use Prim.Native.Nat.{ℕ, zero, suc, ◌+◌, ◌<◌}
use mathlib.Core.Path.{◌≡◌, refl, ap, ◌∙◌}
use mathlib.Core.List.{List, ◌++◌}
use native.Mathlib.Omega.{arith}
use lib.ListN.{length, length-append}
use Rattle.answer.specs.Answer.{Good}
use Rattle.answer.proofs.Laws.{bind_good}
use Rattle.answer.specs.Walk.{walk}
use Rattle.terms.specs.declared.Sections.{Sections}
use Rattle.terms.specs.Schema.{schema}
use Rattle.terms.specs.Typing.{Falling}
use Rattle.terms.specs.Agree.{SameSchema}
use Rattle.format.specs.Form.{Form}
use Rattle.format.specs.Records.{length_in, record_at}
use Rattle.format.specs.LookOver.{step_total}
use Rattle.format.specs.Decode.{steps_of_record, steps_of_records, placed_by}
use Rattle.format.proofs.Records.{record_within}
use Rattle.format.proofs.Copies.{placed_append}
use Rattle.converted.proofs.Stands.{Stands, stands_left, stands_right}
use Rattle.converted.proofs.Rendering.{record_in, records_in}
use Rattle.converted.proofs.Record.{head_read, record_rendered, record_told, record_again}
use Rattle.answer.proofs.Walks.{walk_parted}

-- what is so of records rendered from `at` on, which stand from `at'` on
pub record RowAgain (form to : Form) (k : Sections) (s t : List ℕ) (n at at' : ℕ) : Type 0 where
  pub good : walk (record_at to k t) n at' ≡ Good (at' + length (records_in form to s n at))
  pub total : step_total t n at' ≡ step_total s n at
  pub told : placed_by (λ p. 0) (steps_of_records to t n at') ≡ placed_by (λ p. 0) (steps_of_records form s n at)
  pub again : (other : Form) → records_in to other t n at' ≡ records_in form other s n at

module _ (form to : Form) (h k : Sections) (s t : List ℕ) (small : length t < 65536) (kinds : h.kinds ≡ k.kinds) (same : SameSchema (schema h s) (schema k t)) (fall : Falling (schema h s)) where
  -- Records of good form, rendered and standing in a book whose schema says the same, are so.
  pub records_rendered : (n at last : ℕ) → walk (record_at form h s) n at ≡ Good last → (at' : ℕ) → Stands (records_in form to s n at) t at' → RowAgain form to k s t n at at'
  unfolding walk records_in step_total steps_of_records
  records_rendered zero at last e at' stands = record { good = ap Good (omega arith); total = refl; told = refl; again = λ other. refl }
  records_rendered (suc n) at last e at' stands =
      let (next, good, rest) = walk_parted (record_at form h s) n at last e in
      let place = (record_within form h s at next good).0 in
      let a : List ℕ = record_in form to s at in
      let b : List ℕ = records_in form to s n (at + length_in s at) in
      let one : Stands a t at' = stands_left a b t at' stands in
      let row = records_rendered n (at + length_in s at) last (rw place at rest) (at' + length a) (stands_right a b t at' stands) in
      let (x, y, z) = head_read form to s t at at' small one in
      let all : length (a ++ b) ≡ length a + length b = length-append a b in
      record {
        good = bind_good _ _ _ (record_rendered form to h k s t at next at' small good one kinds same fall) ∙ row.good ∙ ap Good (omega arith);
        total = rw (y, z, row.total);
        told =
            rw (
              z,
              placed_append (λ p. 0) (steps_of_record to t at') (steps_of_records to t n (at' + length a)),
              placed_append (λ p. 0) (steps_of_record form s at) (steps_of_records form s n (at + length_in s at)),
              record_told form to h k s t at next at' small good one kinds same fall,
              row.told,
            );
        again = λ other. rw (z, record_again form to h k s t at next at' small good one kinds same fall other, row.again other);
      }
