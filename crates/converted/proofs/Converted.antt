-- The new book is of good form in the other form and says the same, and converting it back restores the old one. Here `to` is the form of the new
-- book; the theorems at the end are the promises, by the form of the old one.
use Prim.Native.Nat.{ℕ, ◌+◌, ◌-◌, ◌≤◌}
use mathlib.Core.Path.{◌≡◌, sym, ap, ap₂, ◌∙◌}
use mathlib.Core.Bool.{true, false, not, not-not}
use mathlib.Core.List.{List, ◌++◌}
use native.Mathlib.Nat.{zero-add}
use native.Mathlib.Omega.{arith}
use lib.ListN.{length, take, length-append}
use lib.Seq.{length-take-le, get_or-take}
use Rattle.answer.specs.Answer.{Good}
use Rattle.answer.specs.Walk.{walk}
use Rattle.input.specs.Bytes.{byte_at, two}
use Rattle.output.specs.Written.{two_bytes}
use Rattle.mask.specs.Bits.{Bytes}
use Rattle.limits.specs.Limits.{header_size, max_length}
use Rattle.terms.specs.Sections.{sections_of}
use Rattle.terms.specs.Schema.{schema}
use Rattle.format.specs.Form.{Form}
use Rattle.format.specs.Records.{record_at}
use Rattle.format.specs.LookOver.{look_over}
use Rattle.format.specs.Decode.{recorded_steps, placed_by}
use Rattle.format.proofs.Typing.{schema_right}
use Rattle.format.proofs.LookOver.{LookedOver, look_over_good, look_over_in}
use Rattle.jobs.specs.Planning.{schema_of, steps_of_book}
use Rattle.jobs.specs.Convert.{bytes_at, all_records_bytes, converted}
use Rattle.converted.specs.Converted.{ending_at, unplaced, ConvertedKeepsSections, ConvertedIsGood, ConvertedSaysTheSame, ThereAndBack}
use Rattle.converted.proofs.Stands.{Stands, stands_at, stands_both, stands_whole, length_part, part_stands}
use Rattle.converted.proofs.Rendering.{records_in, all_converted}
use Rattle.converted.proofs.Records.{RowAgain, records_rendered}
use Rattle.converted.proofs.Restored.{two_own, records_own}
use Rattle.converted.proofs.Header.{length_converted, records_stand, byte_kept, rest_kept}
use Rattle.converted.proofs.Front.{behind, within, header, sections_converted, kinds_kept, schema_kept, sections_kept}
use Rattle.output.proofs.Two.{length_two}

module _ (to : Form) (s : List ℕ) (n : ℕ) (good : look_over (not to) s ≡ Good n) where
  was : LookedOver (not to) s n
  was = look_over_good (not to) s n good

  -- the length of the new book
  pub new_length : length (converted to s) ≡ (sections_of s).records.at + length (all_records_bytes to s)
  new_length = length_converted to s (behind to s was.sections) (within to s was.sections)

  module _ (most : length (converted to s) ≤ max_length) where
    count_kept : (sections_of (converted to s)).records.count ≡ (sections_of s).records.count
    unfolding ending_at
    count_kept = rw (header to s was.sections most)

    start_kept : (sections_of (converted to s)).records.at ≡ (sections_of s).records.at
    unfolding ending_at
    start_kept = rw (header to s was.sections most)

    row : RowAgain (not to) to (sections_of (converted to s)) s (converted to s) (sections_of s).records.count (sections_of s).records.at (sections_of s).records.at
    unfolding schema_of schema
    row =
        let w = was.sections in
        let stand = records_stand to s (behind to s w) (within to s w) in
        records_rendered (not to) to (sections_of s) (sections_of (converted to s)) s (converted to s) (omega arith) (sym (kinds_kept to s w most)) (schema_kept to s w most)
        (schema_right (sections_of s) s _ w).falling _ _ _ was.records (sections_of s).records.at (rw (all_converted to s) at stand)

    -- The new book is of good form, with as many steps,
    pub good_converted : look_over to (converted to s) ≡ Good n
    good_converted =
        let r = row in
        let end : (sections_of s).records.at + length (records_in (not to) to s (sections_of s).records.count (sections_of s).records.at) ≡ length (converted to s) =
        rw (← all_converted to s) (sym new_length) in
        look_over_in to (converted to s) _ (sections_converted to s was.sections most) (ap₂ (λ (m at : ℕ). walk (record_at to (sections_of (converted to s)) (converted to s)) m at) count_kept start_kept ∙ r.good ∙ ap Good end)
        ∙ ap Good (rw (count_kept, start_kept) (r.total ∙ sym was.total))

    -- which say the same but for places.
    pub told_converted : placed_by (λ p. 0) (steps_of_book to (converted to s)) ≡ placed_by (λ p. 0) (steps_of_book (not to) s)
    unfolding steps_of_book recorded_steps
    told_converted = rw (count_kept, start_kept) row.told

    -- ---- and back

    -- the records rendered back are the old ones rendered in their own form
    records_back : all_records_bytes (not to) (converted to s) ≡ records_in (not to) (not to) s (sections_of s).records.count (sections_of s).records.at
    records_back = all_converted (not to) (converted to s) ∙ rw (not-not to, count_kept, start_kept) (row.again (not to))

    own : ((sections_of s).records.at + length (records_in (not to) (not to) s (sections_of s).records.count (sections_of s).records.at) ≡ length s)
        × (Bytes s → Stands (records_in (not to) (not to) s (sections_of s).records.count (sections_of s).records.at) s (sections_of s).records.at)
    own = records_own (not to) (sections_of s) s _ _ _ was.records (within to s was.sections)

    -- Converting back gives a book as long as the old one,
    pub back_length : length (converted (not to) (converted to s)) ≡ length s
    back_length =
        let w = was.sections in
        let e = new_length in
        length_converted (not to) (converted to s) (rw start_kept (behind to s w)) (rw start_kept (omega arith)) ∙ rw (start_kept, records_back) own.0

    module _ (bytes : Bytes s) where
      front_back : Stands (take 14 (converted to s)) s 0
      unfolding byte_at
      front_back =
          let w = was.sections in
          let l = behind to s w in
          let m = within to s w in
          let e = new_length in
          let k : length (take 14 (converted to s)) ≡ 14 = length-take-le 14 (converted to s) (omega arith) in
          record {
            within = omega arith;
            bytes = λ i j. rw zero-add (sym (get_or-take 14 (converted to s) i 0 (omega arith) ∙ byte_kept to s l m i (omega arith) (λ x. omega arith) (λ x. omega arith)));
          }

      end_told : two s 14 ≡ length s
      unfolding sections_of
      end_told = was.sections.offsets.end

      end_back : Stands (two_bytes ((sections_of (converted to s)).records.at + length (all_records_bytes (not to) (converted to s)))) s 14
      end_back =
          let e : (sections_of (converted to s)).records.at + length (all_records_bytes (not to) (converted to s)) ≡ two s 14 = rw (start_kept, records_back) own.0 ∙ sym end_told in
          rw e (two_own s bytes 14 was.sections.size.least)

      rest_back : Stands (bytes_at (converted to s) header_size ((sections_of (converted to s)).records.at - header_size)) s header_size
      rest_back =
          let w = was.sections in
          let l = behind to s w in
          let m = within to s w in
          let e = new_length in
          rw start_kept
          (part_stands (converted to s) header_size ((sections_of s).records.at - header_size) (omega arith) s header_size (omega arith)
          (λ i j. sym (rest_kept to s l m (header_size + i) (omega arith) (omega arith))))

      -- and if every element of the old one is a byte, it is the old one.
      pub back_converted : converted (not to) (converted to s) ≡ s
      unfolding converted
      back_converted =
          let t : List ℕ = converted to s in
          let w = was.sections in
          let l = behind to s w in
          let m = new_length in
          let k = start_kept in
          let a : List ℕ = take 14 t in
          let b : List ℕ = two_bytes ((sections_of t).records.at + length (all_records_bytes (not to) t)) in
          let c : List ℕ = bytes_at t header_size ((sections_of t).records.at - header_size) in
          let d : List ℕ = all_records_bytes (not to) t in
          let l₁ : length a ≡ 14 = length-take-le 14 t (omega arith) in
          let l₂ : length b ≡ 2 = length_two _ in
          let l₃ : length c ≡ (sections_of t).records.at - header_size = length_part t header_size ((sections_of t).records.at - header_size) (omega arith) in
          let m₁ : length (a ++ b) ≡ length a + length b = length-append a b in
          let m₂ : length (a ++ b ++ c) ≡ length (a ++ b) + length c = length-append (a ++ b) c in
          let last : Stands d s (sections_of s).records.at = rw records_back (own.1 bytes) in
          stands_whole (a ++ b ++ c ++ d) s
          (stands_both (a ++ b ++ c) d s 0
          (stands_both (a ++ b) c s 0 (stands_both a b s 0 front_back (stands_at b s 14 _ (omega arith) end_back)) (stands_at c s header_size _ (omega arith) rest_back))
          (stands_at d s (sections_of s).records.at _ (omega arith) last))
          back_length

-- ---- by the form of the old book

-- how long the new book is
pub length_new : (form : Form) (s : List ℕ) (n : ℕ) → look_over form s ≡ Good n
    → length (converted (not form) s) ≡ (sections_of s).records.at + length (all_records_bytes (not form) s)
length_new true s n good = new_length false s n good
length_new false s n good = new_length true s n good

-- the same steps, places apart, as the proofs of `format` say it
pub same_steps : (form : Form) (s : List ℕ) (n : ℕ) → look_over form s ≡ Good n → length (converted (not form) s) ≤ max_length
    → placed_by (λ p. 0) (steps_of_book (not form) (converted (not form) s)) ≡ placed_by (λ p. 0) (steps_of_book form s)
same_steps true s n good most = told_converted false s n good most
same_steps false s n good most = told_converted true s n good most

-- and a book as long by converting back
pub length_back : (form : Form) (s : List ℕ) (n : ℕ) → look_over form s ≡ Good n → length (converted (not form) s) ≤ max_length
    → length (converted form (converted (not form) s)) ≡ length s
length_back true s n good most = back_length false s n good most
length_back false s n good most = back_length true s n good most

-- The header but for its end and the sections stay, and so does the schema.
pub keeps_sections : ConvertedKeepsSections
keeps_sections form s n good most = sections_kept (not form) s (look_over_good form s n good).sections most

-- The new book is of good form in the other form, with as many steps,
pub is_good : ConvertedIsGood
is_good true s n good most = good_converted false s n good most
is_good false s n good most = good_converted true s n good most

-- which say the same.
pub says_the_same : ConvertedSaysTheSame
unfolding unplaced
says_the_same = same_steps

-- Converting there and back restores the book.
pub there_and_back_lem : ThereAndBack
there_and_back_lem true s n good most bytes = back_converted false s n good most bytes
there_and_back_lem false s n good most bytes = back_converted true s n good most bytes
