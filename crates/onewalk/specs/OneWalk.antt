-- Learning in one walk, for a book of either form: the records one after the other, what is held after each made from what was held before, the
-- bytes of that record alone and its offset; and sheet, row 11 and row 12 from the sections and what is held at the end. Row 28 is no function of what
-- is held: where some step did not go, which is held, the records are walked once more for it.
-- The sections are in what is held: one of the seven sets of each move (observed/specs/Observed.antt).
use Rattle.std.specs.Prelude.{ℕ, suc, ◌+◌, ◌≤◌, ◌<◌, ◌≡◌, false, cond, not, length, take, eqb}
use mathlib.Core.List.{List, [], ◌∷◌, ◌++◌, flatten}
use Rattle.answer.specs.Answer.{Answer, Good, ◌>>=◌}
use Rattle.input.specs.Bytes.{byte_at, two}
use Rattle.output.specs.Written.{two_bytes}
use Rattle.limits.specs.Limits.{observed_size, max_held}
use Rattle.mask.specs.Bits.{Bytes}
use Rattle.terms.specs.Sections.{sections_of}
use Rattle.format.specs.Form.{Form}
use Rattle.format.specs.Decode.{steps_of_record, moved_by}
use Rattle.format.specs.LookOver.{look_over}
use Rattle.format.specs.Parts.{record_part, offset_after, sections_part, records_of}
use Rattle.quantify.specs.Quantify.{any}
use Rattle.jobs.specs.Planning.{schema_of, steps_of_book}
use Rattle.jobs.specs.Learn.{inconsistency, refutation, rule_sheet}
use Rattle.observed.specs.Observed.{Observed, observed_after, nothing_seen, held_after, observed_of}
use Rattle.observed.specs.Rules.{sheet_observed, unbound_answer, conflict_among, refuted_observed}

-- ---- what is held, as bytes

-- the masks, in two bytes the offset that row 11 needs, and in one more whether some step did not go
unfoldable pub held_bytes : Observed → List ℕ
held_bytes seen = seen.masks ++ (two_bytes seen.named ++ (cond seen.failed 1 0 ∷ []))

abbrev pub held_size : ℕ
held_size = observed_size + 3

-- it is within its limit, and nothing else is held: the parts are read back from the bytes
pub record Small (seen : Observed) : Type 0 where
  pub size : length (held_bytes seen) ≡ held_size
  pub limit : length (held_bytes seen) ≤ max_held
  pub bytes : Bytes (held_bytes seen)
  pub masks : take observed_size (held_bytes seen) ≡ seen.masks
  pub named : two (held_bytes seen) observed_size ≡ seen.named
  pub failed : eqb (byte_at (held_bytes seen) (observed_size + 2)) 1 ≡ seen.failed

-- ---- what comes of it

-- rows 11 and 12, from the bytes of the sections and what is held at the end
unfoldable pub held_rows : List ℕ → Observed → Answer
held_rows sec seen = do
  _ ← unbound_answer seen.named
  conflict_among seen.masks (schema_of sec).moves

-- and the rule sheet
unfoldable pub held_sheet : List ℕ → Observed → List ℕ
held_sheet sec seen = sheet_observed seen.masks (schema_of sec).moves 1

-- row 28 of records in a row, the first at an offset: of each by its bytes, its offset, and what is held at the end of the first walk
unfoldable pub held_refutation : Form → List (List ℕ) → ℕ → Observed → Answer
held_refutation form [] at seen = Good 0
held_refutation form (r ∷ rs) at seen = do
  _ ← refuted_observed seen.masks (moved_by at (steps_of_record form r 0))
  held_refutation form rs (at + length r) seen

-- ---- the walk

-- where the record behind the first k of a book stands
abbrev pub record_offset : List ℕ → ℕ → ℕ
record_offset s k = offset_after s k (sections_of s).records.at

pub record OneWalk (form : Form) (s : List ℕ) : Type 0 where
  -- the book is its sections, and then each record once, in file order
  pub parts : sections_part s ++ flatten (records_of s) ≡ s
  -- before any record, what the sections give
  pub first : held_after form 0 s ≡ nothing_seen (schema_of (sections_part s))
  -- after a record, what was held before it, its bytes and its offset give
  pub next : (k : ℕ) → k < (sections_of s).records.count
      → held_after form (suc k) s ≡ observed_after form (record_part s (record_offset s k)) (record_offset s k) (held_after form k s)
  pub small : (k : ℕ) → k ≤ (sections_of s).records.count → Small (held_after form k s)
  -- rows 11 and 12, and the sheet, from the sections and what is held at the end
  pub rows : inconsistency form s ≡ held_rows (sections_part s) (observed_of form s)
  pub sheet : rule_sheet form s ≡ held_sheet (sections_part s) (observed_of form s)
  -- what is held at the end says whether some step did not go
  pub failures : (observed_of form s).failed ≡ any (λ x. not x.went) (steps_of_book form s)
  -- where none did, row 28 is not met: nothing is walked again
  pub unrefuted : (observed_of form s).failed ≡ false → refutation form s ≡ Good 0
  -- and row 28 is what the second walk says, the records one after the other
  pub second : refutation form s ≡ held_refutation form (records_of s) (sections_of s).records.at (observed_of form s)

abbrev pub LearnsInOneWalk : Type 0
LearnsInOneWalk = (form : Form) (s : List ℕ) (n : ℕ) → look_over form s ≡ Good n → OneWalk form s

-- Two books whose next record has the same bytes at the same offset, and for which the same is held before it, hold the same after it. That
-- their sections agree is not even asked, since what is used of them is in what is held.
abbrev pub SameRecordSameHeld : Type 0
SameRecordSameHeld = (form : Form) (s t : List ℕ) (m n k j : ℕ) → look_over form s ≡ Good m → look_over form t ≡ Good n
    → k < (sections_of s).records.count → j < (sections_of t).records.count
    → record_offset s k ≡ record_offset t j → record_part s (record_offset s k) ≡ record_part t (record_offset t j)
    → held_after form k s ≡ held_after form j t → held_after form (suc k) s ≡ held_after form (suc j) t
