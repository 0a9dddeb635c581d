-- What converting a book promises. `s` is a book of good form, read in `form`, and `converted (not form) s` is the same book in the other form. Each
-- promise is for both forms, and so for both directions. Where the new book would pass 60,000 bytes the job refuses, and nothing is said of it.
use Rattle.std.specs.Prelude.{ℕ, ◌≤◌, ◌<◌, ◌≡◌, ◌↔◌, not, List, length, take, drop}
use Rattle.answer.specs.Answer.{Good, Refused}
use Rattle.input.specs.Bytes.{byte_at}
use Rattle.mask.specs.Bits.{Bytes}
use Rattle.limits.specs.Limits.{max_length}
use Rattle.terms.specs.declared.Sections.{Sections}
use Rattle.terms.specs.Sections.{sections_of}
use Rattle.terms.specs.Agree.{SameSchema}
use Rattle.format.specs.Form.{Form}
use Rattle.format.specs.LookOver.{look_over}
use Rattle.format.specs.Decode.{RecordedStep, placed_by}
use Rattle.jobs.specs.Planning.{schema_of, steps_of_book}
use Rattle.jobs.specs.Convert.{converted, convert, convert_bytes}

-- a header with another end
unfoldable pub ending_at : Sections → ℕ → Sections
ending_at h end = record { kinds = h.kinds; relations = h.relations; moves = h.moves; records = h.records; end = end }

-- recorded steps without their places
unfoldable pub unplaced : List RecordedStep → List RecordedStep
unplaced = placed_by (λ at. 0)

-- what stays: the header but for its end, and every byte before the records but for those of the end (14 and 15); so the schema
pub record SectionsKept (s t : List ℕ) : Type 0 where
  pub header : sections_of t ≡ ending_at (sections_of s) (length t)
  pub bytes : (i : ℕ) → i < (sections_of s).records.at → (i ≡ 14 → ⊥) → (i ≡ 15 → ⊥) → byte_at t i ≡ byte_at s i
  pub kinds : (schema_of t).kinds ≡ (schema_of s).kinds
  pub schema : SameSchema (schema_of s) (schema_of t)

abbrev pub ConvertedKeepsSections : Type 0
ConvertedKeepsSections = (form : Form) (s : List ℕ) (n : ℕ) → look_over form s ≡ Good n → length (converted (not form) s) ≤ max_length
    → SectionsKept s (converted (not form) s)

-- The new book is of good form in the other form, with as many steps,
abbrev pub ConvertedIsGood : Type 0
ConvertedIsGood = (form : Form) (s : List ℕ) (n : ℕ) → look_over form s ≡ Good n → length (converted (not form) s) ≤ max_length
    → look_over (not form) (converted (not form) s) ≡ Good n

-- and these are the same, in the same order, with the same states about them; only the places differ.
abbrev pub ConvertedSaysTheSame : Type 0
ConvertedSaysTheSame = (form : Form) (s : List ℕ) (n : ℕ) → look_over form s ≡ Good n → length (converted (not form) s) ≤ max_length
    → unplaced (steps_of_book (not form) (converted (not form) s)) ≡ unplaced (steps_of_book form s)

-- Converting there and back restores the book, byte by byte.
abbrev pub ThereAndBack : Type 0
ThereAndBack = (form : Form) (s : List ℕ) (n : ℕ) → look_over form s ≡ Good n → length (converted (not form) s) ≤ max_length
    → Bytes s → converted form (converted (not form) s) ≡ s

-- ---- the job

-- 23 is the answer exactly if the new book would pass 60,000 bytes, whatever the size of the lent output
abbrev pub TooLong : Type 0
TooLong = (form : Form) (s : List ℕ) (n : ℕ) → look_over form s ≡ Good n → (size : ℕ)
    → convert (not form) s size ≡ Refused 23 0 ↔ max_length < length (converted (not form) s)

-- 13 exactly if it would not, and the lent output is shorter
abbrev pub NoRoom : Type 0
NoRoom = (form : Form) (s : List ℕ) (n : ℕ) → look_over form s ≡ Good n → (size : ℕ)
    → convert (not form) s size ≡ Refused 13 0 ↔ ((length (converted (not form) s) ≤ max_length) × (size < length (converted (not form) s)))

-- success exactly if neither, and its place is the new length
abbrev pub Succeeds : Type 0
Succeeds = (form : Form) (s : List ℕ) (n : ℕ) → look_over form s ≡ Good n → (size m : ℕ)
    → convert (not form) s size ≡ Good m ↔ ((m ≡ length (converted (not form) s)) × (length (converted (not form) s) ≤ max_length) × (length (converted (not form) s) ≤ size))

-- converting back succeeds, into as many bytes as the book had
abbrev pub BackSucceeds : Type 0
BackSucceeds = (form : Form) (s : List ℕ) (n : ℕ) → look_over form s ≡ Good n → length (converted (not form) s) ≤ max_length
    → (size : ℕ) → length s ≤ size → convert form (converted (not form) s) size ≡ Good (length s)

-- the lent output after a success: the new book, and behind it the bytes that the output had there
pub record Stored (to : Form) (s out : List ℕ) (m : ℕ) : Type 0 where
  pub book : take m (convert_bytes to s out) ≡ converted to s
  pub beyond : drop m (convert_bytes to s out) ≡ drop m out
  pub size : length (convert_bytes to s out) ≡ length out

abbrev pub ConvertedIsStored : Type 0
ConvertedIsStored = (to : Form) (s out : List ℕ) (m : ℕ) → convert to s (length out) ≡ Good m → Stored to s out m

-- after a refusal all bytes of the lent output are as before
abbrev pub RefusedIsUntouched : Type 0
RefusedIsUntouched = (to : Form) (s out : List ℕ) (k p : ℕ) → convert to s (length out) ≡ Refused k p → convert_bytes to s out ≡ out
