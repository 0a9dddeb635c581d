-- Rows 1 to 5 of the new book, 21 among them, are not met, and its schema says what the old one's does: the sections are the same bytes.
use Prim.Native.Nat.{ℕ, ◌+◌, ◌*◌, ◌≤◌, ◌<◌}
use mathlib.Core.Path.{◌≡◌, refl}
use mathlib.Core.List.{List}
use native.Mathlib.Omega.{arith}
use lib.ListN.{length}
use Rattle.answer.specs.Answer.{Good}
use Rattle.input.specs.Bytes.{byte_at}
use Rattle.limits.specs.Limits.{header_size, max_length, move_size}
use Rattle.terms.specs.Sections.{sections_of}
use Rattle.terms.specs.Schema.{schema}
use Rattle.terms.specs.Agree.{SameSchema}
use Rattle.format.specs.Form.{Form}
use Rattle.format.specs.Header.{sections}
use Rattle.format.proofs.Header.{SectionsGood}
use Rattle.format.proofs.Front.{schema_same, sections_same}
use Rattle.jobs.specs.Planning.{schema_of}
use Rattle.jobs.specs.Convert.{converted}
use Rattle.converted.specs.Converted.{ending_at, SectionsKept}
use Rattle.converted.proofs.Header.{length_converted, rest_kept, byte_kept, header_converted}

-- for an old book whose rows 1 to 5 are not met
module _ (to : Form) (s : List ℕ) (was : SectionsGood (sections_of s) s (sections_of s).records.at) where
  -- the records begin behind the header, and within the book
  pub behind : header_size ≤ (sections_of s).records.at
  behind = omega (arith, was.offsets.behind, was.offsets.moves, was.offsets.records)

  pub within : (sections_of s).records.at ≤ length s
  within = was.offsets.within

  module _ (most : length (converted to s) ≤ max_length) where
    -- The header says the same but for the end.
    pub header : sections_of (converted to s) ≡ ending_at (sections_of s) (length (converted to s))
    header = header_converted to s behind within (omega arith)

    same : (i : ℕ) → header_size ≤ i → i < (sections_of s).records.at → byte_at (converted to s) i ≡ byte_at s i
    same i h l = rest_kept to s behind within i h l

    -- Rows 1 to 5 are not met by the new book.
    pub sections_converted : sections (sections_of (converted to s)) (converted to s) ≡ Good ((sections_of s).moves.at + move_size * (sections_of s).moves.count)
    unfolding ending_at
    sections_converted =
        let b = behind in
        let l = length_converted to s behind within in
        rw header
        (sections_same (sections_of s) s _ was (sections_of s).records (length (converted to s)) (converted to s) same refl most refl (omega arith) was.counts.records)

    -- The new book has as many kinds, and a schema that says the same.
    pub kinds_kept : (schema_of (converted to s)).kinds ≡ (schema_of s).kinds
    unfolding schema_of schema ending_at
    kinds_kept = rw header

    pub schema_kept : SameSchema (schema_of s) (schema_of (converted to s))
    unfolding schema_of ending_at
    schema_kept = rw header (schema_same (sections_of s) s _ was (sections_of s).records (length (converted to s)) (converted to s) same)

    -- The sections stay.
    pub sections_kept : SectionsKept s (converted to s)
    sections_kept = record { header = header; bytes = byte_kept to s behind within; kinds = kinds_kept; schema = schema_kept }
