-- A book as bytes: its sections, and then its records in file order, each as long as its head says.
use Rattle.std.specs.Prelude.{ℕ, zero, suc, ◌+◌, List, [], ◌∷◌, take, drop}
use Rattle.terms.specs.Sections.{sections_of}
use Rattle.format.specs.Records.{length_in}

-- the bytes of the record at an offset, as many as its head says
unfoldable pub record_part : List ℕ → ℕ → List ℕ
record_part s at = take (length_in s at) (drop at s)

-- a number of records from an offset
unfoldable pub records_at : List ℕ → ℕ → ℕ → List (List ℕ)
records_at s zero at = []
records_at s (suc n) at = record_part s at ∷ records_at s n (at + length_in s at)

-- where the record stands that comes n records after the one at an offset
unfoldable pub offset_after : List ℕ → ℕ → ℕ → ℕ
offset_after s zero at = at
offset_after s (suc n) at = offset_after s n (at + length_in s at)

-- the bytes before the records
unfoldable pub sections_part : List ℕ → List ℕ
sections_part s = take (sections_of s).records.at s

-- all records
unfoldable pub records_of : List ℕ → List (List ℕ)
records_of s = records_at s (sections_of s).records.count (sections_of s).records.at
