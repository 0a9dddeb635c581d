-- Books of good form with the same bytes before the records: their headers are the same, and their schemas say the same.
use Prim.Native.Nat.{ℕ, ◌<◌}
use native.Mathlib.Omega.{arith}
use mathlib.Core.Path.{◌≡◌, sym, ap, ◌∙◌}
use mathlib.Core.List.{List}
use lib.ListN.{length}
use lib.Seq.{length-take-le}
use Rattle.input.specs.Bytes.{byte_at}
use Rattle.terms.specs.Sections.{sections_of}
use Rattle.terms.specs.Schema.{schema}
use Rattle.terms.specs.Agree.{SameSchema}
use Rattle.format.specs.Parts.{sections_part}
use Rattle.format.proofs.Header.{SectionsGood}
use Rattle.format.proofs.Front.{header_same, schema_same}
use Rattle.format.proofs.Parts.{byte_before}
use Rattle.jobs.specs.Planning.{schema_of}

-- rows 1 to 5 are not met
abbrev pub FrontGood : List ℕ → Type 0
FrontGood s = SectionsGood (sections_of s) s (sections_of s).records.at

-- where the records start is how many bytes stand before them
pub length_before : (s : List ℕ) → FrontGood s → length (sections_part s) ≡ (sections_of s).records.at
unfolding sections_part
length_before s good = length-take-le (sections_of s).records.at s good.offsets.within

-- a book that has the bytes before the records of a good one
module _ (s t : List ℕ) (good : FrontGood s) (same : (i : ℕ) → i < (sections_of s).records.at → byte_at t i ≡ byte_at s i) where
  pub one_header : sections_of t ≡ sections_of s
  one_header =
      let o = good.offsets in
      header_same s t (λ i l. same i (omega (arith, o.behind, o.moves, o.records)))

  pub one_schema : SameSchema (schema_of s) (schema_of t)
  unfolding schema_of
  one_schema = rw one_header (schema_same (sections_of s) s _ good (sections_of s).records (sections_of s).end t (λ i low l. same i l))

  pub one_count : (schema_of s).kinds ≡ (schema_of t).kinds
  unfolding schema_of schema
  one_count = rw one_header

-- two good books whose bytes before the records are one list
module _ (s t : List ℕ) (good : FrontGood s) (good' : FrontGood t) (same : sections_part s ≡ sections_part t) where
  pub bytes_before : (i : ℕ) → i < (sections_of s).records.at → byte_at t i ≡ byte_at s i
  bytes_before i l =
      let e : (sections_of s).records.at ≡ (sections_of t).records.at = sym (length_before s good) ∙ ap length same ∙ length_before t good' in
      sym (byte_before t _ good' i (omega arith)) ∙ ap (λ (x : List ℕ). byte_at x i) (sym same) ∙ byte_before s _ good i l
