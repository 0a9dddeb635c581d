-- The bytes and the header of the new book, by those of the old one: only the end is another, and the rendered records stand where the old ones did.
use Prim.Native.Nat.{ℕ, ◌+◌, ◌-◌, ◌≤◌, ◌<◌}
use mathlib.Core.Path.{◌≡◌, sym, ◌∙◌}
use mathlib.Core.List.{List, ◌++◌}
use native.Mathlib.Decide.{dec_lt}
use native.Mathlib.Nat.{zero-add}
use native.Mathlib.Omega.{arith}
use lib.ListN.{length, take, length-append}
use lib.Seq.{length-take-le, get_or-take}
use Rattle.input.specs.Bytes.{byte_at}
use Rattle.output.specs.Written.{two_bytes}
use Rattle.limits.specs.Limits.{header_size}
use Rattle.terms.specs.Sections.{sections_of}
use Rattle.format.specs.Form.{Form}
use Rattle.format.proofs.Reading.{two_by}
use Rattle.format.proofs.Front.{header_kept}
use Rattle.jobs.specs.Convert.{bytes_at, all_records_bytes, converted}
use Rattle.converted.specs.Converted.{ending_at}
use Rattle.converted.proofs.Stands.{Stands, stands_at, stands_own, stands_left, stands_right, length_part, part_read}
use Rattle.converted.proofs.Rendered.{two_read}
use Rattle.output.proofs.Two.{length_two}

-- where the records begin behind the header, and within the book
module _ (to : Form) (s : List ℕ) (behind : header_size ≤ (sections_of s).records.at) (within : (sections_of s).records.at ≤ length s) where
  abbrev start : ℕ
  start = (sections_of s).records.at

  abbrev end : ℕ
  end = start + length (all_records_bytes to s)

  record Parts : Type 0 where
    size : length (converted to s) ≡ end
    front : Stands (take 14 s) (converted to s) 0
    ending : Stands (two_bytes end) (converted to s) 14
    rest : Stands (bytes_at s header_size (start - header_size)) (converted to s) header_size
    records : Stands (all_records_bytes to s) (converted to s) start

  parts : Parts
  unfolding converted
  parts =
      let a : List ℕ = take 14 s in
      let b : List ℕ = two_bytes end in
      let c : List ℕ = bytes_at s header_size (start - header_size) in
      let d : List ℕ = all_records_bytes to s in
      let t : List ℕ = a ++ b ++ c ++ d in
      let l₁ : length a ≡ 14 = length-take-le 14 s (omega arith) in
      let l₂ : length b ≡ 2 = length_two end in
      let l₃ : length c ≡ start - header_size = length_part s header_size (start - header_size) (omega arith) in
      let m₁ : length (a ++ b) ≡ length a + length b = length-append a b in
      let m₂ : length (a ++ b ++ c) ≡ length (a ++ b) + length c = length-append (a ++ b) c in
      let m₃ : length t ≡ length (a ++ b ++ c) + length d = length-append (a ++ b ++ c) d in
      let h = stands_own t in
      let h₁ = stands_left (a ++ b ++ c) d t 0 h in
      let h₂ = stands_left (a ++ b) c t 0 h₁ in
      record {
        size = omega arith;
        front = stands_left a b t 0 h₂;
        ending = stands_at b t _ _ (omega arith) (stands_right a b t 0 h₂);
        rest = stands_at c t _ _ (omega arith) (stands_right (a ++ b) c t 0 h₁);
        records = stands_at d t _ _ (omega arith) (stands_right (a ++ b ++ c) d t 0 h);
      }

  -- The new book is as long as the old one before its records, and the records rendered,
  pub length_converted : length (converted to s) ≡ (sections_of s).records.at + length (all_records_bytes to s)
  length_converted = parts.size

  -- which stand where the old ones did.
  pub records_stand : Stands (all_records_bytes to s) (converted to s) (sections_of s).records.at
  records_stand = parts.records

  front_kept : (i : ℕ) → i < 14 → byte_at (converted to s) i ≡ byte_at s i
  unfolding byte_at
  front_kept i l =
      let n : length (take 14 s) ≡ 14 = length-take-le 14 s (omega arith) in
      rw zero-add at (parts.front.bytes i (omega arith)) ∙ get_or-take 14 s i 0 l

  -- The bytes between header and records stay,
  pub rest_kept : (i : ℕ) → header_size ≤ i → i < (sections_of s).records.at → byte_at (converted to s) i ≡ byte_at s i
  rest_kept i h l =
      let e : header_size + (i - header_size) ≡ i = omega arith in
      rw e at (part_read s header_size (start - header_size) (omega arith) (converted to s) header_size parts.rest (i - header_size) (omega arith))

  -- and so does every byte before the records but those of the end.
  pub byte_kept : (i : ℕ) → i < (sections_of s).records.at → (i ≡ 14 → ⊥) → (i ≡ 15 → ⊥) → byte_at (converted to s) i ≡ byte_at s i
  byte_kept i l p q = go (dec_lt i 14) (dec_lt i header_size)
    where
      go : Dec (i < 14) → Dec (i < header_size) → byte_at (converted to s) i ≡ byte_at s i
      go (yes k) d = front_kept i k
      go (no k) (no m) = rest_kept i (omega arith) l
      go (no k) (yes m) = absurd (q (omega arith))

  -- The header says the same but for the end.
  pub header_converted : length (converted to s) < 65536 → sections_of (converted to s) ≡ ending_at (sections_of s) (length (converted to s))
  unfolding sections_of ending_at
  header_converted l =
      let e = parts.size in
      header_kept s (converted to s) (λ i k. front_kept i (omega arith)) (λ i low k. front_kept i k)
      ∙ rw (two_by (converted to s) s 6 (front_kept 6 (omega arith)) (front_kept 7 (omega arith)), two_read end (converted to s) 14 (omega arith) parts.ending ∙ sym e)
