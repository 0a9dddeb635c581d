-- The records of a good book in another sequence, behind the same sections, are a good book: each record is of good form where its bytes now stand.
use Prim.Native.Nat.{ℕ, zero, suc, ◌+◌, ◌*◌, ◌<◌}
use native.Mathlib.Nat.{zero-add}
use native.Mathlib.Omega.{arith}
use mathlib.Core.Path.{◌≡◌, refl, sym, ap, ap₂, ◌∙◌}
use mathlib.Core.List.{List, [], ◌∷◌, ◌++◌, flatten, append-nil, append_assoc}
use lib.ListN.{length, take, drop, length-append, get_or-append}
use lib.Seq.{take_at, drop_at, get_or-append-add}
use Rattle.answer.specs.Answer.{Good}
use Rattle.answer.proofs.Laws.{bind_good}
use Rattle.answer.specs.Walk.{walk}
use Rattle.input.specs.Bytes.{byte_at}
use Rattle.limits.specs.Limits.{move_size}
use Rattle.terms.specs.declared.Sections.{Sections}
use Rattle.terms.specs.Sections.{sections_of}
use Rattle.terms.specs.Schema.{schema}
use Rattle.terms.specs.Typing.{Falling}
use Rattle.terms.specs.Agree.{SameSchema}
use Rattle.format.specs.Form.{Form}
use Rattle.format.specs.Header.{sections}
use Rattle.format.specs.Records.{steps_in, length_in, record_at}
use Rattle.format.specs.LookOver.{step_total, look_over}
use Rattle.format.specs.Parts.{record_part, records_at, sections_part, records_of}
use Rattle.format.proofs.Records.{head_limits, record_good, record_within}
use Rattle.format.proofs.Typing.{schema_right}
use Rattle.format.proofs.Reading.{Copied, head_copied}
use Rattle.format.proofs.Copies.{record_copied}
use Rattle.format.proofs.Front.{sections_same}
use Rattle.format.proofs.LookOver.{LookedOver, look_over_good, look_over_in}
use Rattle.format.proofs.Parts.{record_length, part_alone, parts_joined, byte_before}
use Rattle.quantify.specs.Quantify.{Mem, here, there}
use Rattle.jobs.specs.Planning.{schema_of}
use Rattle.wellformed.proofs.Parts.{RecordOf, each_record}
use Rattle.permuted.specs.Permuted.{Permutation, refiled, RefiledGood}
use Rattle.permuted.proofs.Sequences.{members_kept, total, total_kept, length_kept, length_flatten}
use Rattle.permuted.proofs.Records.{total_by_records}
use Rattle.permuted.proofs.Sections.{FrontGood, length_before, one_header, one_schema, one_count}

-- ---- one record

-- the record at `at` of s, put behind other bytes of t
module _ (form : Form) (h : Sections) (s : List ℕ) (at next : ℕ) (good : record_at form h s at ≡ Good next) (t front rest : List ℕ) (put : t ≡ front ++ (record_part s at ++ rest)) where
  copied : Copied s at t (length front) (length_in s at)
  unfolding byte_at
  copied =
      let long = record_length form h s at next good in
      let c = part_alone form h s at next good in
      record {
        within = rw put (omega (arith, long, length-append front (record_part s at ++ rest), length-append (record_part s at) rest));
        bytes = λ i l.
            rw (put, get_or-append-add front (record_part s at ++ rest) i 0, get_or-append (record_part s at) rest 0 i (omega arith)) (rw zero-add at (c.bytes i l));
      }

  -- it has as many bytes there,
  size_there : length_in t (length front) ≡ length (record_part s at)
  size_there =
      let limits = head_limits s at (record_good form h s at next good).head in
      (head_copied copied at (length front) (record { low = omega arith; level = omega arith }) (omega arith)).2 ∙ sym (record_length form h s at next good)

  -- and these,
  part_there : record_part t (length front) ≡ record_part s at
  unfolding record_part
  part_there =
      let p : List ℕ = take (length_in s at) (drop at s) in
      let behind : drop (length front) t ≡ p ++ rest = ap (drop (length front)) put ∙ drop_at front (p ++ rest) (length front) refl in
      ap₂ (λ (k : ℕ) (l : List ℕ). take k l) size_there behind ∙ take_at p rest (length p) refl

  -- and is of good form in a book whose schema says the same.
  good_there : (k : Sections) → h.kinds ≡ k.kinds → SameSchema (schema h s) (schema k t) → Falling (schema h s)
      → record_at form k t (length front) ≡ Good (length (front ++ record_part s at))
  good_there k kinds same fall =
      let (place, within) = record_within form h s at next good in
      record_copied copied form h k kinds same fall next good (omega arith)
      ∙ ap Good (omega (arith, record_length form h s at next good, length-append front (record_part s at)))

-- ---- records in a row

length_records : (s : List ℕ) (n at : ℕ) → length (records_at s n at) ≡ n
unfolding records_at
length_records s zero at = refl
length_records s (suc n) at = ap suc (length_records s n (at + length_in s at))

-- records of s, put one behind the other to the end of t
module _ (form : Form) (h k : Sections) (s t : List ℕ) (kinds : h.kinds ≡ k.kinds) (same : SameSchema (schema h s) (schema k t)) (fall : Falling (schema h s)) where
  pub row_good : (us : List (List ℕ)) (front : List ℕ) → t ≡ front ++ flatten us → ((r : List ℕ) → Mem r us → RecordOf form h s r)
      → (walk (record_at form k t) (length us) (length front) ≡ Good (length t)) × (records_at t (length us) (length front) ≡ us)
  unfolding flatten walk records_at
  row_good [] front e each = (ap Good (ap length (sym (e ∙ append-nil front))), refl)
  row_good (r ∷ us) front e each =
      let (at, next, good, part) = each r here in
      let put : t ≡ front ++ (record_part s at ++ flatten us) = rw part e in
      let moved : t ≡ (front ++ record_part s at) ++ flatten us = put ∙ sym (append_assoc front (record_part s at) (flatten us)) in
      let (rest, records) = row_good us (front ++ record_part s at) moved (λ x m. each x (there m)) in
      let next_at : length front + length_in t (length front) ≡ length (front ++ record_part s at) =
      omega (arith, size_there form h s at next good t front (flatten us) put, length-append front (record_part s at)) in (
        bind_good _ _ _ (good_there form h s at next good t front (flatten us) put k kinds same fall) ∙ rest,
        ap₂ (λ (x : List ℕ) (xs : List (List ℕ)). x ∷ xs) (part_there form h s at next good t front (flatten us) put ∙ part)
            (ap (records_at t (length us)) next_at ∙ records),
      )

-- ---- the book

module _ (form : Form) (s : List ℕ) (n : ℕ) (looked : look_over form s ≡ Good n) (rs : List (List ℕ)) (permutation : Permutation (records_of s) rs) where
  was : LookedOver form s n
  was = look_over_good form s n looked

  front : FrontGood s
  front = was.sections

  t : List ℕ
  t = refiled s rs

  before : (i : ℕ) → i < (sections_of s).records.at → byte_at t i ≡ byte_at s i
  unfolding byte_at t
  before i l = get_or-append (sections_part s) (flatten rs) 0 i (omega (arith, length_before s front)) ∙ byte_before s _ front i l

  as_long : length t ≡ length s
  unfolding t
  as_long =
      omega (
        arith,
        length-append (sections_part s) (flatten rs),
        length-append (sections_part s) (flatten (records_of s)),
        length_flatten rs,
        length_flatten (records_of s),
        total_kept length permutation,
        ap length (parts_joined form s n was),
      )

  header : sections_of t ≡ sections_of s
  header = one_header s t front before

  sections_good : sections (sections_of t) t ≡ Good ((sections_of s).moves.at + move_size * (sections_of s).moves.count)
  sections_good =
      let long = as_long in
      rw header
      (sections_same (sections_of s) s _ front (sections_of s).records (sections_of s).end t (λ i low l. before i l) refl (omega (arith, front.size.most))
      (front.offsets.end ∙ sym long) (omega (arith, front.offsets.within)) front.counts.records)

  count_same : length rs ≡ (sections_of t).records.count
  unfolding records_of
  count_same = sym (length_kept permutation) ∙ length_records s _ _ ∙ ap (λ (h : Sections). h.records.count) (sym header)

  start_same : length (sections_part s) ≡ (sections_of t).records.at
  start_same = length_before s front ∙ ap (λ (h : Sections). h.records.at) (sym header)

  row : (walk (record_at form (sections_of t) t) (sections_of t).records.count (sections_of t).records.at ≡ Good (length t))
      × (records_at t (sections_of t).records.count (sections_of t).records.at ≡ rs)
  unfolding schema_of schema records_of t
  row =
      let (walked, records) =
      row_good form (sections_of s) (sections_of t) s t (one_count s t front before) (one_schema s t front before) (schema_right (sections_of s) s _ front).falling rs (sections_part s) refl
      (λ r m. each_record form (sections_of s) s _ _ _ was.records ((members_kept permutation r).1 m)) in (
        ap₂ (λ (m at : ℕ). walk (record_at form (sections_of t) t) m at) (sym count_same) (sym start_same) ∙ walked,
        ap₂ (λ (m at : ℕ). records_at t m at) (sym count_same) (sym start_same) ∙ records,
      )

  total_same : step_total t (sections_of t).records.count (sections_of t).records.at ≡ n
  unfolding records_of
  total_same =
      let steps : List ℕ → ℕ = λ r. steps_in r 0 in
      total_by_records form (sections_of t) t _ _ _ row.0 ∙ ap (total steps) row.1 ∙ sym (total_kept steps permutation)
      ∙ sym (total_by_records form (sections_of s) s _ _ _ was.records) ∙ sym was.total

  pub refiled_good : RefiledGood form s n rs
  unfolding t records_of sections_part
  refiled_good =
      record {
        good = look_over_in form t _ sections_good row.0 ∙ ap Good total_same;
        sections = take_at (sections_part s) (flatten rs) (sections_of t).records.at start_same;
        records = row.1;
      }
