-- What the new book keeps of an old one of good form: header, parents, relations, moves and the bytes of the records.
use Prim.Native.Nat.{ℕ, suc, ◌+◌, ◌-◌, ◌≤◌, ◌<◌}
use mathlib.Core.Path.{◌≡◌, refl, sym, ap₂, ◌∙◌}
use mathlib.Core.List.{List, ◌++◌}
use native.Mathlib.Numerals.{add-one}
use native.Mathlib.Omega.{arith}
use lib.ListN.{length}
use Rattle.answer.specs.Answer.{Good}
use Rattle.answer.specs.Walk.{walk}
use Rattle.input.specs.Bytes.{byte_at, two}
use Rattle.terms.specs.Sections.{sections_of}
use Rattle.terms.specs.Schema.{schema}
use Rattle.terms.specs.Agree.{SameSchema}
use Rattle.limits.specs.Limits.{header_size, max_length}
use Rattle.format.specs.Form.{Form}
use Rattle.format.specs.Records.{steps_in, record_at}
use Rattle.format.specs.LookOver.{step_total}
use Rattle.format.specs.Decode.{steps_of_record, steps_of_records, recorded_steps}
use Rattle.jobs.specs.Planning.{schema_of}
use Rattle.jobs.specs.Add.{added}
use Rattle.format.proofs.Typing.{schema_right}
use Rattle.format.proofs.Front.{schema_same}
use Rattle.format.proofs.Reading.{Copied}
use Rattle.format.proofs.Copies.{placed_same, records_copied, all_recorded_copied, recorded_last}
use Rattle.format.proofs.LookOver.{LookedOver}
use Rattle.adding.specs.NewHeader.{one_more}
use Rattle.adding.proofs.Formed.{length_added}
use Rattle.adding.proofs.NewBook.{not_renewed, byte_kept, byte_added, header_added}
use Rattle.answer.proofs.Walks.{walk_last}

module _ (form : Form) (s r : List ℕ) (old : ℕ) (was : LookedOver form s old) (most : length s + length r ≤ max_length) where
  pub long : header_size ≤ length s
  long = was.sections.size.least

  -- the record count of a book of good form has room for one more
  room : two s 6 < 65535
  unfolding sections_of
  room = let c = was.sections.counts.records in omega arith

  pub header : sections_of (added s r) ≡ one_more (sections_of s) (length s + length r)
  header = header_added s r long room (omega arith)

  same : (i : ℕ) → header_size ≤ i → i < length s → byte_at (added s r) i ≡ byte_at s i
  same i h l = byte_kept s r long i l (not_renewed i h)

  from : header_size ≤ (sections_of s).records.at
  from = omega (arith, was.sections.offsets.behind, was.sections.offsets.moves, was.sections.offsets.records)

  pub kept : (at : ℕ) → header_size ≤ at → at ≤ length s → Copied s at (added s r) at (length s - at)
  kept at h l = record { within = omega (arith, length_added s r long); bytes = λ i k. same (at + i) (omega arith) (omega arith) }

  count_more : (sections_of (added s r)).records.count ≡ suc (sections_of s).records.count
  unfolding one_more
  count_more = rw (header, add-one)

  start_same : (sections_of (added s r)).records.at ≡ (sections_of s).records.at
  unfolding one_more
  start_same = rw header

  pub steps_added : steps_in (added s r) (length s) ≡ steps_in r 0
  unfolding steps_in
  steps_added = byte_added s r long 1

  pub kinds_kept : (schema_of (added s r)).kinds ≡ (schema_of s).kinds
  unfolding schema_of schema one_more
  kinds_kept = rw header

  -- the bytes between header and records
  pub between : (i : ℕ) → header_size ≤ i → i < (sections_of s).records.at → byte_at (added s r) i ≡ byte_at s i
  between i h l = let w = was.sections.offsets.within in same i h (omega arith)

  pub schema_kept : SameSchema (schema_of s) (schema_of (added s r))
  unfolding schema_of one_more
  schema_kept =
      rw header
      (schema_same (sections_of s) s _ was.sections (record { count = (sections_of s).records.count + 1; at = (sections_of s).records.at }) (length s + length r) (added s r) between)

  -- the old records are good again, and what is recorded in them stays
  old_part : Copied s (sections_of s).records.at (added s r) (sections_of s).records.at (length s - (sections_of s).records.at)
  old_part = kept (sections_of s).records.at from was.sections.offsets.within

  records_kept : walk (record_at form (sections_of (added s r)) (added s r)) (sections_of s).records.count (sections_of s).records.at ≡ Good (length s)
  unfolding schema_of schema
  records_kept =
      let w = was.sections.offsets.within in
      records_copied old_part form (sections_of s) (sections_of (added s r)) (sym kinds_kept) schema_kept (schema_right (sections_of s) s _ was.sections).falling _ (length s) (length s) (omega arith) (omega arith) was.records

  -- the new record comes after them, and so do its steps
  pub record_last : walk (record_at form (sections_of (added s r)) (added s r)) (sections_of (added s r)).records.count (sections_of (added s r)).records.at
      ≡ record_at form (sections_of (added s r)) (added s r) (length s)
  record_last =
      ap₂ (λ (m start : ℕ). walk (record_at form (sections_of (added s r)) (added s r)) m start) count_more start_same ∙ walk_last _ _ _ _ records_kept

  pub steps_last : (step_total (added s r) (sections_of (added s r)).records.count (sections_of (added s r)).records.at ≡ old + steps_in r 0)
      × (recorded_steps form (sections_of (added s r)) (added s r) ≡ recorded_steps form (sections_of s) s ++ steps_of_record form (added s r) (length s))
  unfolding recorded_steps
  steps_last =
      let w = was.sections.offsets.within in
      let n = (sections_of s).records.count in
      let at = (sections_of s).records.at in
      let (total, same) = all_recorded_copied old_part (λ p. p) (λ p. p) (λ i. refl) form (sections_of s) n (length s) was.records (omega arith) in
      let (total', filed') = recorded_last form (sections_of (added s r)) (added s r) n at (length s) records_kept in (
        rw (count_more, start_same) (omega (arith, total, total', was.total, steps_added)),
        rw (count_more, start_same) (filed' ∙ rw (← placed_same (steps_of_records form (added s r) n at), ← same, placed_same (steps_of_records form s n at))),
      )
