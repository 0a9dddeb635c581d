-- A book as its sections and its records: a good record is what its bytes say by themselves, the parts of a good book are the whole of it, and
-- the sections say the same without the records.
use Prim.Native.Nat.{ℕ, ◌+◌, ◌-◌, ◌*◌, ◌≤◌, ◌<◌}
use native.Mathlib.Nat.{zero-add}
use native.Mathlib.Omega.{arith}
use mathlib.Core.Path.{◌≡◌, refl, sym, ap, ◌∙◌}
use mathlib.Core.Bool.{false}
use mathlib.Core.List.{List, ◌++◌, flatten, append-nil, append_assoc}
use lib.ListN.{length, take, drop, take-append-drop, length-drop}
use lib.Seq.{length-take-le, drop-length, drop-drop, get_or-take, get_or-drop}
use borrow.Author.Tests.{ltb-false}
use Rattle.answer.specs.Answer.{Good}
use Rattle.truth.specs.Bools.{neither}
use Rattle.answer.specs.Walk.{walk}
use Rattle.input.specs.Bytes.{byte_at}
use Rattle.limits.specs.Limits.{move_size, max_params}
use Rattle.terms.specs.declared.Sections.{Sections}
use Rattle.terms.specs.Sections.{sections_of}
use Rattle.terms.specs.Schema.{schema, move_at}
use Rattle.terms.specs.Typing.{RightSchema}
use Rattle.terms.specs.Agree.{SameSchema}
use Rattle.format.specs.Form.{Form}
use Rattle.format.specs.Header.{move_bad}
use Rattle.format.specs.Records.{steps_in, length_in, record_at}
use Rattle.format.specs.Decode.{steps_of_record, moved_by}
use Rattle.format.specs.Parts.{record_part, records_at, sections_part, records_of}
use Rattle.format.proofs.Header.{SectionsGood}
use Rattle.format.proofs.Records.{head_limits, record_good, record_within}
use Rattle.format.proofs.Typing.{schema_right}
use Rattle.format.proofs.LookOver.{LookedOver}
use Rattle.format.proofs.Reading.{Copied, head_copied}
use Rattle.format.proofs.Front.{header_same, parents_same, schema_same}
use Rattle.format.proofs.Copies.{placed_same, recorded_copied}
use Rattle.answer.proofs.Walks.{walk_induction}

module _ (form : Form) (h : Sections) (s : List ℕ) where
  module _ (at next : ℕ) (good : record_at form h s at ≡ Good next) where
    -- a good record has as many bytes as its head says,
    pub record_length : length (record_part s at) ≡ length_in s at
    unfolding record_part
    record_length =
        let (place, within) = record_within form h s at next good in
        length-take-le (length_in s at) (drop at s) (omega (arith, length-drop at s))

    pub part_alone : Copied s at (record_part s at) 0 (length_in s at)
    unfolding record_part byte_at
    part_alone = record { within = omega (arith, record_length); bytes = λ i l. rw zero-add (get_or-take (length_in s at) (drop at s) i 0 l ∙ get_or-drop at s i 0) }

    -- its head says by itself how many steps it has,
    pub steps_alone_lem : steps_in (record_part s at) 0 ≡ steps_in s at
    steps_alone_lem = (head_copied part_alone at 0 (record { low = omega arith; level = omega arith }) (omega (arith, (head_limits s at (record_good form h s at next good).head).1))).1

    -- and its steps are those that its bytes say by themselves.
    pub record_alone : steps_of_record form s at ≡ moved_by at (steps_of_record form (record_part s at) 0)
    unfolding moved_by
    record_alone =
        let (place, within) = record_within form h s at next good in
        sym (placed_same (steps_of_record form s at)) ∙ recorded_copied part_alone (λ p. p) (λ p. at + p) (λ i. omega arith) form h next good (omega arith)

  -- good records in a row are their bytes, up to where they end
  pub records_joined : (n at last : ℕ) → walk (record_at form h s) n at ≡ Good last → flatten (records_at s n at) ++ drop last s ≡ drop at s
  unfolding records_at flatten record_part
  records_joined =
      walk_induction (record_at form h s) (λ n at last. flatten (records_at s n at) ++ drop last s ≡ drop at s) (λ at. refl)
      (λ n at next last good rest.
      let place = (record_within form h s at next good).0 in
      append_assoc (take (length_in s at) (drop at s)) (flatten (records_at s n (at + length_in s at))) (drop last s)
      ∙ ap (λ (l : List ℕ). take (length_in s at) (drop at s) ++ l) (rw place at rest ∙ sym (drop-drop (length_in s at) at s))
      ∙ take-append-drop (length_in s at) (drop at s))

-- A book of good form is its sections, and then its records.
pub parts_joined : (form : Form) (s : List ℕ) (n : ℕ) → LookedOver form s n → sections_part s ++ flatten (records_of s) ≡ s
unfolding sections_part records_of
parts_joined form s n good =
    let e = records_joined form (sections_of s) s _ _ _ good.records in
    ap (λ (l : List ℕ). take (sections_of s).records.at s ++ l)
    (sym (append-nil (flatten (records_at s (sections_of s).records.count (sections_of s).records.at))) ∙ rw (drop-length s) at e)
    ∙ take-append-drop (sections_of s).records.at s

-- ---- the sections alone

-- a move has no more parameters than there may be
params_few : (s : List ℕ) (kinds at : ℕ) → move_bad s kinds at ≡ false → byte_at s at ≤ max_params
unfolding move_bad
params_few s kinds at e = ltb-false max_params (byte_at s at) (neither _ _ (neither _ _ (neither _ _ (neither _ _ (neither _ _ e).0).0).0).0).0

module _ (s : List ℕ) (n : ℕ) (good : SectionsGood (sections_of s) s n) where
  -- they are read as they are in the book
  pub byte_before : (i : ℕ) → i < (sections_of s).records.at → byte_at (sections_part s) i ≡ byte_at s i
  unfolding sections_part byte_at
  byte_before i l = get_or-take (sections_of s).records.at s i 0 l

  -- they have the same header
  pub header_alone : sections_of (sections_part s) ≡ sections_of s
  header_alone =
      let o = good.offsets in
      header_same s (sections_part s) (λ i l. byte_before i (omega (arith, o.behind, o.moves, o.records)))

  parent_alone : (k : ℕ) → (schema (sections_of s) s).parent k ≡ (schema (sections_of s) (sections_part s)).parent k
  parent_alone k = parents_same (sections_of s) s n good (sections_of s).records (sections_of s).end (sections_part s) (λ i low l. byte_before i l) k

  -- and a schema that says the same and is right.
  pub schema_alone : SameSchema (schema (sections_of s) s) (schema (sections_of s) (sections_part s))
  schema_alone = schema_same (sections_of s) s n good (sections_of s).records (sections_of s).end (sections_part s) (λ i low l. byte_before i l)

  pub right_alone : RightSchema (schema (sections_of s) (sections_part s))
  unfolding schema move_at
  right_alone =
      let right = schema_right (sections_of s) s n good in
      let o = good.offsets in
      record {
        falling = record { few = right.falling.few; smaller = λ k low high. rw (← parent_alone k) (right.falling.smaller k low high) };
        params = λ m low high p some own.
            let at : ℕ = (sections_of s).moves.at + move_size * (m.0 - 1) in
            let e = byte_before at (omega (arith, o.records)) in
            let few = params_few s (sections_of s).kinds at (good.moves (m.0 - 1) (omega arith)) in
            let own' : p.0 ≤ byte_at s at = omega arith in
            rw (byte_before (at + p.0) (omega (arith, o.records))) (right.params m low high p some own');
      }
