-- Two books with the same bytes before the records. With those of the header, their headers say the same. With those between header and records, and
-- headers that say the same of kinds, relations and moves, their schemas say the same; and if rows 1 to 5 are not met by the one, then by the other
-- only for its record count.
use Prim.Native.Nat.{ℕ, ◌+◌, ◌-◌, ◌*◌, ◌≤◌, ◌<◌}
use mathlib.Core.Path.{◌≡◌, refl, sym, ap₂, ◌∙◌}
use mathlib.Core.Logic.{◌⊎◌, inl, inr}
use mathlib.Core.Bool.{true, false, ◌||◌}
use mathlib.Core.List.{List}
use native.Mathlib.Decide.{dec_lt}
use native.Mathlib.Omega.{arith}
use borrow.Author.Tests.{le-ltb, eq-eqb}
use lib.Dec.{eqb, ltb}
use lib.ListN.{length}
use Rattle.truth.specs.Bools.{or_right}
use Rattle.answer.specs.Answer.{Good, ◌>>=◌, refuse}
use Rattle.answer.proofs.Laws.{refuse_unmet, bind_good, bind_cong}
use Rattle.answer.specs.Walk.{walk}
use Rattle.answer.proofs.Entries.{entries_all}
use Rattle.input.specs.Bytes.{byte_at, two}
use Rattle.limits.specs.Limits.{header_size, max_length, max_kinds, max_relations, max_moves, max_records, relation_size, move_size}
use Rattle.terms.specs.declared.Section.{Section}
use Rattle.terms.specs.declared.Sections.{Sections}
use Rattle.terms.specs.Sections.{sections_of}
use Rattle.terms.specs.Schema.{schema}
use Rattle.terms.specs.Agree.{SameSchema}
use Rattle.terms.proofs.Atoms.{parent_some, parent_none}
use Rattle.terms.proofs.Agree.{same_by_bytes}
use Rattle.format.specs.Header.{length_bad, counts_bad, offsets_bad, parent_bad, relation_bad, move_bad, parent, relation, move, sections}
use Rattle.format.proofs.Header.{SectionsGood, parent_entry, relation_entry, move_entry_lem}
use Rattle.format.proofs.Reading.{two_by, Copied, byte_copied, relation_copied, move_copied}

-- the header h with another record section and another end
abbrev pub with_records : Sections → Section → ℕ → Sections
with_records h records end = record { kinds = h.kinds; relations = h.relations; moves = h.moves; records = records; end = end }

-- ---- the header

-- with the same bytes but for those of the record count and of the end, which it has from its own
pub header_kept : (s t : List ℕ) → ((i : ℕ) → i < 6 → byte_at t i ≡ byte_at s i) → ((i : ℕ) → 8 ≤ i → i < 14 → byte_at t i ≡ byte_at s i)
    → sections_of t ≡ with_records (sections_of s) (record { count = two t 6; at = (sections_of s).records.at }) (two t 14)
unfolding sections_of
header_kept s t counts offsets =
    let count : (i : ℕ) → i + 1 < 6 → two t i ≡ two s i = λ i l. two_by t s i (counts i (omega arith)) (counts (i + 1) l) in
    let offset : (i : ℕ) → 8 ≤ i → i + 1 < 14 → two t i ≡ two s i = λ i low l. two_by t s i (offsets i low (omega arith)) (offsets (i + 1) (omega arith) l) in
    rw (
      count 0 (omega arith),
      count 2 (omega arith),
      count 4 (omega arith),
      offset 8 (omega arith) (omega arith),
      offset 10 (omega arith) (omega arith),
      offset 12 (omega arith) (omega arith),
    )

-- with the same bytes
pub header_same : (s t : List ℕ) → ((i : ℕ) → i < header_size → byte_at t i ≡ byte_at s i) → sections_of t ≡ sections_of s
unfolding sections_of
header_same s t same =
    header_kept s t (λ i l. same i (omega arith)) (λ i low l. same i (omega arith))
    ∙ ap₂ (λ (count end : ℕ). with_records (sections_of s) (record { count = count; at = (sections_of s).records.at }) end)
    (two_by t s 6 (same 6 (omega arith)) (same 7 (omega arith)))
    (two_by t s 14 (same 14 (omega arith)) (same 15 (omega arith)))

-- ---- what lies between header and records

-- the first test of row 3
start_in : (at kinds : ℕ) → (at ≡ header_size) ⊎ (at ≡ header_size + kinds) → (eqb at header_size || eqb at (header_size + kinds)) ≡ true
start_in at kinds (inl e) = rw (eq-eqb at header_size e)
start_in at kinds (inr e) = or_right (eqb at header_size) _ (eq-eqb at (header_size + kinds) e)

module _ (h : Sections) (s : List ℕ) (n : ℕ) (was : SectionsGood h s n) (records : Section) (end : ℕ) (t : List ℕ) (same : (i : ℕ) → header_size ≤ i → i < h.records.at → byte_at t i ≡ byte_at s i) where
  -- the relations start where they did, so that as many parents stand before them
  pub parents_same : (k : ℕ) → (schema h s).parent k ≡ (schema (with_records h records end) t).parent k
  parents_same k = go (dec_lt (header_size + (k - 1)) h.relations.at)
    where
      go : Dec (header_size + (k - 1) < h.relations.at) → (schema h s).parent k ≡ (schema (with_records h records end) t).parent k
      go (yes l) =
          let o = was.offsets in
          parent_some h s k _ refl l ∙ sym (same _ (omega arith) (omega (arith, o.moves, o.records)))
          ∙ sym (parent_some (with_records h records end) t k _ refl l)
      go (no l) = parent_none h s k _ refl (omega arith) ∙ sym (parent_none (with_records h records end) t k _ refl (omega arith))

  pub schema_same : SameSchema (schema h s) (schema (with_records h records end) t)
  schema_same =
      let o = was.offsets in
      same_by_bytes h (with_records h records end) s t (λ k low high high'. parents_same k) refl refl
      (λ i l. sym (same _ (omega (arith, o.behind)) (omega (arith, o.moves, o.records))))
      (λ i l. sym (same _ (omega (arith, o.behind, o.moves)) (omega (arith, o.records))))

  module _ (start : records.at ≡ h.records.at) (most : length t ≤ max_length) (ends : end ≡ length t) (within : h.records.at ≤ length t) where
    middle : Copied s header_size t header_size (h.records.at - header_size)
    middle =
        let o = was.offsets in
        record { within = omega (arith, o.behind, o.moves, o.records); bytes = λ i k. same (header_size + i) (omega arith) (omega arith) }

    parents_good : (i : ℕ) → i < h.relations.at - header_size → parent_bad t (header_size + 1 * i) ≡ false
    unfolding parent_bad
    parents_good i l =
        let o = was.offsets in
        rw (byte_copied middle (header_size + 1 * i) (header_size + 1 * i) (record { low = omega arith; level = refl }) (omega (arith, o.moves, o.records))) (was.parents i l)

    relations_good : (i : ℕ) → i < h.relations.count → relation_bad t h.kinds (h.relations.at + relation_size * i) ≡ false
    relations_good i l =
        let o = was.offsets in
        relation_copied middle (h.relations.at + relation_size * i) (h.relations.at + relation_size * i) (record { low = omega (arith, o.behind); level = refl }) h.kinds
        (omega (arith, o.behind, o.moves, o.records))
        ∙ was.relations i l

    moves_good : (i : ℕ) → i < h.moves.count → move_bad t h.kinds (h.moves.at + move_size * i) ≡ false
    moves_good i l =
        let o = was.offsets in
        move_copied middle (h.moves.at + move_size * i) (h.moves.at + move_size * i) (record { low = omega (arith, o.behind, o.moves); level = refl }) h.kinds
        (omega (arith, o.behind, o.moves, o.records))
        ∙ was.moves i l

    length_unmet : length_bad t ≡ false
    unfolding length_bad
    length_unmet =
        let o = was.offsets in
        rw (le-ltb (length t) header_size (omega (arith, o.behind, o.moves, o.records)), le-ltb max_length (length t) most)

    counts_row : counts_bad (with_records h records end) ≡ ltb max_records records.count
    unfolding counts_bad
    counts_row =
        let c = was.counts in
        rw (le-ltb max_kinds h.kinds c.kinds, le-ltb max_relations h.relations.count c.relations, le-ltb max_moves h.moves.count c.moves)

    offsets_unmet : offsets_bad (with_records h records end) (length t) ≡ false
    unfolding offsets_bad
    offsets_unmet =
        let o = was.offsets in
        rw (
          start_in h.relations.at h.kinds o.relations,
          eq-eqb h.moves.at (h.relations.at + relation_size * h.relations.count) o.moves,
          eq-eqb records.at (h.moves.at + move_size * h.moves.count) (start ∙ o.records),
          eq-eqb end (length t) ends,
          le-ltb end records.at (omega arith),
        )

    -- rows 21, 4 and 5
    entries_row : (walk (parent t) (h.relations.at - header_size) header_size
        >>= λ _. walk (relation t h.kinds) h.relations.count h.relations.at
        >>= λ _. walk (move t h.kinds) h.moves.count h.moves.at)
        ≡ Good (h.moves.at + move_size * h.moves.count)
    entries_row =
        bind_good _ _ _ (entries_all _ _ 21 1 (parent_entry t) _ _ parents_good)
        ∙ bind_good _ _ _ (entries_all _ _ 4 relation_size (relation_entry t h.kinds) _ _ relations_good)
        ∙ entries_all _ _ 5 move_size (move_entry_lem t h.kinds) _ _ moves_good

    pub sections_row : sections (with_records h records end) t ≡ (refuse (ltb max_records records.count) 2 0 >>= λ _. Good (h.moves.at + move_size * h.moves.count))
    unfolding sections
    sections_row = refuse_unmet _ _ _ _ length_unmet ∙ rw counts_row (bind_cong _ _ _ (λ x. refuse_unmet _ _ _ _ offsets_unmet ∙ entries_row))

    pub sections_same : records.count ≤ max_records → sections (with_records h records end) t ≡ Good (h.moves.at + move_size * h.moves.count)
    sections_same few = sections_row ∙ refuse_unmet _ _ _ _ (le-ltb max_records records.count few)
