-- Rows 1 to 5: parents, relations and moves as entries of one size, what a book that passes these rows has, and where they refuse one that does not.
use Prim.Native.Nat.{ℕ, ◌+◌, ◌-◌, ◌*◌, ◌≤◌, ◌<◌}
use mathlib.Core.Path.{◌≡◌, refl, sym, ◌∙◌}
use mathlib.Core.Logic.{◌⊎◌, inl, inr}
use mathlib.Core.Bool.{true, false}
use mathlib.Core.List.{List}
use native.Mathlib.Omega.{arith}
use borrow.Author.Tests.{ltb-false, eqb-true, not-false}
use lib.Dec.{eqb}
use lib.ListN.{length}
use Rattle.answer.specs.Answer.{Good, Refused, max_number}
use Rattle.truth.specs.Bools.{neither, or_out}
use Rattle.answer.proofs.Laws.{passed, parted, refuse_unmet, bind_good, none_over}
use Rattle.answer.specs.Walk.{walk}
use Rattle.answer.specs.Table.{table, row_from, row, up_to, Between}
use Rattle.answer.proofs.Refusals.{refused_cases, row_cases, between_at}
use Rattle.answer.proofs.Entries.{Entry, entries_end, entries_right, entries_place}
use Rattle.terms.specs.declared.Sections.{Sections}
use Rattle.limits.specs.Limits.{header_size, max_length, max_kinds, max_relations, max_moves, max_records, relation_size, move_size}
use Rattle.format.specs.Header.{length_bad, counts_bad, offsets_bad, parent_bad, relation_bad, move_bad, parent, relation, move, sections}

-- answer/specs/Entries has the laws of a walk over entries
pub parent_entry : (s : List ℕ) → Entry (parent s) (parent_bad s) 21 1
unfolding parent
parent_entry s at = refl

pub relation_entry : (s : List ℕ) (kinds : ℕ) → Entry (relation s kinds) (relation_bad s kinds) 4 relation_size
unfolding relation
relation_entry s kinds at = refl

pub move_entry_lem : (s : List ℕ) (kinds : ℕ) → Entry (move s kinds) (move_bad s kinds) 5 move_size
unfolding move
move_entry_lem s kinds at = refl

-- row 1 is not met
pub record LengthGood (s : List ℕ) : Type 0 where
  pub least : header_size ≤ length s
  pub most : length s ≤ max_length

pub length_good : (s : List ℕ) → length_bad s ≡ false → LengthGood s
unfolding length_bad
length_good s e =
    let a = neither _ _ e in
    record { least = ltb-false _ _ a.0; most = ltb-false _ _ a.1 }

-- row 2 is not met
pub record CountsGood (h : Sections) : Type 0 where
  pub kinds : h.kinds ≤ max_kinds
  pub relations : h.relations.count ≤ max_relations
  pub moves : h.moves.count ≤ max_moves
  pub records : h.records.count ≤ max_records

pub counts_good : (h : Sections) → counts_bad h ≡ false → CountsGood h
unfolding counts_bad
counts_good h e =
    let w = none_over _ _ _ _ _ _ _ _ e in
    record { kinds = w.0; relations = w.1; moves = w.2; records = w.3 }

-- row 3 is not met
pub record OffsetsGood (h : Sections) (size : ℕ) : Type 0 where
  pub relations : (h.relations.at ≡ header_size) ⊎ (h.relations.at ≡ header_size + h.kinds)
  pub behind : header_size ≤ h.relations.at
  pub near : h.relations.at ≤ header_size + h.kinds
  pub moves : h.moves.at ≡ h.relations.at + relation_size * h.relations.count
  pub records : h.records.at ≡ h.moves.at + move_size * h.moves.count
  pub end : h.end ≡ size
  pub within : h.records.at ≤ size

pub offsets_good : (h : Sections) (size : ℕ) → offsets_bad h size ≡ false → OffsetsGood h size
unfolding offsets_bad
offsets_good h size e =
    let a = neither _ _ e in
    let b = neither _ _ a.0 in
    let c = neither _ _ b.0 in
    let d = neither _ _ c.0 in
    let u = either h.relations.at h.kinds (or_out _ _ (not-false _ d.0)) in
    let v = eqb-true h.moves.at (h.relations.at + relation_size * h.relations.count) (not-false _ d.1) in
    let w = eqb-true h.records.at (h.moves.at + move_size * h.moves.count) (not-false _ c.1) in
    let x = eqb-true h.end size (not-false _ b.1) in
    let y = ltb-false h.end h.records.at a.1 in
    record { relations = u.0; behind = u.1; near = u.2; moves = v; records = w; end = x; within = omega arith }
  where
    either : (at kinds : ℕ) → (eqb at header_size ≡ true) ⊎ (eqb at (header_size + kinds) ≡ true)
        → ((at ≡ header_size) ⊎ (at ≡ header_size + kinds)) × (header_size ≤ at) × (at ≤ header_size + kinds)
    either at kinds (inl e) = let p = eqb-true at header_size e in (inl p, omega arith, omega arith)
    either at kinds (inr e) = let p = eqb-true at (header_size + kinds) e in (inr p, omega arith, omega arith)

-- rows 1 to 5 are not met, and the records start at n
pub record SectionsGood (h : Sections) (s : List ℕ) (n : ℕ) : Type 0 where
  pub size : LengthGood s
  pub counts : CountsGood h
  pub offsets : OffsetsGood h (length s)
  pub parents : (i : ℕ) → i < h.relations.at - header_size → parent_bad s (header_size + 1 * i) ≡ false
  pub relations : (i : ℕ) → i < h.relations.count → relation_bad s h.kinds (h.relations.at + relation_size * i) ≡ false
  pub moves : (i : ℕ) → i < h.moves.count → move_bad s h.kinds (h.moves.at + move_size * i) ≡ false
  pub start : n ≡ h.records.at

pub sections_good : (h : Sections) (s : List ℕ) (n : ℕ) → sections h s ≡ Good n → SectionsGood h s n
unfolding sections
sections_good h s n e =
    let a = passed (length_bad s) 1 0 n _ e in
    let b = passed (counts_bad h) 2 0 n _ a.1 in
    let c = passed (offsets_bad h (length s)) 3 0 n _ b.1 in
    let p = parted (walk (parent s) (h.relations.at - header_size) header_size) n _ c.1 in
    let d = parted (walk (relation s h.kinds) h.relations.count h.relations.at) n _ p.2 in
    let o = offsets_good h (length s) c.0 in
    record {
      size = length_good s a.0;
      counts = counts_good h b.0;
      offsets = o;
      parents = entries_right _ _ 21 1 (parent_entry s) _ _ p.0 p.1;
      relations = entries_right _ _ 4 relation_size (relation_entry s h.kinds) _ _ d.0 d.1;
      moves = entries_right _ _ 5 move_size (move_entry_lem s h.kinds) _ _ n d.2;
      start = entries_end _ _ 5 move_size (move_entry_lem s h.kinds) _ _ n d.2 ∙ sym o.records;
    }

-- and the other way round, by the six rows
pub sections_in : (h : Sections) (s : List ℕ) (l m n : ℕ)
    → length_bad s ≡ false
    → counts_bad h ≡ false
    → offsets_bad h (length s) ≡ false
    → walk (parent s) (h.relations.at - header_size) header_size ≡ Good l
    → walk (relation s h.kinds) h.relations.count h.relations.at ≡ Good m
    → walk (move s h.kinds) h.moves.count h.moves.at ≡ Good n
    → sections h s ≡ Good n
unfolding sections
sections_in h s l m n a b c p d e = refuse_unmet _ _ _ _ a ∙ refuse_unmet _ _ _ _ b ∙ refuse_unmet _ _ _ _ c ∙ bind_good _ _ _ p ∙ bind_good _ _ _ d ∙ e

-- a refusal has the number of a row from 1 to 5, and stands at most where the records may start, whatever the header says
pub sections_place : (h : Sections) (s : List ℕ) (k p : ℕ) → sections h s ≡ Refused k p → Between 1 5 k × (k ≤ max_number) × (p ≤ 280)
unfolding sections table row_from row up_to
sections_place h s k p e =
    row_cases (length_bad s) 1 0 _ k p e (λ x y. (between_at 1 5 k 1 x (refl, refl), omega arith, omega arith))
    (λ a e₁.
    row_cases (counts_bad h) 2 0 _ k p e₁ (λ x y. (between_at 1 5 k 2 x (refl, refl), omega arith, omega arith))
    (λ b e₂.
    row_cases (offsets_bad h (length s)) 3 0 _ k p e₂ (λ x y. (between_at 1 5 k 3 x (refl, refl), omega arith, omega arith))
    (λ c e₃.
    let n = counts_good h b in
    let o = offsets_good h (length s) c in
    refused_cases (walk (parent s) (h.relations.at - header_size) header_size) _ k p e₃
    (λ f.
    let w = entries_place _ _ 21 1 (parent_entry s) _ _ k p f in
    (between_at 1 5 k 21 w.0 (refl, refl), omega arith, omega (arith, o.near, n.kinds)))
    (λ q f₄ e₄.
    refused_cases (walk (relation s h.kinds) h.relations.count h.relations.at) _ k p e₄
    (λ f.
    let w = entries_place _ _ 4 relation_size (relation_entry s h.kinds) _ _ k p f in
    (between_at 1 5 k 4 w.0 (refl, refl), omega arith, omega (arith, o.near, n.kinds)))
    (λ m f g.
    let w = entries_place _ _ 5 move_size (move_entry_lem s h.kinds) _ _ k p g in
    (between_at 1 5 k 5 w.0 (refl, refl), omega arith, omega (arith, o.near, n.kinds)))))))
