-- The set of the bound facts (lifted atoms) of a move, one relation after the other.
-- Uses Words for sixteen bits stored, Places for the parameters that fill places, and mask's laws of the numbers below an end.
use Prim.Native.Nat.{ℕ, ◌+◌, ◌*◌, ◌/◌, ◌%◌, ◌≤◌, ◌<◌, min}
use native.Mathlib.Nat.{zero-add}
use native.Mathlib.Omega.{arith}
use mathlib.Core.Path.{◌≡◌, sym, ap, ap₂, ◌∙◌}
use mathlib.Core.Bool.{Bool, true, false, ◌&&◌, and-false}
use mathlib.Core.List.{List}
use borrow.Author.Tests.{le-leb, lt-leb}
use Rattle.truth.specs.Bools.{clash, is_false}
use Rattle.limits.specs.Limits.{max_relations}
use Rattle.mask.specs.Bits.{bit_of}
use Rattle.mask.specs.Sets.{empty, number}
use Rattle.mask.proofs.Whole.{empty_mask_of, mask_of_same, below_none, below_end}
use Rattle.terms.specs.declared.Move.{Move}
use Rattle.terms.specs.declared.Relation.{Relation}
use Rattle.terms.specs.Schema.{Schema, out_of_range}
use Rattle.terms.specs.Steps.{is_atom, atom_relation, atom_first, atom_second}
use Rattle.terms.proofs.Atoms.{range_in, range_out, atom_out}
use Rattle.atoms.specs.Atoms.{atom_set, atoms_end, ParamsByKind, ForMoves, fillers, pairs, relation_atoms, stored_word}
use Rattle.atoms.proofs.Words.{number_same, mask_below, word_next}
use Rattle.atoms.proofs.Places.{fillers_bit}

module _ (sch : Schema) where
  -- ---- one move
  -- one that is not there has none
  pub no_atoms : (a : ℕ) → out_of_range sch.moves a ≡ true → empty 32 ≡ atom_set sch a
  unfolding atom_set
  no_atoms a out =
      empty_mask_of 32
      ∙ mask_of_same 32 (λ n. false) (is_atom sch a)
      (λ n l. sym (is_false (is_atom sch a n) (λ e. let parts = atom_out sch a n e in clash _ out (range_in _ _ parts.from_1 parts.known))))

  -- the sixteen bits of a relation
  module _ (a n : ℕ) (there : out_of_range sch.moves a ≡ false) (at : n % 16 ≡ 0) (known : n / 16 + 1 ≤ sch.relations) where
    abbrev fillers_of : ℕ → ℕ
    fillers_of i = fillers sch (record { 0 = a }) (atom_relation n) i

    atom_bit : (j : ℕ) → j < 16 → (bit_of (fillers_of 1) (j / 4) && bit_of (fillers_of 2) (j % 4)) ≡ is_atom sch a (n + j)
    unfolding is_atom atom_relation atom_first atom_second
    atom_bit j l =
        let r : (n + j) / 16 ≡ n / 16 = omega arith in
        let p : (n + j) / 4 % 4 + 1 ≡ 1 + j / 4 = omega arith in
        let q : (n + j) % 4 + 1 ≡ 1 + j % 4 = omega arith in
        let (low, high) = range_out sch.moves a there in
        rw (r, p, q, le-leb 1 a low, le-leb a sch.moves high, le-leb (n / 16 + 1) sch.relations known)
        (ap₂ (λ (x y : Bool). x && y) (fillers_bit sch _ _ 1 (j / 4) (omega arith)) (fillers_bit sch _ _ 2 (j % 4) (omega arith)))

    word_atoms : relation_atoms sch (record { 0 = a }) (atom_relation n) ≡ number (is_atom sch a) n 16
    unfolding relation_atoms pairs
    word_atoms = number_same (is_atom sch a) _ n 0 16 (λ j l. rw (zero-add j) (atom_bit j l))

  -- from the end on there are none
  past : (a n : ℕ) → n < 256 → atoms_end sch.relations ≤ n → is_atom sch a n ≡ false
  unfolding is_atom atom_relation atoms_end
  past a n h l = rw (lt-leb (n / 16 + 1) sch.relations (omega arith), and-false)

  -- ---- the bound facts below n are in the set, for every move that is there and that the table by kind is right for
  module _ (ks : List ℕ) where
    unfoldable pub AtomsTo : ℕ → List ℕ → Type 0
    AtomsTo n set = ForMoves sch ks (λ m. out_of_range sch.moves m.0 ≡ false → set ≡ mask_below 32 (is_atom sch m.0) n)

    pub atoms_first : (set : List ℕ) → set ≡ empty 32 → AtomsTo 0 set
    unfolding AtomsTo ForMoves mask_below
    atoms_first set e m right there = e ∙ below_none 32 (is_atom sch m.0)

    -- a relation more, number i from 0 among the first `end`, which are those that have bound facts
    module _ (end i : ℕ) (set : List ℕ) (to : AtomsTo (16 * i) set) (is : end ≡ min sch.relations max_relations) where
      pub atoms_next : (bits : ℕ) (r : Relation) (new : List ℕ)
          → i < end
          → r ≡ atom_relation (16 * i)
          → ForMoves sch ks (λ m. bits ≡ relation_atoms sch m r)
          → new ≡ stored_word set (16 * i) bits
          → AtomsTo (16 * (i + 1)) new
      unfolding AtomsTo ForMoves
      atoms_next bits r new l f b g m right there =
          let are : bits ≡ number (is_atom sch m.0) (16 * i) 16 = b m right ∙ rw f (word_atoms m.0 (16 * i) there (omega arith) (omega arith)) in
          let next : 16 * i + 16 ≡ 16 * (i + 1) = omega arith in
          g ∙ rw (to m right there) (word_next 32 (is_atom sch m.0) (16 * i) _ (omega arith) (omega arith) are) ∙ ap (mask_below 32 (is_atom sch m.0)) next

      pub atoms_last : (m : Move) → end ≤ i → ParamsByKind sch m ks → out_of_range sch.moves m.0 ≡ false → set ≡ atom_set sch m.0
      unfolding AtomsTo ForMoves mask_below atom_set atoms_end
      atoms_last m l right there =
          to m right there ∙ below_end 32 (is_atom sch m.0) (16 * i) (λ j h k. past m.0 j k (omega arith))
