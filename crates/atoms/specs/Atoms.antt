-- The bound facts (lifted atoms) of a move as a set, and what it is made from: the parameters that fill a place, as four bits, and the pairs of
-- two such sets, as the sixteen bits of a relation. Uses the tests of terms, the bits of mask, and the sets in a table.
use Rattle.std.specs.Prelude.{ℕ, ◌+◌, ◌*◌, ◌/◌, ◌%◌, ◌≤◌, min, ◌≡◌, ◌&&◌, List, leb, set}
use Rattle.limits.specs.Limits.{max_relations, max_params, set_size, atoms_per_relation}
use Rattle.mask.specs.Bits.{bit_of}
use Rattle.mask.specs.Sets.{number, mask_of}
use Rattle.objectset.specs.Sets.{member, entry}
use Rattle.terms.specs.declared.Param.{Param}
use Rattle.terms.specs.declared.Relation.{Relation}
use Rattle.terms.specs.declared.Move.{Move}
use Rattle.terms.specs.Schema.{Schema, kind_suits}
use Rattle.terms.specs.Steps.{parameter_fills, is_atom}

unfoldable pub atom_set : Schema → ℕ → List ℕ
atom_set sch a = mask_of set_size (is_atom sch a)

-- no bound fact has this number or a greater one
unfoldable pub atoms_end : ℕ → ℕ
atoms_end relations = atoms_per_relation * min relations max_relations

-- a table by kind is right for a move: at each kind, the parameters whose kind suits it
unfoldable pub ParamsByKind : Schema → Move → List ℕ → Type 0
ParamsByKind sch m ks =
    (k : ℕ) (p : Param) → 1 ≤ p.0 → p.0 ≤ max_params
    → member (entry ks k) p.0 ≡ (leb p.0 (sch.params m) && kind_suits sch k (sch.param_kind m p))

-- what holds for every move that a table by kind is right for, under a schema
unfoldable pub ForMoves : Schema → List ℕ → (Move → Type 0) → Type 0
ForMoves sch ks P = (m : Move) → ParamsByKind sch m ks → P m

-- the parameters of a move that fill a place of a relation: bit p - 1 is parameter p
unfoldable pub fillers : Schema → Move → Relation → ℕ → ℕ
fillers sch m r i = number (λ p. parameter_fills sch m r i (record { 0 = p })) 1 4

-- the pairs of two sets of four: bit 4 * p + q is bit p of the first and bit q of the second
unfoldable pub pairs : ℕ → ℕ → ℕ
pairs first second = number (λ n. bit_of first (n / 4) && bit_of second (n % 4)) 0 16

-- the bound facts of a move that a relation has
unfoldable pub relation_atoms : Schema → Move → Relation → ℕ
relation_atoms sch m r = pairs (fillers sch m r 1) (fillers sch m r 2)

-- a mask with sixteen bits stored from element n on, where a byte begins
unfoldable pub stored_word : List ℕ → ℕ → ℕ → List ℕ
stored_word m n bits = set (set m (n / 8) (bits % 256)) (n / 8 + 1) (bits / 256 % 256)
