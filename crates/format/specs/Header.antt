-- Rows 1 to 5: the length, the header, the parents of kinds, the relations and the moves of a book.
use Rattle.std.specs.Prelude.{ℕ, ◌+◌, ◌-◌, ◌*◌, Bool, ◌&&◌, ◌||◌, not, List, length, eqb, ltb, leb}
use Rattle.answer.specs.Answer.{Answer, Good, ◌>>=◌, refuse}
use Rattle.answer.specs.Walk.{walk}
use Rattle.input.specs.Bytes.{byte_at}
use Rattle.terms.specs.declared.Sections.{Sections}
use Rattle.terms.specs.Schema.{out_of_range}
use Rattle.limits.specs.Limits.{header_size, max_length, max_kinds, max_relations, max_moves, max_records, relation_size, move_size, max_places, max_params}

unfoldable pub length_bad : List ℕ → Bool
length_bad s = ltb (length s) header_size || ltb max_length (length s)

unfoldable pub counts_bad : Sections → Bool
counts_bad h =
    ltb max_kinds h.kinds
    || ltb max_relations h.relations.count
    || ltb max_moves h.moves.count
    || ltb max_records h.records.count

-- one of these does not hold: the relations begin where the header ends, or behind a byte for each kind; the sections touch; the end is the length;
-- the records begin at or before it
unfoldable pub offsets_bad : Sections → ℕ → Bool
offsets_bad h size =
    not (eqb h.relations.at header_size || eqb h.relations.at (header_size + h.kinds))
    || not (eqb h.moves.at (h.relations.at + relation_size * h.relations.count))
    || not (eqb h.records.at (h.moves.at + move_size * h.moves.count))
    || not (eqb h.end size)
    || ltb h.end h.records.at

-- the parent at an offset is not smaller than its kind: kinds count from 1, and the parent of the first stands behind the header
unfoldable pub parent_bad : List ℕ → ℕ → Bool
parent_bad s at = leb (at - header_size + 1) (byte_at s at)

-- a kind byte of a relation or a move is wrong: it must be a kind where it is used, and 0 where it is not
unfoldable pub kind_bad : List ℕ → ℕ → ℕ → Bool → Bool
kind_bad s kinds i used = used && out_of_range kinds (byte_at s i) || not used && not (eqb (byte_at s i) 0)

unfoldable pub relation_bad : List ℕ → ℕ → ℕ → Bool
relation_bad s kinds at =
    ltb max_places (byte_at s at)
    || kind_bad s kinds (at + 1) (leb 1 (byte_at s at))
    || kind_bad s kinds (at + 2) (leb 2 (byte_at s at))
    || not (eqb (byte_at s (at + 3)) 0)

unfoldable pub move_bad : List ℕ → ℕ → ℕ → Bool
move_bad s kinds at =
    ltb max_params (byte_at s at)
    || kind_bad s kinds (at + 1) (leb 1 (byte_at s at))
    || kind_bad s kinds (at + 2) (leb 2 (byte_at s at))
    || kind_bad s kinds (at + 3) (leb 3 (byte_at s at))
    || kind_bad s kinds (at + 4) (leb 4 (byte_at s at))
    || not (eqb (byte_at s (at + 5)) 0)

-- one parent, one relation, one move: where the next one starts
unfoldable pub parent : List ℕ → ℕ → Answer
parent s at = do
  _ ← refuse (parent_bad s at) 21 at
  Good (at + 1)

unfoldable pub relation : List ℕ → ℕ → ℕ → Answer
relation s kinds at = do
  _ ← refuse (relation_bad s kinds at) 4 at
  Good (at + relation_size)

unfoldable pub move : List ℕ → ℕ → ℕ → Answer
move s kinds at = do
  _ ← refuse (move_bad s kinds at) 5 at
  Good (at + move_size)

-- rows 1 to 5, and 21 after 3: as many parents as bytes stand between header and relations
unfoldable pub sections : Sections → List ℕ → Answer
sections h s = do
  _ ← refuse (length_bad s) 1 0
  _ ← refuse (counts_bad h) 2 0
  _ ← refuse (offsets_bad h (length s)) 3 0
  _ ← walk (parent s) (h.relations.at - header_size) header_size
  _ ← walk (relation s h.kinds) h.relations.count h.relations.at
  walk (move s h.kinds) h.moves.count h.moves.at
