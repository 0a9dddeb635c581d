-- The relations and moves of a book as a planning schema: which kinds their places and parameters have, and what suits them.
use Rattle.std.specs.Prelude.{ℕ, zero, suc, ◌+◌, ◌-◌, ◌*◌, Bool, false, cond, ◌&&◌, ◌||◌, not, List, eqb, ltb}
use Rattle.limits.specs.Limits.{header_size, max_kinds, relation_size, move_size}
use Rattle.input.specs.Bytes.{byte_at}
use Rattle.terms.specs.declared.Param.{Param}
use Rattle.terms.specs.declared.Object.{Object}
use Rattle.terms.specs.declared.Relation.{Relation}
use Rattle.terms.specs.declared.Move.{Move}
use Rattle.terms.specs.declared.Sections.{Sections}
use Rattle.terms.specs.declared.Objects.{Objects}

-- a number that counts from 1 is 0, or over its count
unfoldable pub out_of_range : ℕ → ℕ → Bool
out_of_range count n = ltb n 1 || ltb count n

-- kinds (types of objects) with their parents (direct supertypes; 0 for none), relations (predicates) with the kinds of their places, moves
-- (action schemas) with the kinds of their parameters
pub record Schema : Type 0 where
  pub kinds : ℕ
  pub parent : ℕ → ℕ
  pub relations : ℕ
  pub moves : ℕ
  pub places : Relation → ℕ
  pub place_kind : Relation → ℕ → ℕ
  pub params : Move → ℕ
  pub param_kind : Move → Param → ℕ

-- where the parent of a kind, a relation and a move stand
unfoldable pub parent_at : ℕ → ℕ
parent_at kind = header_size + (kind - 1)

unfoldable pub relation_at : Sections → Relation → ℕ
relation_at h r = h.relations.at + relation_size * (r.0 - 1)

unfoldable pub move_at : Sections → Move → ℕ
move_at h m = h.moves.at + move_size * (m.0 - 1)

-- A parent stands before the relations: a book whose relations begin where the header ends has none. Places count from 1
unfoldable pub schema : Sections → List ℕ → Schema
schema h s =
    record {
      kinds = h.kinds;
      parent = λ kind. cond (ltb (parent_at kind) h.relations.at) (byte_at s (parent_at kind)) 0;
      relations = h.relations.count;
      moves = h.moves.count;
      places = λ r. byte_at s (relation_at h r);
      place_kind = λ r i. byte_at s (relation_at h r + i);
      params = λ m. byte_at s (move_at h m);
      param_kind = λ m p. byte_at s (move_at h m + p.0);
    }

-- the objects of a record or an order, with their kinds: the typed objects of a planning problem
pub record TypedObjects : Type 0 where
  pub count : ℕ
  pub kind : Object → ℕ

unfoldable pub typed_objects : Objects → List ℕ → TypedObjects
typed_objects objects s = record { count = objects.count; kind = λ x. byte_at s (objects.at + (x.0 - 1)) }

-- the kind named is one of the first n of these: a kind, its parent, the parent's parent, and so on
unfoldable pub suits_within : Schema → ℕ → ℕ → ℕ → Bool
suits_within sch zero named kind = false
suits_within sch (suc n) named kind = eqb kind named || ltb 0 (sch.parent kind) && suits_within sch n named (sch.parent kind)

-- whether a kind suits a place or a parameter of the kind named: it is that kind, or lies below it by any number of parents. In a book of good form a
-- parent is a smaller kind, so it is enough to look at as many kinds as a book may have
unfoldable pub kind_suits : Schema → ℕ → ℕ → Bool
kind_suits sch named kind = suits_within sch max_kinds named kind

-- the object byte of a place or parameter of the kind named is wrong: where the place is used it must be an object's number, of a kind that suits,
-- and where it is unused it must be 0
unfoldable pub object_bad : Schema → TypedObjects → Bool → ℕ → Object → Bool
object_bad sch ob used named x =
    used && (out_of_range ob.count x.0 || not (kind_suits sch named (ob.kind x))) || not used && not (eqb x.0 0)
