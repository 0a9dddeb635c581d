-- A fact (ground atom) of three bytes: how it is read, when it is right, the order of facts, and its number in an end sheet.
use Rattle.std.specs.Prelude.{ℕ, ◌+◌, ◌-◌, ◌*◌, Bool, true, false, ◌&&◌, ◌||◌, List, [], ◌∷◌, eqb, ltb, leb}
use Rattle.input.specs.Bytes.{byte_at}
use Rattle.terms.specs.declared.Fact.{Fact}
use Rattle.terms.specs.Schema.{Schema, TypedObjects, out_of_range, object_bad}

unfoldable pub fact_at : List ℕ → ℕ → Fact
fact_at s at =
    record {
      relation = record { 0 = byte_at s at };
      first = record { 0 = byte_at s (at + 1) };
      second = record { 0 = byte_at s (at + 2) };
    }

-- the fact is wrong: its relation is not there, or a place has an object that does not suit
unfoldable pub fact_bad : Schema → TypedObjects → Fact → Bool
fact_bad sch ob f =
    out_of_range sch.relations f.relation.0
    || object_bad sch ob (leb 1 (sch.places f.relation)) (sch.place_kind f.relation 1) f.first
    || object_bad sch ob (leb 2 (sch.places f.relation)) (sch.place_kind f.relation 2) f.second

-- byte by byte, strictly before
unfoldable pub precedes : Fact → Fact → Bool
precedes f g =
    ltb f.relation.0 g.relation.0
    || eqb f.relation.0 g.relation.0
    && (ltb f.first.0 g.first.0 || eqb f.first.0 g.first.0 && ltb f.second.0 g.second.0)

unfoldable pub same_fact : Fact → Fact → Bool
same_fact f g = eqb f.relation.0 g.relation.0 && eqb f.first.0 g.first.0 && eqb f.second.0 g.second.0

-- the same facts in the same sequence: of two states, whose facts stand in order, that they are the same
unfoldable pub same_facts : List Fact → List Fact → Bool
same_facts [] [] = true
same_facts [] (g ∷ gs) = false
same_facts (f ∷ fs) [] = false
same_facts (f ∷ fs) (g ∷ gs) = same_fact f g && same_facts fs gs

-- stands before the first fact of a list: it precedes every fact that is right, whose relation is at least 1
unfoldable pub no_fact : Fact
no_fact = record { relation = record { 0 = 0 }; first = record { 0 = 0 }; second = record { 0 = 0 } }

-- the number of a fact by the paper's formula, an unused place adding 0
unfoldable pub fact_number : Fact → ℕ
fact_number f = 256 * (f.relation.0 - 1) + 16 * (f.first.0 - 1) + (f.second.0 - 1)
