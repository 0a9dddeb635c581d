-- The fact that a bound fact (lifted atom) becomes under a binding, as a value; `ground` is its number.
use Rattle.std.specs.Prelude.{ℕ, cond, leb}
use Rattle.terms.specs.declared.Object.{Object}
use Rattle.terms.specs.declared.Param.{Param}
use Rattle.terms.specs.declared.Relation.{Relation}
use Rattle.terms.specs.declared.Binding.{Binding}
use Rattle.terms.specs.declared.Fact.{Fact}
use Rattle.terms.specs.Schema.{Schema}
use Rattle.terms.specs.Steps.{object_of, atom_relation, atom_first, atom_second}

-- the object in a place, 0 in an unused one
unfoldable pub object_in : Schema → Binding → Relation → ℕ → Param → Object
object_in sch b r i p = record { 0 = cond (leb i (sch.places r)) (object_of b p).0 0 }

unfoldable pub fact_of : Schema → Binding → ℕ → Fact
fact_of sch b n =
    record {
      relation = atom_relation n;
      first = object_in sch b (atom_relation n) 1 (atom_first n);
      second = object_in sch b (atom_relation n) 2 (atom_second n);
    }
