-- A step (ground action) of five bytes: how it is read, when it is right, and the fact that a bound fact (lifted atom) becomes by its binding.
use Rattle.std.specs.Prelude.{ℕ, ◌+◌, ◌-◌, ◌*◌, ◌/◌, ◌%◌, Bool, cond, ◌&&◌, ◌||◌, List, [], ◌∷◌, eqb, ltb, leb, get_or}
use Rattle.input.specs.Bytes.{byte_at}
use Rattle.terms.specs.declared.Param.{Param}
use Rattle.terms.specs.declared.Object.{Object}
use Rattle.terms.specs.declared.Relation.{Relation}
use Rattle.terms.specs.declared.Move.{Move}
use Rattle.terms.specs.declared.Binding.{Binding}
use Rattle.terms.specs.declared.Step.{Step}
use Rattle.terms.specs.Schema.{Schema, TypedObjects, out_of_range, object_bad, kind_suits}

-- the object that a binding gives a parameter: the only way from one to the other
unfoldable pub object_of : Binding → Param → Object
object_of b p = get_or b.objects (p.0 - 1) (record { 0 = 0 })

unfoldable pub step_at : List ℕ → ℕ → Step
step_at s at =
    record {
      action = record { 0 = byte_at s at };
      binding =
          record {
            objects =
                record { 0 = byte_at s (at + 1) }
                ∷ record { 0 = byte_at s (at + 2) }
                ∷ record { 0 = byte_at s (at + 3) }
                ∷ record { 0 = byte_at s (at + 4) }
                ∷ [];
          };
    }

-- row 9, of one parameter
unfoldable pub argument_bad : Schema → TypedObjects → Step → ℕ → Bool
argument_bad sch ob st i =
    object_bad sch ob (leb i (sch.params st.action)) (sch.param_kind st.action (record { 0 = i })) (object_of st.binding (record { 0 = i }))

-- row 9: the move is not there, or a parameter has an object that does not suit
unfoldable pub step_bad : Schema → TypedObjects → Step → Bool
step_bad sch ob st =
    out_of_range sch.moves st.action.0
    || argument_bad sch ob st 1
    || argument_bad sch ob st 2
    || argument_bad sch ob st 3
    || argument_bad sch ob st 4

-- row 10, of two parameters: both used, with one object. An unused one has 0
unfoldable pub same_pair : Step → ℕ → ℕ → Bool
same_pair st i j =
    ltb 0 (object_of st.binding (record { 0 = j })).0
    && eqb (object_of st.binding (record { 0 = i })).0 (object_of st.binding (record { 0 = j })).0

-- row 10: an object twice
unfoldable pub repeats : Step → Bool
repeats st = same_pair st 1 2 || same_pair st 1 3 || same_pair st 1 4 || same_pair st 2 3 || same_pair st 2 4 || same_pair st 3 4

-- the relation and the parameters of bound fact n, and back
unfoldable pub atom_relation : ℕ → Relation
atom_relation n = record { 0 = n / 16 + 1 }

unfoldable pub atom_first : ℕ → Param
atom_first n = record { 0 = n / 4 % 4 + 1 }

unfoldable pub atom_second : ℕ → Param
atom_second n = record { 0 = n % 4 + 1 }

-- the parameter fills the place: it is one of the move's, and its kind suits. An unused place has the number 0, as if of parameter 1
unfoldable pub parameter_fills : Schema → Move → Relation → ℕ → Param → Bool
parameter_fills sch m r i p =
    leb i (sch.places r) && leb p.0 (sch.params m) && kind_suits sch (sch.place_kind r i) (sch.param_kind m p)
    || ltb (sch.places r) i && eqb p.0 1

-- which n are bound facts of a move
unfoldable pub is_atom : Schema → ℕ → ℕ → Bool
is_atom sch a n =
    leb 1 a && leb a sch.moves && leb (atom_relation n).0 sch.relations
    && parameter_fills sch (record { 0 = a }) (atom_relation n) 1 (atom_first n)
    && parameter_fills sch (record { 0 = a }) (atom_relation n) 2 (atom_second n)

-- the number of the object in a place, from 0; an unused place adds 0
unfoldable pub placed : Schema → Binding → Relation → ℕ → Param → ℕ
placed sch b r i p = cond (leb i (sch.places r)) ((object_of b p).0 - 1) 0

-- the number of the fact that bound fact n is under a binding
unfoldable pub ground : Schema → Binding → ℕ → ℕ
ground sch b n =
    256 * ((atom_relation n).0 - 1) + 16 * placed sch b (atom_relation n) 1 (atom_first n) + placed sch b (atom_relation n) 2 (atom_second n)
