-- Two tables of sets of objects: by kind, and by relation and place. When a table is right for typed objects and a schema.
use Rattle.std.specs.Prelude.{ℕ, ◌+◌, ◌<◌, ◌≡◌, cond, ◌&&◌, ◌||◌, not, List, [], ◌∷◌, eqb, leb, length}
use Rattle.input.specs.Bytes.{byte_at}
use Rattle.objectset.specs.declared.Asked.{Asked}
use Rattle.objectset.specs.Sets.{member, entry}
use Rattle.terms.specs.declared.Object.{Object}
use Rattle.terms.specs.declared.Relation.{Relation}
use Rattle.terms.specs.declared.Fact.{Fact}
use Rattle.terms.specs.declared.Binding.{Binding}
use Rattle.terms.specs.Steps.{object_of}
use Rattle.terms.specs.Schema.{Schema, TypedObjects, out_of_range, kind_suits}
use Rattle.terms.specs.Facts.{fact_bad}
use Rattle.terms.specs.Told.{suits}

-- object x of a kind is put into the set of each kind that its own suits, and nothing else is changed
unfoldable pub Joined : Schema → ℕ → ℕ → List ℕ → List ℕ → Type 0
Joined sch kind x old new = (length new ≡ length old) × ((k y : ℕ) → member (entry new k) y ≡ (member (entry old k) y || eqb x y && kind_suits sch k kind))

-- the table by kind is right for a schema and typed objects: at each kind, the objects whose kind suits it
unfoldable pub RightByKind : Schema → TypedObjects → List ℕ → Type 0
RightByKind sch ob ks = (k : ℕ) (x : Object) → member (entry ks k) x.0 ≡ (not (out_of_range ob.count x.0) && kind_suits sch k (ob.kind x))

-- the set that suits a place of a relation
unfoldable pub place_set : Schema → List ℕ → Relation → ℕ → ℕ
place_set sch ks r i = cond (leb i (sch.places r)) (entry ks (sch.place_kind r i)) 1

-- the table by relation is right for a schema and typed objects: it tells which facts are wrong
unfoldable pub RightByPlace : Schema → TypedObjects → List ℕ → Type 0
RightByPlace sch ob t = (f : Fact) → f.relation.0 < 256 → not (suits t f) ≡ fact_bad sch ob f

-- it is right for some schema and some typed objects, whichever they are
unfoldable pub RightForSome : List ℕ → Type 0
RightForSome t = (sch : Schema) × (ob : TypedObjects) × RightByPlace sch ob t

-- the table by relation is right for all typed objects that the table by kind is right for
unfoldable pub RightFrom : Schema → List ℕ → List ℕ → Type 0
RightFrom sch ks t = (ob : TypedObjects) → RightByKind sch ob ks → RightByPlace sch ob t

-- what holds for every schema and all typed objects that the table by relation is right for
unfoldable pub ForRightByPlace : List ℕ → (Schema → TypedObjects → Type 0) → Type 0
ForRightByPlace t P = (sch : Schema) (ob : TypedObjects) → RightByPlace sch ob t → P sch ob

-- what holds for all typed objects that the table by kind is right for, under a schema
unfoldable pub ForRightByKind : Schema → List ℕ → (TypedObjects → Type 0) → Type 0
ForRightByKind sch ks P = (ob : TypedObjects) → RightByKind sch ob ks → P ob

-- a move's entry at an offset: how many parameters the move has, and the kinds of four
unfoldable pub move_entry : List ℕ → ℕ → List ℕ
move_entry s at = byte_at s at ∷ byte_at s (at + 1) ∷ byte_at s (at + 2) ∷ byte_at s (at + 3) ∷ byte_at s (at + 4) ∷ []

-- the object that a binding has for parameter i, which is of the kind given, and the set of objects that suit; `params` is how many parameters the
-- move has
unfoldable pub argument : List ℕ → ℕ → ℕ → ℕ → Binding → Asked
argument ks params i kind b = record { set = cond (leb i params) (entry ks kind) 1; object = (object_of b (record { 0 = i })).0 }
