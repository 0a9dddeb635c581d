-- What good form gives of kinds: a parent is a smaller kind; parameters and objects are of kinds that are there. And when a kind lies below another.
use Rattle.std.specs.Prelude.{ℕ, ◌≤◌, ◌<◌, ◌≡◌, ◌↔◌, true}
use Rattle.limits.specs.Limits.{max_kinds}
use Rattle.terms.specs.declared.Param.{Param}
use Rattle.terms.specs.declared.Object.{Object}
use Rattle.terms.specs.declared.Move.{Move}
use Rattle.terms.specs.Schema.{Schema, TypedObjects, kind_suits}

-- a kind of the schema
abbrev pub IsKind : Schema → ℕ → Type 0
IsKind sch k = (1 ≤ k) × (k ≤ sch.kinds)

-- the parent of a kind, if it has one, is a smaller kind; and there are no more kinds than there may be
pub record Falling (sch : Schema) : Type 0 where
  pub few : sch.kinds ≤ max_kinds
  pub smaller : (k : ℕ) → 1 ≤ k → k ≤ sch.kinds → sch.parent k < k

-- and the parameters of moves are of kinds that are there
pub record RightSchema (sch : Schema) : Type 0 where
  pub falling : Falling sch
  pub params : (m : Move) → 1 ≤ m.0 → m.0 ≤ sch.moves → (p : Param) → 1 ≤ p.0 → p.0 ≤ sch.params m → IsKind sch (sch.param_kind m p)

-- parents are smaller kinds, and each object is of a kind that is there
pub record RightObjects (sch : Schema) (ob : TypedObjects) : Type 0 where
  pub falling : Falling sch
  pub known : (x : Object) → 1 ≤ x.0 → x.0 ≤ ob.count → IsKind sch (ob.kind x)

-- a kind is the one named, or lies below it by any number of parents. Where parents are smaller kinds this is what `kind_suits` says, which looks at
-- no more kinds than a book may have (`SuitsBelow`)
pub data Below (sch : Schema) (named : ℕ) : ℕ → Type 0 where
  own : Below sch named named
  under : {kind : ℕ} → 1 ≤ sch.parent kind → Below sch named (sch.parent kind) → Below sch named kind

abbrev pub SuitsBelow : Type 0
SuitsBelow = (sch : Schema) → Falling sch → (named kind : ℕ) → IsKind sch kind → kind_suits sch named kind ≡ true ↔ Below sch named kind
