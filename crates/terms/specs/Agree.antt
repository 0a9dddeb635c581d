-- Two schemas that say the same of each relation and each move that is there, wherever their bytes stand, and of the parent of each kind that
-- both have. The counts of kinds may differ.
use Rattle.std.specs.Prelude.{ℕ, ◌≤◌, ◌≡◌}
use Rattle.limits.specs.Limits.{max_places, max_params}
use Rattle.terms.specs.declared.Param.{Param}
use Rattle.terms.specs.declared.Relation.{Relation}
use Rattle.terms.specs.declared.Move.{Move}
use Rattle.terms.specs.Schema.{Schema}

pub record SameSchema (S T : Schema) : Type 0 where
  pub parent : (k : ℕ) → 1 ≤ k → k ≤ S.kinds → k ≤ T.kinds → S.parent k ≡ T.parent k
  pub relations : S.relations ≡ T.relations
  pub moves : S.moves ≡ T.moves
  pub places : (r : Relation) → 1 ≤ r.0 → r.0 ≤ S.relations → S.places r ≡ T.places r
  pub place_kind : (r : Relation) → 1 ≤ r.0 → r.0 ≤ S.relations → (i : ℕ) → i ≤ max_places → S.place_kind r i ≡ T.place_kind r i
  pub params : (m : Move) → 1 ≤ m.0 → m.0 ≤ S.moves → S.params m ≡ T.params m
  pub param_kind : (m : Move) → 1 ≤ m.0 → m.0 ≤ S.moves → (p : Param) → p.0 ≤ max_params → S.param_kind m p ≡ T.param_kind m p
