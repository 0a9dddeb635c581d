-- When a check is exact: its verdict is the judge's, whichever models he holds. `none`, the row, is the check's own test that he holds none.
use Rattle.std.specs.Prelude.{◌≡◌, ◌↔◌, Bool, true, List}
use Rattle.model.specs.Domain.{Domain, State, GroundAction, GoalLiteral}
use Rattle.model.specs.Model.{Model}
use Rattle.model.specs.Judge.{Verdict, impossible, Judged}
use Rattle.model.specs.Formed.{Grounded}

pub record Exact (D : Domain) (P : Model → Type 0) (none : Bool) (check : List GroundAction → State → List GoalLiteral → Verdict) : Type 0 where
  -- the row is met exactly if the judge holds no model
  pub unfit : none ≡ true ↔ ((M : Model) → P M → ⊥)
  -- the check says impossible exactly if the row is met, whatever the plan
  pub refuses : (plan : List GroundAction) (st : State) (goal : List GoalLiteral) → (check plan st goal ≡ impossible) ↔ (none ≡ true)
  -- and of every verdict: the judge says it exactly if the check does
  pub verdict : (plan : List GroundAction) → Grounded D plan → (st : State) (goal : List GoalLiteral) (v : Verdict) → Judged D P plan st goal v ↔ (check plan st goal ≡ v)
