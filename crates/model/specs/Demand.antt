-- Demand 3 over transitions: what is shown of the check of plans, for steps that went (`ts`) and steps that did not (`us`).
-- The judge's side is Judge and Model, which cite nothing learned; the check's side is Learned and Check.
use Rattle.std.specs.Prelude.{◌≡◌, ◌↔◌, false, List, []}
use Rattle.quantify.specs.Quantify.{first, least}
use Rattle.model.specs.Domain.{Domain, State, GroundAction, Transition, Failed, GoalLiteral}
use Rattle.model.specs.Model.{Model, Fitting}
use Rattle.model.specs.Judge.{Verdict, Judged}
use Rattle.model.specs.Learned.{learned, unbound_effect, conflicting}
use Rattle.model.specs.Check.{refuted, unfit, checked}
use Rattle.model.specs.Formed.{Grounded}
use Rattle.model.specs.Exact.{Exact}

pub record Demand (D : Domain) (ts : List Transition) (us : List Failed) : Type 0 where
  -- The check's verdict is that of the judge who holds all models that fit; it refuses exactly if no model fits.
  pub exact : Exact D (Fitting D ts us) (unfit D ts us) (checked D ts us)
  -- No row is met exactly if 11 has no first transition, 12 no smallest action and 28 no first step that did not go: so the three are read off in turn.
  pub rows : unfit D ts us ≡ false
      ↔ ((first (unbound_effect D) ts ≡ 0) × (least D.actions (conflicting D ts) ≡ 0) × (first (refuted D (learned D ts)) us ≡ 0))
  -- As if absent: wherever some model fits, the judge says of every plan, start and goal what he says when the steps that did not go are left out.
  pub absent : (M : Model) → Fitting D ts us M → (plan : List GroundAction) → Grounded D plan → (st : State) (goal : List GoalLiteral) (v : Verdict)
      → Judged D (Fitting D ts us) plan st goal v ↔ Judged D (Fitting D ts []) plan st goal v
  -- And the check says what it says when they are left out.
  pub absent_check : (M : Model) → Fitting D ts us M → (plan : List GroundAction) (st : State) (goal : List GoalLiteral)
      → checked D ts us plan st goal ≡ checked D ts [] plan st goal
