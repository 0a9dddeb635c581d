-- The check of a plan by the learned model, as a verdict, and the rows by which no model fits.
use Rattle.std.specs.Prelude.{ℕ, zero, suc, Bool, true, false, ◌||◌, not, List}
use Rattle.quantify.specs.Quantify.{any, below, first}
use Rattle.model.specs.Domain.{Domain, State, GroundAction, Transition, Failed, GoalLiteral}
use Rattle.model.specs.Model.{Model, Run, stopped, ended, inapplicable, run}
use Rattle.model.specs.Judge.{Verdict, impossible, stops, misses, passes, wrong}
use Rattle.model.specs.Learned.{learned, unbound_effect, conflicting}

-- the goal at the end state
unfoldable pub reached : State → ℕ → Verdict
reached end zero = passes end
reached end (suc i) = misses (suc i)

-- what a run comes to, with the goal
unfoldable pub judged_run : List GoalLiteral → Run → Verdict
judged_run goal (stopped k) = stops k
judged_run goal (ended end) = reached end (first (wrong end) goal)

-- a check by one model L: impossible where `none` is true, which says that no model fits; else what the run under L comes to
unfoldable pub checked_by : Bool → Domain → Model → List GroundAction → State → List GoalLiteral → Verdict
checked_by none D L plan st goal = elim none [ true ↦ impossible | false ↦ judged_run goal (run D L plan st 1) ]

-- rows 11 and 12
unfoldable pub inconsistent : Domain → List Transition → Bool
inconsistent D ts = any (unbound_effect D) ts || below D.actions (λ a. conflicting D ts (suc a))

-- row 28: a step that did not go is applicable under the model
unfoldable pub refuted : Domain → Model → Failed → Bool
refuted D L u = not (inapplicable D L u.step u.state)

-- rows 11, 12 and 28
unfoldable pub unfit : Domain → List Transition → List Failed → Bool
unfit D ts us = inconsistent D ts || any (refuted D (learned D ts)) us

-- the whole check: impossible by row 11, 12 or 28, else the plan under the learned model
unfoldable pub checked : Domain → List Transition → List Failed → List GroundAction → State → List GoalLiteral → Verdict
checked D ts us = checked_by (unfit D ts us) D (learned D ts)
