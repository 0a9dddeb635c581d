-- The judge of a book: he holds every model that fits the book's steps, those that went and those that did not, which are what its form decodes to.
-- Nothing learned is cited here.
use Rattle.std.specs.Prelude.{ℕ, List}
use Rattle.format.specs.Form.{Form}
use Rattle.model.specs.Domain.{State, GroundAction, GoalLiteral}
use Rattle.model.specs.Model.{Model, Fitting}
use Rattle.model.specs.Judge.{Verdict, Judged}
use Rattle.jobs.specs.Planning.{domain, schema_of, transitions_of, failed_of, plan_of, goal_of}

-- the models (rule lists) that fit each record of the book: they are consistent with its transitions, and have some precondition unmet wherever a step did
-- not go
abbrev pub FitsBook : Form → List ℕ → Model → Type 0
FitsBook form s M = Fitting (domain (schema_of s)) (transitions_of form s) (failed_of form s) M

-- his verdict on any plan, from any state, with any goal
abbrev pub BookVerdict : Form → List ℕ → State → List GroundAction → List GoalLiteral → Verdict → Type 0
BookVerdict form s start plan goal v = Judged (domain (schema_of s)) (FitsBook form s) plan start goal v

-- his verdict on an order's plan from one start alone, with the order's goal
abbrev pub StartVerdict : Form → List ℕ → List ℕ → State → Verdict → Type 0
StartVerdict form s o start v = BookVerdict form s start (plan_of (schema_of s) o) (goal_of o) v
