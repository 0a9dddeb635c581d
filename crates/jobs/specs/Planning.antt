-- From the values of a book or an order to the planning domain of `model`: its atoms, transitions, failed executions, states, plans and goals.
use Rattle.std.specs.Prelude.{ℕ, ◌*◌, not, List, map}
use Rattle.limits.specs.Limits.{atoms_per_relation, facts_per_relation}
use Rattle.terms.specs.declared.Step.{Step}
use Rattle.terms.specs.Sections.{sections_of}
use Rattle.terms.specs.Schema.{Schema, schema}
use Rattle.terms.specs.Facts.{fact_number}
use Rattle.terms.specs.Steps.{is_atom, ground}
use Rattle.format.specs.Form.{Form}
use Rattle.format.specs.Decode.{RecordedStep, recorded_steps}
use Rattle.format.specs.Order.{GoalEntry, starts, goal, plan}
use Rattle.model.specs.Domain.{Domain, State, GroundAction, Transition, Failed, GoalLiteral}
use Rattle.factsets.specs.Holding.{holding}
use Rattle.quantify.specs.Quantify.{chosen}

-- bound facts are numbered 16 to a relation, facts 256 to a relation
unfoldable pub domain : Schema → Domain
domain sch =
    record { atom = is_atom sch; atoms = atoms_per_relation * sch.relations; facts = facts_per_relation * sch.relations; actions = sch.moves }

unfoldable pub ground_action : Schema → Step → GroundAction
ground_action sch st = record { action = st.action.0; ground = ground sch st.binding }

unfoldable pub transition : Schema → RecordedStep → Transition
transition sch x = record { step = ground_action sch x.step; pre = holding x.pre; post = holding x.post }

-- a step that did not go, with the state before it
unfoldable pub failed : Schema → RecordedStep → Failed
failed sch x = record { step = ground_action sch x.step; state = holding x.pre }

unfoldable pub goal_entry : GoalEntry → GoalLiteral
goal_entry e = record { wanted = e.wanted; fact = fact_number e.fact }

-- recorded steps parted: those that went, and those that did not
unfoldable pub went_steps : List RecordedStep → List RecordedStep
went_steps = chosen (λ x. x.went)

unfoldable pub failed_steps : List RecordedStep → List RecordedStep
failed_steps = chosen (λ x. not x.went)

-- what a book says: its schema, and by its form its steps as recorded, those that went as transitions, and those that did not
unfoldable pub schema_of : List ℕ → Schema
schema_of s = schema (sections_of s) s

unfoldable pub steps_of_book : Form → List ℕ → List RecordedStep
steps_of_book form s = recorded_steps form (sections_of s) s

unfoldable pub transitions_of : Form → List ℕ → List Transition
transitions_of form s = map (transition (schema_of s)) (went_steps (steps_of_book form s))

unfoldable pub failed_of : Form → List ℕ → List Failed
failed_of form s = map (failed (schema_of s)) (failed_steps (steps_of_book form s))

-- what an order says, for the schema of a book: its starts in file order, its plan and its goal
unfoldable pub start_states : List ℕ → List State
start_states o = map holding (starts o)

unfoldable pub plan_of : Schema → List ℕ → List GroundAction
plan_of sch o = map (ground_action sch) (plan o)

unfoldable pub goal_of : List ℕ → List GoalLiteral
goal_of o = map goal_entry (goal o)
