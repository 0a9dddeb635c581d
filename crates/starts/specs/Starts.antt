-- What the functions say: rows 19 and 20 from a start and from each start with the state masks, and with the lent end sheet.
use Rattle.std.specs.Prelude.{ℕ, ◌≤◌, ◌≡◌, List, length}
use Rattle.answer.specs.Answer.{Answer, Good, Positioned, kept}
use Rattle.answer.specs.Walk.{walk}
use Rattle.limits.specs.Limits.{max_length}
use Rattle.terms.specs.declared.Fact.{Fact}
use Rattle.terms.specs.Schema.{Schema, TypedObjects}
use Rattle.format.specs.Filed.{as_written}
use Rattle.format.specs.States.{state}
use Rattle.format.specs.Order.{GoalEntry, goal_at, step_count, starts, goal, plan}
use Rattle.jobs.specs.Check.{first_failing, end_after}
use Rattle.statemask.specs.Statemask.{MoveRules, Executed, execute, start_mask}
use Rattle.statemask.specs.Executing.{executed_answer}

-- a plan executed over a mask, and its goal: the answer, and the mask
pub record PlanExecuted (c : Executed) (steps : ℕ) (goal : List GoalEntry) (new : List ℕ) (r : Answer) : Type 0 where
  pub says : r ≡ executed_answer steps goal c
  pub mask : new ≡ c.mask

-- what an order's plan comes to over masks from a start, by the rules of each move, and rows 19 and 20 of it
unfoldable pub executed_from : Schema → (ℕ → MoveRules) → List ℕ → List Fact → Executed
executed_from sch R o start = execute sch R (plan o) (start_mask start) 1

unfoldable pub answer_from : Schema → (ℕ → MoveRules) → List ℕ → List Fact → Answer
answer_from sch R o start = executed_answer (step_count o) (goal o) (executed_from sch R o start)

-- a number of starts from an offset on are good, for some schema and objects, and end where the goal entries begin
pub record StartsGood (o : List ℕ) (n at : ℕ) : Type 0 where
  pub sch : Schema
  pub ob : TypedObjects
  pub good : walk (state as_written 16 sch ob o (goal_at o)) n at ≡ Good (goal_at o)
  pub near : goal_at o ≤ max_length
  pub within : goal_at o ≤ length o

-- rows 19 and 20 from each start
unfoldable pub answer_each : Schema → (ℕ → MoveRules) → List ℕ → Positioned
answer_each sch R o = first_failing (answer_from sch R o) (step_count o) 1 (starts o)

-- the same with a lent end sheet: the answer with its position, and every byte of the sheet afterwards
pub record StartsOutcome (sch : Schema) (R : ℕ → MoveRules) (o old new : List ℕ) (r : Positioned) : Type 0 where
  pub says : r ≡ answer_each sch R o
  pub bytes : new ≡ kept r.answer (end_after (λ start. (executed_from sch R o start).mask) (starts o) old) old
