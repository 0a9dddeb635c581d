-- Checking a plan: rows 13 to 20, and what the lent end sheet holds afterwards.
use Rattle.std.specs.Prelude.{ℕ, zero, suc, true, false, not, List, [], ◌∷◌, length, eqb}
use Rattle.answer.specs.Answer.{Answer, Good, Refused, Positioned, ◌>>=◌, refuse, is_refused, unpositioned, then_at, kept}
use Rattle.limits.specs.Limits.{state_size, end_sheet_size}
use Rattle.mask.specs.Sets.{mask_of}
use Rattle.format.specs.Form.{Form}
use Rattle.format.specs.Order.{step_count, order_form}
use Rattle.quantify.specs.Quantify.{first}
use Rattle.model.specs.Domain.{State, GroundAction, GoalLiteral}
use Rattle.model.specs.Model.{Run, stopped, ended, run}
use Rattle.model.specs.Judge.{wrong}
use Rattle.jobs.specs.Planning.{domain, schema_of, start_states, plan_of, goal_of}
use Rattle.jobs.specs.Learn.{learnable, learned_from}

-- a plan from a start on, under the model learned from the book
unfoldable pub plan_run : Form → List ℕ → State → List GroundAction → Run
plan_run form s start plan = run (domain (schema_of s)) (learned_from form s) plan start 1

-- the order's plan from one start
unfoldable pub order_run : Form → List ℕ → List ℕ → State → Run
order_run form s o start = plan_run form s start (plan_of (schema_of s) o)

-- rows 19 and 20; success is the plan's step count
unfoldable pub goal_answer : ℕ → ℕ → Answer
goal_answer steps zero = Good steps
goal_answer steps (suc i) = Refused 20 (suc i)

unfoldable pub run_answer : ℕ → List GoalLiteral → Run → Answer
run_answer steps goal (stopped k) = Refused 19 k
run_answer steps goal (ended end) = goal_answer steps (first (wrong end) goal)

-- rows 19 and 20 from one start alone
unfoldable pub start_answer : Form → List ℕ → List ℕ → State → Answer
start_answer form s o start = run_answer (step_count o) (goal_of o) (order_run form s o start)

-- The first start that fails gives number and place, and its position, where the first of the list has position k; success is the plan's
-- step count.
unfoldable pub first_failing : {A : Type 0} → (A → Answer) → ℕ → ℕ → List A → Positioned
first_failing answer steps k [] = unpositioned (Good steps)
first_failing answer steps k (start ∷ rest) =
    elim (is_refused (answer start))
    [ true ↦ record { answer = answer start; position = k } | false ↦ first_failing answer steps (suc k) rest ]

-- rows 19 and 20 from each start
unfoldable pub starts_answer : Form → List ℕ → List ℕ → Positioned
starts_answer form s o = first_failing (start_answer form s o) (step_count o) 1 (start_states o)

-- rows 1 to 18
unfoldable pub before_plan : Form → List ℕ → List ℕ → ℕ → Answer
before_plan form s o size = do
  _ ← learnable form s
  _ ← refuse (not (eqb size end_sheet_size)) 13 0
  order_form (schema_of s) o

-- all rows; success is the plan's step count
unfoldable pub check : Form → List ℕ → List ℕ → ℕ → Positioned
check form s o size = then_at (before_plan form s o size) (starts_answer form s o)

-- the end sheet of a run that ends: the state's mask
unfoldable pub end_sheet : Run → List ℕ
end_sheet (stopped k) = []
end_sheet (ended end) = mask_of state_size end

-- what a check that passes leaves of a lent end sheet: the sheet of the only start; with more starts nothing is written
unfoldable pub end_after : {A : Type 0} → (A → List ℕ) → List A → List ℕ → List ℕ
end_after sheet [] lent = lent
end_after sheet (start ∷ []) lent = sheet start
end_after sheet (start ∷ other ∷ rest) lent = lent

unfoldable pub check_bytes : Form → List ℕ → List ℕ → List ℕ → List ℕ
check_bytes form s o lent = kept (check form s o (length lent)).answer (end_after (λ start. end_sheet (order_run form s o start)) (start_states o) lent) lent
