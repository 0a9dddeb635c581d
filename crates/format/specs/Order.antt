-- Rows 14 to 18, 22 among them: an order, and what a good one holds. `sch` is the book's.
use Rattle.std.specs.Prelude.{ℕ, zero, suc, ◌+◌, ◌*◌, Bool, ◌||◌, not, List, [], ◌∷◌, length, eqb, ltb}
use Rattle.answer.specs.Answer.{Answer, Good, ◌>>=◌, refuse}
use Rattle.answer.specs.Walk.{walk}
use Rattle.input.specs.Bytes.{byte_at, two}
use Rattle.terms.specs.declared.Objects.{Objects}
use Rattle.terms.specs.declared.Fact.{Fact}
use Rattle.terms.specs.declared.Step.{Step}
use Rattle.terms.specs.Schema.{Schema, TypedObjects, typed_objects, out_of_range}
use Rattle.terms.specs.Facts.{fact_at, fact_bad, precedes, no_fact}
use Rattle.terms.specs.Steps.{step_at, step_bad, repeats}
use Rattle.limits.specs.Limits.{header_size, max_objects, max_starts, max_entries, max_steps, entry_size, step_size}
use Rattle.format.specs.Filed.{as_written}
use Rattle.format.specs.States.{state}
use Rattle.format.specs.Lists.{list_at, list_end}

-- the header: counts of objects, starts, goal entries, steps
unfoldable pub object_count : List ℕ → ℕ
object_count o = two o 0

unfoldable pub start_count : List ℕ → ℕ
start_count o = two o 2

unfoldable pub goal_count : List ℕ → ℕ
goal_count o = two o 4

unfoldable pub step_count : List ℕ → ℕ
step_count o = two o 6

-- where the sections begin. The counts do not tell how long the starts are, so that only the header says where they end and the goal entries begin
unfoldable pub start_at : List ℕ → ℕ
start_at o = header_size + object_count o

unfoldable pub goal_at : List ℕ → ℕ
goal_at o = two o 12

unfoldable pub steps_at : List ℕ → ℕ
steps_at o = goal_at o + entry_size * goal_count o

-- row 14, before the number of starts is asked
unfoldable pub order_counts_bad : List ℕ → Bool
order_counts_bad o =
    ltb (length o) header_size || ltb max_objects (object_count o) || ltb max_entries (goal_count o) || ltb max_steps (step_count o)

-- row 14, after it
unfoldable pub order_offsets_bad : List ℕ → Bool
order_offsets_bad o =
    not (eqb (two o 8) header_size)
    || not (eqb (two o 10) (start_at o))
    || ltb (goal_at o) (start_at o)
    || not (eqb (two o 14) (steps_at o))
    || not (eqb (length o) (steps_at o + step_size * step_count o))

-- rows 14 and 22; a good answer says where the objects begin
unfoldable pub order_header : List ℕ → Answer
order_header o = do
  _ ← refuse (order_counts_bad o) 14 0
  _ ← refuse (out_of_range max_starts (start_count o)) 22 0
  _ ← refuse (order_offsets_bad o) 14 0
  Good header_size

unfoldable pub order_objects : List ℕ → Objects
order_objects o = record { count = object_count o; at = header_size }

-- row 15
unfoldable pub order_object : ℕ → List ℕ → ℕ → Answer
order_object kinds o at = do
  _ ← refuse (out_of_range kinds (byte_at o at)) 15 at
  Good (at + 1)

-- row 16: the starts, each written as a state of a book, and no bytes left before the goal entries
unfoldable pub starts_form : Schema → TypedObjects → List ℕ → Answer
starts_form sch ob o = do
  last ← walk (state as_written 16 sch ob o (goal_at o)) (start_count o) (start_at o)
  _ ← refuse (ltb last (goal_at o)) 16 last
  Good (goal_at o)

-- row 17: a byte 1 or 0, then a fact after the one of the entry before
unfoldable pub entry_bad : Schema → TypedObjects → List ℕ → Fact → ℕ → Bool
entry_bad sch ob o last at = ltb 1 (byte_at o at) || fact_bad sch ob (fact_at o (at + 1)) || not (precedes last (fact_at o (at + 1)))

unfoldable pub entries : Schema → TypedObjects → List ℕ → ℕ → Fact → ℕ → Answer
entries sch ob o zero last at = Good at
entries sch ob o (suc n) last at = do
  _ ← refuse (entry_bad sch ob o last at) 17 at
  entries sch ob o n (fact_at o (at + 1)) (at + entry_size)

-- row 18
unfoldable pub plan_step_bad : Schema → TypedObjects → List ℕ → ℕ → Bool
plan_step_bad sch ob o at = step_bad sch ob (step_at o at) || repeats (step_at o at)

unfoldable pub plan_step : Schema → TypedObjects → List ℕ → ℕ → Answer
plan_step sch ob o at = do
  _ ← refuse (plan_step_bad sch ob o at) 18 at
  Good (at + step_size)

-- rows 17 and 18
unfoldable pub from_goal : Schema → TypedObjects → List ℕ → Answer
from_goal sch ob o = do
  _ ← entries sch ob o (goal_count o) no_fact (goal_at o)
  walk (plan_step sch ob o) (step_count o) (steps_at o)

-- rows 16 to 18
unfoldable pub from_start : Schema → TypedObjects → List ℕ → Answer
from_start sch ob o = do
  _ ← starts_form sch ob o
  from_goal sch ob o

-- rows 14 to 18; a good answer says where the order ends
unfoldable pub order_form : Schema → List ℕ → Answer
order_form sch o = do
  _ ← order_header o
  _ ← walk (order_object sch.kinds o) (object_count o) header_size
  from_start sch (typed_objects (order_objects o) o) o

-- what a good order holds: the starts (initial states), each as the facts that hold; the goal entries; the plan
unfoldable pub starts_from : List ℕ → ℕ → ℕ → List (List Fact)
starts_from o zero at = []
starts_from o (suc n) at = list_at o at ∷ starts_from o n (list_end o at)

unfoldable pub starts : List ℕ → List (List Fact)
starts o = starts_from o (start_count o) (start_at o)

pub record GoalEntry : Type 0 where
  pub wanted : Bool
  pub fact : Fact

unfoldable pub entry_at : List ℕ → ℕ → GoalEntry
entry_at o at = record { wanted = eqb (byte_at o at) 1; fact = fact_at o (at + 1) }

unfoldable pub goal_from : List ℕ → ℕ → ℕ → List GoalEntry
goal_from o zero at = []
goal_from o (suc n) at = entry_at o at ∷ goal_from o n (at + entry_size)

unfoldable pub goal : List ℕ → List GoalEntry
goal o = goal_from o (goal_count o) (goal_at o)

unfoldable pub plan_from : List ℕ → ℕ → ℕ → List Step
plan_from o zero at = []
plan_from o (suc n) at = step_at o at ∷ plan_from o n (at + step_size)

unfoldable pub plan : List ℕ → List Step
plan o = plan_from o (step_count o) (steps_at o)
