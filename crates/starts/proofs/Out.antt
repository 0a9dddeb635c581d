-- Rows 19 and 20 by what the calls return.
use Rattle.std.proofs.Common.{ℕ, zero, suc, ◌<◌, ◌≡◌, sym, ap, ◌∙◌, List, arith}
use Rattle.answer.specs.Answer.{Good, Refused}
use Rattle.terms.specs.Schema.{Schema}
use Rattle.format.specs.Order.{GoalEntry, step_count, steps_at, goal_count, goal_at, goal, goal_from, plan, plan_from}
use Rattle.jobs.specs.Check.{goal_answer}
use Rattle.statemask.specs.Statemask.{MoveRules, Executed, execute, missed}
use Rattle.statemask.specs.Executing.{executed_answer}
use Rattle.execution.specs.Execution.{Executes}
use Rattle.starts.specs.Starts.{PlanExecuted}

stop_answer : (c : Executed) (steps : ℕ) (g : List GoalEntry) (k : ℕ) → c.stop ≡ k → 0 < k → Refused 19 k ≡ executed_answer steps g c
unfolding executed_answer
stop_answer c steps g zero e h = absurd (omega arith)
stop_answer c steps g (suc k) e h = rw e

miss_answer : (c : Executed) (steps : ℕ) (g : List GoalEntry) (i : ℕ) → c.stop ≡ 0 → missed c.mask g ≡ i → 0 < i → Refused 20 i ≡ executed_answer steps g c
unfolding executed_answer goal_answer
miss_answer c steps g zero e f h = absurd (omega arith)
miss_answer c steps g (suc i) e f h = rw (e, f)

pass_answer : (c : Executed) (steps : ℕ) (g : List GoalEntry) → c.stop ≡ 0 → missed c.mask g ≡ 0 → Good steps ≡ executed_answer steps g c
unfolding executed_answer goal_answer
pass_answer c steps g e f = rw (e, f)

module _ (sch : Schema) (R : ℕ → MoveRules) (o old new : List ℕ) (steps at k : ℕ)
    (p : steps ≡ step_count o) (q : at ≡ steps_at o) (executed : Executes sch R (plan_from o steps at) old k new) where
  whole : plan_from o steps at ≡ plan o
  unfolding plan
  whole = rw (p, q)

  stops : k ≡ (execute sch R (plan o) old 1).stop
  stops = rw (← whole) executed.stop

  leaves : new ≡ (execute sch R (plan o) old 1).mask
  leaves = rw (← whole) executed.mask

  pub out_stop : 0 < k → PlanExecuted (execute sch R (plan o) old 1) (step_count o) (goal o) new (Refused 19 k)
  out_stop h =
      record {
        says = stop_answer _ _ _ k (sym stops) h;
        mask = leaves;
      }

  module _ (none : k ≡ 0) (n g i : ℕ) (r : n ≡ goal_count o) (t : g ≡ goal_at o) (first : i ≡ missed new (goal_from o n g)) where
    misses : missed (execute sch R (plan o) old 1).mask (goal o) ≡ i
    unfolding goal
    misses = rw (← leaves, ← r, ← t) (sym first)

    pub out_miss : 0 < i → PlanExecuted (execute sch R (plan o) old 1) (step_count o) (goal o) new (Refused 20 i)
    out_miss h =
        record {
          says = miss_answer _ _ _ i (sym stops ∙ none) misses h;
          mask = leaves;
        }

    pub out_pass : i ≡ 0 → PlanExecuted (execute sch R (plan o) old 1) (step_count o) (goal o) new (Good steps)
    out_pass h =
        record {
          says = ap Good p ∙ pass_answer _ _ _ (sym stops ∙ none) (misses ∙ h);
          mask = leaves;
        }
