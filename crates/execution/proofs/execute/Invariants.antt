-- `execution::execute` meets its contract: what the rest of the plan comes to from here is what the whole plan comes to.
use Rattle.std.proofs.Common.{◌≡◌, ◌+◌, ◌-◌, ◌*◌}
use Rattle.limits.specs.Limits.{step_size}
use Rattle.terms.specs.Schema.{schema}
use Rattle.format.specs.Order.{plan_from}
use Rattle.statemask.specs.Statemask.{rules_in, execute}
use Rattle.execution.proofs.execute.Given as goal

abbrev pub invariant-loop-k : goal.invariant-loop-k
invariant-loop-k l =
    execute (schema l.h l.book) (rules_in l.rules) (plan_from l.o (l.steps - l.k) (l.from + step_size * l.k)) l.state (l.k + 1)
    ≡ execute (schema l.h l.book) (rules_in l.rules) (plan_from l.o l.steps l.from) l.initial.state 1
