-- `execution::missed` meets its contract: no entry so far is missed, so the first of the rest is the first of all.
use Rattle.std.proofs.Common.{◌≡◌}
use Rattle.format.specs.Order.{goal_from}
use Rattle.statemask.specs.Statemask.{missed}
use Rattle.execution.proofs.Goal.{missed_behind}
use Rattle.execution.proofs.missed.Given as goal

abbrev pub invariant-loop-i : goal.invariant-loop-i
invariant-loop-i l = missed_behind l.o l.state l.n l.from l.i ≡ missed l.state (goal_from l.o l.n l.from)
