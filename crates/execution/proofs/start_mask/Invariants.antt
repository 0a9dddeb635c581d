-- `execution::start_mask` meets its contract: the rest of the facts put into the state give what all give from nothing.
use Rattle.std.proofs.Common.{◌≡◌, ◌+◌, ◌-◌, ◌*◌}
use Rattle.limits.specs.Limits.{fact_size}
use Rattle.format.specs.Lists.{facts_at}
use Rattle.statemask.specs.Statemask.{with_facts, start_mask}
use Rattle.execution.proofs.start_mask.Given as goal

abbrev pub invariant-loop-i : goal.invariant-loop-i
invariant-loop-i l = with_facts (facts_at l.o (l.n - l.i) (l.from + fact_size * l.i)) l.state ≡ start_mask (facts_at l.o l.n l.from)
