-- `append_turned` meets its contract: a loop of turns, then what is left of either list.
use Rattle.format.specs.Lists.{list_at}
use Rattle.format.specs.Toggled.{toggled}
use Rattle.jobs.specs.Convert.{facts_bytes}
use Rattle.rendering.specs.Merge.{left}
use Rattle.rendering.proofs.Merge.{Merged}
use Rattle.rendering.proofs.append_turned.Given as goal

abbrev pub invariant-loop-v : goal.invariant-loop-v
invariant-loop-v l = Merged l.state l.book (facts_bytes (toggled (list_at l.state 0) (list_at l.book l.at))) l.initial.new l.v l.new

abbrev pub decreases-loop-v : goal.decreases-loop-v
decreases-loop-v l = left l.v
