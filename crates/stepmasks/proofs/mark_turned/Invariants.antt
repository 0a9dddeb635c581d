-- `stepmasks::mark_turned` meets its contract: a loop of facts that are looked over and turn, with the table of the step.
use mathlib.Core.Path.{◌≡◌}
use Rattle.mask.specs.Sets.{cardinality}
use Rattle.stepmasks.specs.Marks.{plain}
use Rattle.stepmasks.proofs.Looks.{Looking}
use Rattle.stepmasks.proofs.Turning.{Turns}
use Rattle.stepmasks.proofs.mark_turned.Given as goal

abbrev pub invariant-loop-c : goal.invariant-loop-c
invariant-loop-c l =
    Turns l.s l.atoms l.b l.initial.state l.initial.after (plain l.initial.c) l.state l.after (plain l.c) l.unbound × Looking l.s l.table l.at l.c × (l.count ≡ cardinality l.state)

abbrev pub decreases-loop-c : goal.decreases-loop-c
decreases-loop-c l = l.c.left
