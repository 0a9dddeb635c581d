-- `stepmasks::mark_rest` meets its contract: a loop of facts `MarkedTo` a cursor.
use Rattle.stepmasks.proofs.Facts.{MarkedTo}
use Rattle.stepmasks.proofs.mark_rest.Given as goal

abbrev pub invariant-loop-c : goal.invariant-loop-c
invariant-loop-c l = MarkedTo l.s l.lift.atoms.now l.lift.binding l.initial.m l.initial.c l.m l.c l.changed

abbrev pub decreases-loop-c : goal.decreases-loop-c
decreases-loop-c l = l.c.left
