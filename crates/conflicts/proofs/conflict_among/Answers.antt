-- `conflicts::conflict_among` meets its contract: no move up to number i has a conflict.
use Rattle.quantify.proofs.Quantify.{least_first, least_next}
use Rattle.conflicts.proofs.Refusals.{among_here, among_none}
use Rattle.conflicts.proofs.conflict_among.Goals as goal

pub loop-i-init : goal.loop-i-init
loop-i-init c = least_first _

pub returns-then-conflicting : goal.returns-then-conflicting
returns-then-conflicting c = rw c.at.ensures (among_here _ _ _ c.loop-i.invariant _ c.conflicting.ensures c.if-conflicting.true c.loop-i-test.true)

pub loop-i-preserved : goal.loop-i-preserved
loop-i-preserved c = least_next _ _ _ c.loop-i.invariant c.conflicting.ensures c.if-conflicting.false

pub returns : goal.returns
returns c = among_none _ _ _ c.loop-i.invariant c.loop-i.auto.i-end c.loop-i-test.false
