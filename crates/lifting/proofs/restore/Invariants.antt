-- `lifting::restore` meets its contract: the digits of the parameters taken out of the table, one after the other.
use Rattle.lifting.proofs.Pairs.{Table, left_after}
use Rattle.lifting.proofs.restore.Given as goal

abbrev pub invariant-loop-object : goal.invariant-loop-object
invariant-loop-object l = Table l.t (left_after l.fn.b l.object-index)
