-- `lifting::invert` meets its contract: the digits of the parameters from the last on, put into an empty table.
use Rattle.lifting.proofs.Pairs.{Table, put_from}
use Rattle.lifting.proofs.invert.Given as goal

abbrev pub invariant-loop-i : goal.invariant-loop-i
invariant-loop-i l = Table l.t (put_from l.b l.i)
