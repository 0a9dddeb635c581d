-- `all_in` meets its contract: the objects so far are each in its set, and those to come.
use Rattle.objectset.proofs.Laws.{Asking}
use Rattle.objectset.proofs.all_in.Given as goal

abbrev pub invariant-loop-a : goal.invariant-loop-a
invariant-loop-a g l = Asking l.a-items l.a-index l.known l.bits
