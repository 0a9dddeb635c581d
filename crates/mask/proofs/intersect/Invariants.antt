-- `mask::intersect` meets its contract: a loop of `Turn`s of `&`.
use Rattle.std.proofs.Common.{bit_and}
use Rattle.mask.proofs.Turns.{Turn}
use Rattle.mask.proofs.intersect.Given as goal

abbrev pub invariant-loop-i : goal.invariant-loop-i
invariant-loop-i l = Turn bit_and l.initial.acc l.other l.acc l.i
