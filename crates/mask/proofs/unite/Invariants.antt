-- `mask::unite` meets its contract: a loop of `Turn`s of `|`.
use Rattle.std.proofs.Common.{bit_or}
use Rattle.mask.proofs.Turns.{Turn}
use Rattle.mask.proofs.unite.Given as goal

abbrev pub invariant-loop-i : goal.invariant-loop-i
invariant-loop-i l = Turn bit_or l.initial.acc l.other l.acc l.i
