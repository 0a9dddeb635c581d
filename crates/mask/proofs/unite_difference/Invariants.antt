-- `mask::unite_difference` meets its contract: a loop of `Turn`s of `|` with the bytes of the difference.
use Rattle.std.proofs.Common.{bit_or}
use Rattle.mask.specs.Sets.{difference}
use Rattle.mask.proofs.Turns.{Turn}
use Rattle.mask.proofs.unite_difference.Given as goal

abbrev pub invariant-loop-i : goal.invariant-loop-i
invariant-loop-i l = Turn bit_or l.initial.acc (difference l.a l.b) l.acc l.i
