-- `mask::unite` meets its contract: a loop of `Turn`s of `|`.
use Rattle.std.proofs.Common.{bit_or}
use Rattle.mask.specs.Sets.{union}
use Rattle.mask.proofs.Turns.{turn_first, turn_next, turn_last}
use Rattle.mask.proofs.unite.Goals as goal

pub loop-i-init : goal.loop-i-init
loop-i-init c = turn_first bit_or _ _

pub loop-i-preserved : goal.loop-i-preserved
loop-i-preserved c = turn_next bit_or c.loop-i.invariant c.loop-i-test.true c.byte_at.ensures.0

pub returns : goal.returns
unfolding union
returns c = turn_last bit_or c.loop-i.invariant c.loop-i-test.false
