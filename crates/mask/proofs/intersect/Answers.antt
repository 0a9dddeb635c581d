-- `mask::intersect` meets its contract: a loop of `Turn`s of `&`.
use Rattle.std.proofs.Common.{bit_and}
use Rattle.mask.specs.Sets.{intersection}
use Rattle.mask.proofs.Turns.{turn_first, turn_next, turn_last}
use Rattle.mask.proofs.intersect.Goals as goal

pub loop-i-init : goal.loop-i-init
loop-i-init c = turn_first bit_and _ _

pub loop-i-preserved : goal.loop-i-preserved
loop-i-preserved c = turn_next bit_and c.loop-i.invariant c.loop-i-test.true c.byte_at.ensures.0

pub returns : goal.returns
unfolding intersection
returns c = turn_last bit_and c.loop-i.invariant c.loop-i-test.false
