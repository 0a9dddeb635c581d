-- `mask::unite_difference` meets its contract: a loop of `Turn`s of `|` with the bytes of the difference.
use Rattle.std.proofs.Common.{bit_or}
use Rattle.mask.specs.Sets.{union}
use Rattle.mask.proofs.Turns.{turn_first, turn_next, turn_last, byte_difference}
use Rattle.mask.proofs.unite_difference.Goals as goal

pub loop-i-init : goal.loop-i-init
loop-i-init c = turn_first bit_or _ _

pub loop-i-preserved : goal.loop-i-preserved
loop-i-preserved c = let s = c.args in
    let x = c.byte_at.ensures in
    let y = c.byte_at-in-loop-i.ensures in
    turn_next bit_or c.loop-i.invariant c.loop-i-test.true
    (byte_difference s.a.now s.b.now c.loop-i.i x.0 y.0 x.1 y.1)

pub returns : goal.returns
unfolding union
returns c = turn_last bit_or c.loop-i.invariant c.loop-i-test.false
