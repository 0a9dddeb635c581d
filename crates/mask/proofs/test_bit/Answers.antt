-- `mask::test_bit` meets its contract: the shift and the remainder are those of `bit_of`.
use Rattle.mask.specs.Bits.{bit_of, test_bit}
use Rattle.mask.proofs.test_bit.Goals as goal

pub returns : goal.returns
unfolding test_bit bit_of
returns c = rw c.byte_at.ensures.0
