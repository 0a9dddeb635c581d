-- `mask::flip_bit` meets its contract: past the end nothing is in and `set` changes nothing, and within the shift is 2 ^ (n mod 8).
use mathlib.Core.Path.{refl, sym}
use native.Mathlib.Omega.{arith}
use lib.Seq.{set_out}
use Rattle.mask.specs.Bits.{bit_of, test_bit, flip_bit}
use Rattle.mask.proofs.Bytes.{test_past}
use Rattle.mask.proofs.Turns.{shl_bit}
use Rattle.mask.proofs.flip_bit.Goals as goal

pub returns-then-m-k : goal.returns-then-m-k
unfolding flip_bit
returns-then-m-k c = (sym (test_past _ _ (omega arith)), sym (set_out _ _ _ c.if-m-k.true))

pub returns : goal.returns
unfolding test_bit bit_of flip_bit
returns c = (refl, rw shl_bit)
