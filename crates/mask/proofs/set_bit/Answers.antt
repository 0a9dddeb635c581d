-- `mask::set_bit` meets its contract: within the mask the shift is 2 ^ (n mod 8), and past its end `set` changes nothing.
use mathlib.Core.Path.{sym}
use lib.Seq.{set_out}
use Rattle.mask.specs.Bits.{set_bit}
use Rattle.mask.proofs.Turns.{shl_bit}
use Rattle.mask.proofs.set_bit.Goals as goal

pub returns-then-k-m : goal.returns-then-k-m
unfolding set_bit
returns-then-k-m c = rw shl_bit

pub returns-else-k-m : goal.returns-else-k-m
unfolding set_bit
returns-else-k-m c = sym (set_out _ _ _ c.if-k-m.false)
