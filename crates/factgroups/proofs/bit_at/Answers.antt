-- `factgroups::bit_at` meets its contract: the shift leaves the bit lowest.
use native.Mathlib.Omega.{arith}
use Rattle.factgroups.proofs.Values.{digit_bit}
use Rattle.factgroups.proofs.bit_at.Goals as goal

pub returns : goal.returns
returns c = (digit_bit _ _, omega arith)
