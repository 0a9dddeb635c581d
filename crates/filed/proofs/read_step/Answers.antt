-- `read_step` meets its contract: a step is filed as an order has it, with the mark of its move byte taken off.
use native.Mathlib.Omega.{arith}
use Rattle.filed.proofs.Mark.{step_mark_off}
use Rattle.filed.proofs.read_step.Goals as goal

pub returns : goal.returns
returns c = step_mark_off _ _ _ c.read-step.ensures (omega (arith, c.read-step.type_inv))
