-- `lifting::restore` meets its contract: the digits of the parameters taken out of the table, one after the other.
use mathlib.Core.Path.{refl}
use native.Mathlib.Omega.{arith}
use Rattle.lifting.proofs.Pairs.{left_none, left_next, left_all}
use Rattle.lifting.proofs.restore.Goals as goal

pub loop-object-preserved : goal.loop-object-preserved
loop-object-preserved c = left_next _ _ _ c.loop-object-test.true c.loop-object.invariant refl

pub returns : goal.returns
returns c = left_all _ c.loop-object.object-index _ (omega arith) (omega arith) c.loop-object.invariant refl
