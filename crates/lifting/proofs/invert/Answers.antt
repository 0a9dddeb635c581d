-- `lifting::invert` meets its contract: the digits of the parameters from the last on, put into an empty table.
use mathlib.Core.Path.{refl}
use native.Mathlib.Omega.{arith}
use Rattle.lifting.proofs.Pairs.{put_none, put_next, put_all}
use Rattle.lifting.proofs.invert.Goals as goal

pub loop-i-init : goal.loop-i-init
loop-i-init c = put_none c.args.b _ c.requires

pub loop-i-preserved : goal.loop-i-preserved
loop-i-preserved c = put_next _ _ _ c.loop-i-test.true (omega arith) c.loop-i.invariant refl

pub returns : goal.returns
returns c = put_all _ c.loop-i.i _ (omega arith) c.loop-i.invariant refl
