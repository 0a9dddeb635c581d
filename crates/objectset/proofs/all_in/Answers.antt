-- `all_in` meets its contract: the objects so far are each in its set, and those to come.
use native.Mathlib.Omega.{arith}
use mathlib.Core.Path.{refl}
use Rattle.objectset.proofs.Laws.{Asking, asking_next, asking_last}
use Rattle.objectset.proofs.all_in.Goals as goal

pub loop-a-init : goal.loop-a-init
unfolding Asking
loop-a-init g c = refl

pub loop-a-preserved : goal.loop-a-preserved
loop-a-preserved g c = asking_next _ _ _ _ _ (omega arith) c.loop-a.invariant

pub returns : goal.returns
returns g c = asking_last _ _ _ _ (omega arith) c.loop-a.invariant
