-- `observestep::widen_by_change` meets its contract: the part that was lent, put back.
use mathlib.Core.Path.{refl}
use Rattle.observestep.proofs.Sets.{widened_back}
use Rattle.observestep.proofs.widen_by_change.Goals as goal

pub returns : goal.returns
returns c = widened_back _ _ _ _ _ refl c.unite_difference.ensures
