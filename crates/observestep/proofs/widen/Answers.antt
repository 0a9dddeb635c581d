-- `observestep::widen` meets its contract: the part that was lent, put back.
use Rattle.observestep.proofs.Sets.{widened_back}
use Rattle.observestep.proofs.widen.Goals as goal

pub returns : goal.returns
returns c = widened_back _ _ _ _ _ c.requires.0 c.unite.ensures
