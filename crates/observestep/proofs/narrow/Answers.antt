-- `observestep::narrow` meets its contract: the part that was lent, put back.
use Rattle.observestep.proofs.Sets.{narrowed_back}
use Rattle.observestep.proofs.narrow.Goals as goal

pub returns : goal.returns
returns c = narrowed_back _ _ _ _ _ c.requires.0 c.intersect.ensures
