-- `observestep::first_sets` meets its contract: three sets, one after the other.
use Rattle.observestep.proofs.Sets.{first_by}
use Rattle.observestep.proofs.first_sets.Goals as goal

pub returns : goal.returns
returns c = first_by _ _ _ _ _ _ _ _ _ c.set_at-before.ensures.0 c.set_at-after.ensures.0 c.set_at-bound.ensures.0
    c.widen.ensures c.widen-2.ensures c.widen-3.ensures
