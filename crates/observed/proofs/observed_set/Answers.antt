-- `observed::observed_set` meets its contract: a copy of the part where the set stands.
use Rattle.observed.proofs.Sets.{observed_set_by}
use Rattle.observed.proofs.observed_set.Goals as goal

pub returns : goal.returns
returns c = observed_set_by _ _ _ _ _ c.set_at-at.ensures.0 c.copy_from_slice.ensures.after
