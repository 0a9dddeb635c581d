-- `observed::outside_observed` meets its contract: a difference laid over the empty set.
use native.Mathlib.Omega.{arith}
use Rattle.observed.proofs.Sets.{difference_by}
use Rattle.observed.proofs.outside_observed.Goals as goal

pub returns : goal.returns
returns c = difference_by _ _ _ _ _ (omega arith) c.empty.ensures c.observed_set.ensures c.union_difference.ensures
