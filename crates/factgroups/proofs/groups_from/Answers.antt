-- `factgroups::groups_from` meets its contract.
use native.Mathlib.Omega.{arith}
use mathlib.Core.Path.{refl}
use Rattle.factgroups.specs.Groups.{groups_from}
use Rattle.factgroups.proofs.groups_from.Goals as goal

pub overflow_add-result : goal.overflow_add-result
overflow_add-result c = let p = c.requires in omega (arith, p.0 0, p.1.within)

pub overflow_add-result-2 : goal.overflow_add-result-2
overflow_add-result-2 c = let p = c.requires in omega (arith, p.0 1, p.1.within)

pub overflow_add-result-3 : goal.overflow_add-result-3
overflow_add-result-3 c = let p = c.requires in omega (arith, p.0 2, p.1.within)

pub overflow_add-result-4 : goal.overflow_add-result-4
overflow_add-result-4 c = let p = c.requires in omega (arith, p.0 3, p.1.within)

pub returns : goal.returns
unfolding groups_from
returns c = refl
