-- `factgroups::placement_of` meets its contract, by the number of places.
use native.Mathlib.Omega.{arith}
use Rattle.factgroups.proofs.Groups.{placement_none, placement_some, table_one, table_two}
use Rattle.factgroups.proofs.placement_of.Goals as goal

pub returns-then-places-gt1 : goal.returns-then-places-gt1
returns-then-places-gt1 c = let p = c.requires in
    placement_some _ _ _ p.1 p.0 _ 0 c.groups_from.ensures (omega arith) (table_two _ c.if-places-gt1.true) (omega arith)

pub returns-then-places-gt0 : goal.returns-then-places-gt0
returns-then-places-gt0 c = let p = c.requires in
    placement_some _ _ _ p.1 p.0 _ 16 c.groups_from-then-places-gt0.ensures c.if-places-gt0.true (table_one _ (omega arith)) (omega arith)

pub returns : goal.returns
returns c = let p = c.requires in placement_none _ _ _ p.1 p.0 (omega arith)
