-- `factgroups::column_table` meets its contract: each entry unites those of fewer parameters.
use Rattle.factgroups.proofs.Groups.{tables_by}
use Rattle.factgroups.proofs.column_table.Goals as goal

pub column-a-requires : goal.column-a-requires
column-a-requires c = c.requires 0

pub column-b-requires : goal.column-b-requires
column-b-requires c = c.requires 1

pub column-c-requires : goal.column-c-requires
column-c-requires c = c.requires 2

pub column-d-requires : goal.column-d-requires
column-d-requires c = c.requires 3

pub returns : goal.returns
returns c = tables_by _ c.requires _ _ _ _ c.column-a.ensures c.column-b.ensures c.column-c.ensures c.column-d.ensures
