-- `factgroups::in_columns` meets its contract: one bit for each column.
use native.Mathlib.Omega.{arith}
use Rattle.factgroups.proofs.Values.{in_columns_by}
use Rattle.factgroups.proofs.in_columns.Goals as goal

pub bit_at-requires : goal.bit_at-requires
bit_at-requires c = c.requires 0

pub bit_at-requires-2 : goal.bit_at-requires-2
bit_at-requires-2 c = c.requires 1

pub bit_at-requires-3 : goal.bit_at-requires-3
bit_at-requires-3 c = c.requires 2

pub bit_at-requires-4 : goal.bit_at-requires-4
bit_at-requires-4 c = c.requires 3

pub returns : goal.returns
returns c = (in_columns_by _ _ _ _ _ _ c.bit_at.ensures.0 c.bit_at-2.ensures.0 c.bit_at-3.ensures.0 c.bit_at-4.ensures.0, omega arith)
