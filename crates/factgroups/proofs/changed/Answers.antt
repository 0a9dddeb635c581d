-- `factgroups::changed` meets its contract: the value at each column.
use native.Mathlib.Omega.{arith}
use Rattle.factgroups.proofs.Effects.{changed_added, changed_removed}
use Rattle.factgroups.proofs.changed.Goals as goal

pub returns-then-value : goal.returns-then-value
returns-then-value c = rw c.if-value.true (changed_added _ _ (omega arith) (omega arith))

pub returns : goal.returns
returns c = rw c.if-value.false (changed_removed _ _ (omega arith) (omega arith))
