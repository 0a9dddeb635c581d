-- `factgroups::needs_unmet` meets its contract: the needs to hold alone where no fact holds, or the four groups.
use native.Mathlib.Omega.{arith}
use Rattle.factgroups.proofs.Needs.{groups_unmet_by, clear_unmet}
use Rattle.factgroups.proofs.needs_unmet.Goals as goal

pub returns-then-groups_clear : goal.returns-then-groups_clear
returns-then-groups_clear c ys small right = clear_unmet _ _ _ _ (omega arith) (c.groups_clear.ensures ys small right c.if-groups_clear.true)

pub returns : goal.returns
returns c ys small right = rw (c.group_unmet.ensures ys small right, c.group_unmet-2.ensures ys small right, c.group_unmet-3.ensures ys small right, c.group_unmet-4.ensures ys small right)
    (groups_unmet_by _ _ ys small _ _)
