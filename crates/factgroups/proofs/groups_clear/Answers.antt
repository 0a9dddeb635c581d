-- `factgroups::groups_clear` meets its contract: the four groups together have none of the columns.
use borrow.Author.Tests.{eqb-true}
use Rattle.factgroups.proofs.Needs.{groups_clear_by}
use Rattle.factgroups.proofs.groups_clear.Goals as goal

pub returns : goal.returns
returns c ys small right none = groups_clear_by _ _ ys small _ _ _ _ _ c.group_word.ensures c.group_word-2.ensures c.group_word-3.ensures c.group_word-4.ensures
    (c.columns.ensures ys small right) (eqb-true _ 0 none)
