-- `factgroups::values_at` meets its contract: no fact holds in the four groups, or four bits of each.
use Rattle.factgroups.proofs.Values.{values_by, values_none}
use Rattle.factgroups.proofs.values_at.Goals as goal

pub returns-then-a-b-eq0 : goal.returns-then-a-b-eq0
returns-then-a-b-eq0 c = values_none _ _ _ c.requires.2 _ _ _ _ c.group_word-a.ensures c.group_word-b.ensures c.group_word-c.ensures c.group_word-d.ensures
    c.if-a-b-eq0.true

pub returns : goal.returns
returns c = values_by _ _ _ c.requires.2 _ _ _ _ c.group_word-a.ensures c.group_word-b.ensures c.group_word-c.ensures c.group_word-d.ensures
    _ _ _ _ c.in_columns.ensures.0 c.in_columns-2.ensures.0 c.in_columns-3.ensures.0 c.in_columns-4.ensures.0
