-- `factgroups::values_alone` meets its contract: the bit of column 0 in each of four groups.
use Rattle.factgroups.proofs.Values.{values_alone_by}
use Rattle.factgroups.proofs.values_alone.Goals as goal

pub returns : goal.returns
returns c = values_alone_by _ _ _ _ _ _ c.group_word.ensures c.group_word-2.ensures c.group_word-3.ensures c.group_word-4.ensures
    _ _ _ _ c.bit_at-a.ensures.0 c.bit_at-b.ensures.0 c.bit_at-c.ensures.0 c.bit_at-d.ensures.0
