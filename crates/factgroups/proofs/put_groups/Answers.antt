-- `factgroups::put_groups` meets its contract: four groups, each with four bits of the word.
use Rattle.factgroups.proofs.Effects.{put_groups_by}
use Rattle.factgroups.proofs.put_groups.Goals as goal

pub returns : goal.returns
returns c ys small right = put_groups_by _ _ ys small _ _ _ _ _ (c.columns.ensures ys small right) (c.columns-2.ensures ys small right)
    (c.columns-3.ensures ys small right) (c.columns-4.ensures ys small right) _ _ _ _ _
    c.put_group.ensures c.put_group-2.ensures c.put_group-3.ensures c.put_group-4.ensures
