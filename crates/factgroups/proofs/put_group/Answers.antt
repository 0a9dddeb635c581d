-- `factgroups::put_group` meets its contract: the two bytes of a group are stored.
use Rattle.std.proofs.Common.{◌≡◌, ◌/◌, ◌%◌, arith}
use Rattle.factgroups.proofs.Effects.{put_group_by}
use Rattle.factgroups.proofs.put_group.Goals as goal

pub returns : goal.returns
returns c = let p = c.requires in
    let high : c.changed-bits.result / 256 % 256 ≡ c.changed-bits.result / 256 = omega arith in
    rw (c.to_le_bytes.ensures, high)
    (put_group_by _ _ _ _ _ _ _ c.group-at.ensures.0 c.group-at.ensures.1 p.0 c.word_at.ensures.1 c.word_at.ensures.0 c.changed-bits.ensures)
