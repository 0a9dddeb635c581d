-- `changeover::changeover_look_over` meets its contract: the job's answer, packed.
use Rattle.changeover.proofs.Bounds.{look_over_fits}
use Rattle.changeover.proofs.Laws.{says_by}
use Rattle.changeover.proofs.changeover_look_over.Goals as goal

pub pack-requires : goal.pack-requires
pack-requires c = rw c.look_over.ensures ((look_over_fits _ _).0, (look_over_fits _ _).2)

pub returns : goal.returns
returns c = rw (← c.is_short.ensures) (says_by _ _ _ _ c.look_over.ensures (look_over_fits _ _) c.pack.ensures)
