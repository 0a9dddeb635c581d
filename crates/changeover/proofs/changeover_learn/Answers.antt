-- `changeover::changeover_learn` meets its contract: the job's answer, packed, and the sheet as the job left it.
use Rattle.changeover.proofs.Bounds.{learn_fits}
use Rattle.changeover.proofs.Laws.{says_by}
use Rattle.changeover.proofs.changeover_learn.Goals as goal

pub pack-requires : goal.pack-requires
pack-requires c = rw c.learn.ensures.says ((learn_fits _ _ _).0, (learn_fits _ _ _).2)

pub returns : goal.returns
returns c = let a = c.learn.ensures in
    rw (← c.is_short.ensures) (record { answer = says_by _ _ _ _ a.says (learn_fits _ _ _) c.pack.ensures; sheet = a.bytes })
