-- `changeover::changeover_add` meets its contract: the job's answer, packed, and the lent output as the job left it.
use Rattle.changeover.proofs.Bounds.{add_fits}
use Rattle.changeover.proofs.Laws.{says_by}
use Rattle.changeover.proofs.changeover_add.Goals as goal

pub pack-requires : goal.pack-requires
pack-requires c = rw c.add.ensures.says ((add_fits _ _ _ _).0, (add_fits _ _ _ _).2)

pub returns : goal.returns
returns c = let a = c.add.ensures in
    rw (← c.is_short.ensures) (record { answer = says_by _ _ _ _ a.says (add_fits _ _ _ _) c.pack.ensures; out = a.bytes })
