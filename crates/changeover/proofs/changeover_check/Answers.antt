-- `changeover::changeover_check` meets its contract: the job's answer with its position, packed, and the end sheet as the job left it.
use Rattle.changeover.proofs.Bounds.{check_fits, check_elsewhere}
use Rattle.changeover.proofs.Laws.{says_at}
use Rattle.changeover.proofs.changeover_check.Goals as goal

pub pack_checked-requires : goal.pack_checked-requires
pack_checked-requires c = rw c.check.ensures.says (check_fits _ _ _ _)

pub returns : goal.returns
returns c = let a = c.check.ensures in
    rw (← c.is_short.ensures) (record { answer = says_at _ _ _ a.says (check_fits _ _ _ _) c.pack_checked.ensures; elsewhere = check_elsewhere _ _ _ _; end = a.bytes })
