-- `changeover::changeover_to_short` meets its contract: the job's answer, packed, and the lent output as the job left it.
use Rattle.changeover.proofs.Bounds.{convert_fits}
use Rattle.changeover.proofs.Laws.{says_by}
use Rattle.changeover.proofs.changeover_to_short.Goals as goal

pub pack-requires : goal.pack-requires
pack-requires c = rw c.convert.ensures.says ((convert_fits _ _ _).0, (convert_fits _ _ _).2)

pub returns : goal.returns
returns c = let a = c.convert.ensures in
    record { answer = says_by _ _ _ _ a.says (convert_fits _ _ _) c.pack.ensures; out = a.bytes }
