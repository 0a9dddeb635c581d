-- `stepmasks::listed` meets its contract: the cursor is at the first fact of the list.
use native.Mathlib.Omega.{arith}
use Rattle.stepmasks.proofs.Looks.{listed_by}
use Rattle.stepmasks.proofs.listed.Goals as goal

pub returns : goal.returns
returns c = let p = c.requires in
    listed_by _ _ _ _ c.two_at.ensures (omega arith) p.0 p.1 c.new.ensures
