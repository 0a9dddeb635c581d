-- `factlist::ListCursor::fact` meets its contract: the fact lies within.
use native.Mathlib.Omega.{arith}
use Rattle.factlist.proofs.Rest.{comes_by}
use Rattle.factlist.proofs.ListCursor.fact.Goals as goal

pub returns : goal.returns
returns c = let p = c.requires in
    comes_by _ _ _ p.0 p.1 c.read.ensures
