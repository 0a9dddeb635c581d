-- `factlist::ListCursor::of_list` meets its contract: the facts to come are those of the list.
use Rattle.factlist.proofs.Rest.{of_list_by}
use native.Mathlib.Omega.{arith}
use Rattle.factlist.proofs.ListCursor.of_list.Goals as goal

pub returns : goal.returns
returns c = let p = c.requires in
    of_list_by _ _ _ c.two_at.ensures (omega arith) p.0 p.1
