-- `closed` meets its contract where no bytes are left.
use Rattle.records.proofs.Laws.{closed_good}
use Rattle.records.proofs.closed.Goals as goal

pub returns : goal.returns
returns c = closed_good _ _ _ _ c.in_ok-last.was c.if-last-end.false
