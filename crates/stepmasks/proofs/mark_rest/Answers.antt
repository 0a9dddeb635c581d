-- `stepmasks::mark_rest` meets its contract: a loop of facts `MarkedTo` a cursor.
use native.Mathlib.Omega.{arith}
use Rattle.stepmasks.proofs.Facts.{passed_by, marked_none, marked_next, marked_all}
use Rattle.stepmasks.proofs.mark_rest.Goals as goal

pub loop-c-preserved : goal.loop-c-preserved
loop-c-preserved c =
    marked_next _ _ _ c.loop-c.invariant _ _ _ _ _ c.fact.ensures c.atom-x.ensures c.pass-c.ensures c.pass-c.auto.m c.is_none-changed.ensures

pub returns : goal.returns
returns c = marked_all _ _ _ c.loop-c.invariant (omega arith)
