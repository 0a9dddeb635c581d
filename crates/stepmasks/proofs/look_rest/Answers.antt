-- `stepmasks::look_rest` meets its contract: a loop of facts that are looked over and `MarkedTo` a cursor.
use mathlib.Core.Path.{◌∙◌}
use native.Mathlib.Omega.{arith}
use Rattle.states.proofs.Looking.{looked_next, looked_bad, looked_all}
use Rattle.stepmasks.specs.Marks.{plain}
use Rattle.stepmasks.proofs.Facts.{marked_none, marked_next, marked_all}
use Rattle.stepmasks.proofs.Looks.{plain_next, item_ahead, comes_plain}
use Rattle.stepmasks.proofs.look_rest.Goals as goal

pub bad-requires : goal.bad-requires
bad-requires c = let i = c.loop-c.invariant in
    item_ahead _ _ i.1 i.0.ahead (omega arith) i.2

pub returns-then-bad : goal.returns-then-bad
returns-then-bad c = let i = c.loop-c.invariant in
    rw c.at.ensures record {
      answers = λ end n from looked. looked_bad _ _ _ end n from _ (i.3 end n from looked) (omega arith) _ c.bad.ensures c.if-bad.true;
      marked = tt;
    }

pub fact-requires : goal.fact-requires
fact-requires c = let i = c.loop-c.invariant in
    item_ahead _ _ i.1 i.0.ahead (omega arith) i.2

pub next-c-requires : goal.next-c-requires
next-c-requires c = let i = c.loop-c.invariant in
    (item_ahead _ _ i.1 i.0.ahead (omega arith) i.2, omega arith)

pub loop-c-preserved : goal.loop-c-preserved
loop-c-preserved c = let m = c.mark in
    let e = c.next-c.ensures in
    let i = c.loop-c.invariant in (
      marked_next _ _ _ i.0 _ _ _ _ _ (comes_plain _ _ i.1 i.0.ahead (omega arith) _ c.fact.ensures) c.atom-x.ensures
          (m.ensures, plain_next _ _ i.1 _ e) m.auto.m c.is_none-changed.ensures,
      e.3 ∙ i.1,
      e.4,
      λ end n from looked.
          looked_next _ _ _ end n from _ (i.3 end n from looked) (omega arith) _ c.bad.ensures c.if-bad.false _ e,
    )

pub returns : goal.returns
unfolding plain
returns c = let i = c.loop-c.invariant in
    record {
      answers = λ end n from looked. looked_all _ _ _ end n from _ (i.3 end n from looked) (omega arith);
      marked = marked_all _ _ _ i.0 (omega arith);
    }
