-- `stepmasks::mark_turned` meets its contract: a loop of facts that are looked over and turn, with the table of the step.
use mathlib.Core.Path.{sym, ap, ◌∙◌}
use native.Mathlib.Omega.{arith}
use lib.ListN.{length}
use Rattle.states.proofs.Looking.{looked_next, looked_bad, looked_all}
use Rattle.stepmasks.specs.Marks.{plain}
use Rattle.lifting.proofs.Pairs.{digits_long}
use Rattle.stepmasks.proofs.Looks.{plain_next, item_ahead, comes_plain, looking_known, number_known}
use Rattle.stepmasks.proofs.Turning.{turns_none, turns_next, turns_all}
use Rattle.stepmasks.proofs.mark_turned.Goals as goal

pub bad-requires : goal.bad-requires
bad-requires c = let i = c.loop-c.invariant in
    let k = looking_known _ _ _ _ i.1 in
    item_ahead _ _ k.0 i.0.ahead (omega arith) k.1

pub returns-then-bad : goal.returns-then-bad
returns-then-bad c = let i = c.loop-c.invariant in
    rw c.at.ensures record {
      list_looked = λ end reach. looked_bad _ _ _ end _ _ _ (i.1 end reach) (omega arith) _ c.bad.ensures c.if-bad.true;
      good = tt;
    }

pub fact-f-requires : goal.fact-f-requires
fact-f-requires c = let i = c.loop-c.invariant in
    let k = looking_known _ _ _ _ i.1 in
    item_ahead _ _ k.0 i.0.ahead (omega arith) k.1

pub next-c-requires : goal.next-c-requires
next-c-requires c = let i = c.loop-c.invariant in
    let k = looking_known _ _ _ _ i.1 in
    (item_ahead _ _ k.0 i.0.ahead (omega arith) k.1, omega arith)

pub turn-count-requires : goal.turn-count-requires
turn-count-requires c = let i = c.loop-c.invariant in
    let p = c.requires in
    (i.0.long.0 ∙ p.3, number_known _ _ _ _ c.bad.ensures p.5 c.if-bad.false _ c.fact-f.ensures, i.2)

pub loop-c-preserved : goal.loop-c-preserved
loop-c-preserved c = let m = c.turn_mark in
    let e = c.next-c.ensures in
    let i = c.loop-c.invariant in
    let k = looking_known _ _ _ _ i.1 in (
      turns_next _ _ _ i.0 _ _ _ _ _ _ (comes_plain _ _ k.0 i.0.ahead (omega arith) _ c.fact-f.ensures) c.atom-x.ensures c.turn-count.ensures.0 m.ensures
          (plain_next _ _ k.0 _ e) c.turn-count.auto.state m.auto.after c.is_none-unbound.ensures,
      λ end reach. looked_next _ _ _ end _ _ _ (i.1 end reach) (omega arith) _ c.bad.ensures c.if-bad.false _ e,
      c.turn-count.ensures.1,
    )

pub returns : goal.returns
unfolding plain
returns c = let i = c.loop-c.invariant in
    let e = c.listed-c.ensures.facts in
    let w = turns_all _ _ _ i.0 (omega arith) in
    record {
      list_looked = λ end reach. looked_all _ _ _ end _ _ _ (i.1 end reach) (omega arith);
      good = (c.restore.ensures, record { state = rw e at w.0; after = rw e at w.1; unbound = rw e at w.2 }, i.2);
    }
