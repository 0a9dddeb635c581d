-- `goal` meets its contract: the entries still left at the cursor answer as all of them do.
use Prim.Native.Nat.{◌+◌}
use mathlib.Core.Path.{◌≡◌, ◌∙◌}
use native.Mathlib.Omega.{arith}
use Rattle.limits.specs.Limits.{entry_size}
use Rattle.format.specs.Order.{steps_at}
use Rattle.tables.specs.Tables.{ForRightByPlace}
use Rattle.format.proofs.Chains.{chain_same, chain_none, chain_refused, chain_good}
use Rattle.format.proofs.Orders.{goal_chain}
use Rattle.states.proofs.Cursors.{fact_of_lem}
use Rattle.orders.proofs.Tests.{entry_bad_by}
use Rattle.orders.proofs.goal.Goals as goal

pub loop-c-init : goal.loop-c-init
unfolding ForRightByPlace steps_at
loop-c-init c = let e = c.new-c.ensures in
    let a = c.goal_at.ensures in
    let n = c.goal_count.ensures in
    (e.3, e.4, omega arith, omega arith, λ sch ob right. chain_same (goal_chain sch ob _) (e.0 ∙ a.0) (e.1 ∙ n) e.2)

pub bad-requires : goal.bad-requires
bad-requires c = let i = c.loop-c.invariant in
    record { whole = omega arith; within = omega arith; near = omega arith; key = i.1 }

pub returns-then-wanted-bad : goal.returns-then-wanted-bad
unfolding ForRightByPlace
returns-then-wanted-bad c sch ob right = let l = c.loop-c in
    rw c.at.ensures
    (chain_refused (goal_chain sch ob _) (l.invariant.4 sch ob right) c.loop-c-test.true
    (entry_bad_by _ _ _ _ _ _ l.invariant.0 c.byte_at-wanted.ensures (c.bad.ensures sch ob right)) c.if-wanted-bad.true)

pub next-c-requires : goal.next-c-requires
next-c-requires c = let i = c.loop-c.invariant in
    (record { whole = omega arith; within = omega arith; near = omega arith; key = i.1 }, omega arith)

pub loop-c-preserved : goal.loop-c-preserved
unfolding ForRightByPlace
loop-c-preserved c = let l = c.loop-c in
    let e = c.next-c.ensures in
    let p : c.next-c.result.at ≡ l.c.at + entry_size = omega arith in (
      e.3 ∙ l.invariant.0,
      e.4,
      omega arith,
      omega arith,
      λ sch ob right.
          chain_same (goal_chain sch ob _) p e.1 (e.2 ∙ fact_of_lem sch ob _ _ _ (omega arith))
          ∙ chain_good (goal_chain sch ob _) (l.invariant.4 sch ob right) c.loop-c-test.true
          (entry_bad_by _ _ _ _ _ _ l.invariant.0 c.byte_at-wanted.ensures (c.bad.ensures sch ob right)) c.if-wanted-bad.false,
    )

pub returns : goal.returns
unfolding ForRightByPlace
returns c sch ob right = chain_none (goal_chain sch ob _) (c.loop-c.invariant.4 sch ob right) (omega arith)
