-- `facts` meets its contract: facts still left at the cursor, and those that are cut behind them, answer as all of them do.
use Prim.Native.Nat.{◌+◌}
use mathlib.Core.Path.{◌≡◌, refl, ◌∙◌}
use native.Mathlib.Omega.{arith}
use Rattle.limits.specs.Limits.{fact_size}
use Rattle.format.specs.Filed.{as_written}
use Rattle.format.proofs.Chains.{chain_same, chain_none, chain_refused, chain_good}
use Rattle.format.proofs.States.{facts_chain}
use Rattle.tables.specs.Tables.{ForRightByPlace}
use Rattle.states.proofs.Cursors.{fact_of_lem, fact_cut, fact_whole}
use Rattle.states.proofs.facts.Goals as goal

pub loop-c-init : goal.loop-c-init
unfolding ForRightByPlace
loop-c-init c = let e = c.new-c.ensures in
    let u = c.uncut-whole.ensures in
    (e.3, e.4, omega arith, omega arith, u.1, λ number sch ob right. chain_same (facts_chain as_written number sch ob _ _) e.0 (omega arith) e.2)

pub returns-then-bad : goal.returns-then-bad
unfolding ForRightByPlace
returns-then-bad c number sch ob right = let l = c.loop-c in
    chain_refused (facts_chain as_written number sch ob _ _) (l.invariant.5 number sch ob right) (omega arith)
    (fact_whole sch ob _ _ _ _ l.invariant.0 (omega arith) (c.bad.ensures sch ob right)) c.if-bad.true

pub loop-c-preserved : goal.loop-c-preserved
unfolding ForRightByPlace
loop-c-preserved c = let l = c.loop-c in
    let e = c.next-c.ensures in
    let p : c.next-c.result.at ≡ l.c.at + fact_size = omega arith in (
      e.3 ∙ l.invariant.0,
      e.4,
      omega arith,
      omega arith,
      l.invariant.4,
      λ number sch ob right.
          chain_same (facts_chain as_written number sch ob _ _) p (omega arith) (e.2 ∙ fact_of_lem sch ob _ _ _ (omega arith))
          ∙ chain_good (facts_chain as_written number sch ob _ _) (l.invariant.5 number sch ob right) (omega arith)
          (fact_whole sch ob _ _ _ _ l.invariant.0 (omega arith) (c.bad.ensures sch ob right)) c.if-bad.false,
    )

pub returns-then-whole-n : goal.returns-then-whole-n
unfolding ForRightByPlace
returns-then-whole-n c number sch ob right = let short = c.uncut-whole.ensures.2 c.if-whole-n.true in
    chain_refused (facts_chain as_written number sch ob _ _) (c.loop-c.invariant.5 number sch ob right) (omega arith) (fact_cut sch ob _ _ _ _ (omega arith)) refl

pub returns : goal.returns
unfolding ForRightByPlace
returns c number sch ob right = chain_none (facts_chain as_written number sch ob _ _) (c.loop-c.invariant.5 number sch ob right) (omega arith)
