-- `put_object` meets its contract: the object is in the sets of the kinds looked at, and those above are still to come.
use Rattle.std.proofs.Common.{◌≡◌, ◌+◌, ◌-◌, arith}
use Rattle.limits.specs.Limits.{max_kinds}
use Rattle.tables.proofs.Climb.{climb_start, climb_turn, climb_top, climb_end}
use Rattle.tables.proofs.put_object.Goals as goal

pub loop-init : goal.loop-init
loop-init c = (omega arith, climb_start _ _ _ _)

pub returns-then-k-eq0 : goal.returns-then-k-eq0
returns-then-k-eq0 c =
    climb_top _ _ _ _ _ _ _ _ _ c.loop.invariant.1 (omega arith) (omega arith) (omega arith) c.put.ensures c.parent-k.ensures c.if-k-eq0.true

pub loop-preserved : goal.loop-preserved
loop-preserved c = let left : max_kinds - c.loop.counter - 1 ≡ max_kinds - (c.loop.counter + 1) = omega arith in
    let i = c.loop.invariant.1 in
    (omega arith, rw (← left) (climb_turn _ _ _ _ _ _ _ _ _ i (omega arith) (omega arith) (omega arith) c.put.ensures c.parent-k.ensures (omega arith)))

pub returns : goal.returns
returns c = climb_end _ _ _ _ _ _ _ c.loop.invariant.1 (omega arith)
