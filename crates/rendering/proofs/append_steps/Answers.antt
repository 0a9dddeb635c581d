-- `append_steps` meets its contract: a loop of `Stepping` steps.
use native.Mathlib.Omega.{arith}
use mathlib.Core.Path.{◌≡◌}
use Prim.Native.Nat.{◌+◌, ◌-◌}
use Rattle.std.proofs.lemmas.Result.{err_from_is_err_and}
use Rattle.rendering.proofs.Steps.{steps_next, steps_reach, stepping_end, stepping_over, stepping_next}
use Rattle.rendering.proofs.append_steps.Goals as goal

pub append_step-requires : goal.append_step-requires
append_step-requires c = let i = c.loop.invariant in
    (i.holds, (steps_next _ _ _ _ _ (omega arith) i.good).0)

pub returns-in_err-append_step : goal.returns-in_err-append_step
returns-in_err-append_step c = let p = err_from_is_err_and c.from_residual.result c.from_residual.ensures.1 in
    rw p.1 (stepping_over _ _ c.loop.invariant (omega arith) c.in_err-append_step.ensures)

pub list_end-at-requires : goal.list_end-at-requires
list_end-at-requires c = steps_reach _ _ _ _ _ (omega arith) c.loop.invariant.good

pub loop-preserved : goal.loop-preserved
loop-preserved c = let e : c.args.n - (c.loop.counter + 1) ≡ c.args.n - c.loop.counter - 1 = omega arith in
    rw e (stepping_next _ _ c.loop.invariant (omega arith) _ _ c.in_ok-append_step.ensures _ c.list_end-at.ensures.0)

pub returns : goal.returns
returns c = stepping_end _ _ c.loop.invariant (omega arith)
