-- `starts::execute_plan` meets its contract: rows 19 and 20, by what the plan and the goal came to.
use Rattle.std.proofs.Common.{refl, arith}
use Rattle.format.specs.Order.{steps_at}
use Rattle.starts.proofs.Out.{out_stop, out_miss, out_pass}
use Rattle.starts.proofs.execute_plan.Goals as goal

pub execute-requires : goal.execute-requires
execute-requires c = rw (c.step_count-steps.ensures, c.steps_at.ensures.0) c.requires

pub returns-in-Some : goal.returns-in-Some
returns-in-Some c = rw c.at.ensures (out_stop _ _ _ _ _ _ _ _ c.step_count-steps.ensures c.steps_at.ensures.0 c.in-Some.ensures.executed c.in-Some.ensures.counted)

pub missed-requires : goal.missed-requires
unfolding steps_at
missed-requires c = rw (c.goal_at.ensures.0, c.goal_count-entries.ensures) (omega (arith, c.requires.end), omega (arith, c.requires.within))

pub returns-in-Some-missed : goal.returns-in-Some-missed
returns-in-Some-missed c = rw c.at-in-Some-missed.ensures
    (out_miss _ _ _ _ _ _ _ _ c.step_count-steps.ensures c.steps_at.ensures.0 c.in_default.ensures.executed refl _ _ _ c.goal_count-entries.ensures c.goal_at.ensures.0 c.in-Some-missed.ensures.first
    c.in-Some-missed.ensures.counted)

pub returns : goal.returns
returns c =
    out_pass _ _ _ _ _ _ _ _ c.step_count-steps.ensures c.steps_at.ensures.0 c.in_default.ensures.executed refl _ _ _ c.goal_count-entries.ensures c.goal_at.ensures.0 c.in_default-missed.ensures.first
    refl
