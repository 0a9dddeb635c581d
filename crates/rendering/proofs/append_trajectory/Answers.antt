-- `append_trajectory` meets its contract: the first state from no facts, then the steps.
use native.Mathlib.Omega.{arith}
use Rattle.std.proofs.lemmas.Result.{err_from_is_err_and}
use Rattle.format.specs.Lists.{list_end}
use Rattle.rendering.proofs.Held.{held_none, holds_none}
use Rattle.rendering.proofs.Records.{first_good, first_holds, trajectory_over, trajectory_all}
use Rattle.rendering.proofs.append_trajectory.Goals as goal

pub append_state-requires : goal.append_state-requires
append_state-requires c = let p = c.requires in
    let none = held_none _ _ p.0 c.write_two.ensures in
    (holds_none _ (omega arith) none, first_good _ _ _ _ p.1 _ none)

pub returns-in_err-append_state : goal.returns-in_err-append_state
returns-in_err-append_state c = let p = c.requires in
    let none = held_none _ _ p.0 c.write_two.ensures in
    let e = err_from_is_err_and c.from_residual.result c.from_residual.ensures.1 in
    rw e.1 (trajectory_over _ _ _ _ p.1 _ none _ c.in_err-append_state.ensures)

pub list_end-requires : goal.list_end-requires
unfolding list_end
list_end-requires c = omega (arith, c.requires.1.list)

pub append_steps-requires : goal.append_steps-requires
append_steps-requires c = let p = c.requires in
    let none = held_none _ _ p.0 c.write_two.ensures in
    let (holds, is) = first_holds _ _ _ _ p.1 _ none _ _ _ c.in_ok-append_state.ensures in
    (holds, rw (is, c.list_end.ensures.0) p.1.steps)

pub returns : goal.returns
returns c = let p = c.requires in
    let none = held_none _ _ p.0 c.write_two.ensures in
    trajectory_all _ _ _ _ p.1 _ none _ _ _ c.in_ok-append_state.ensures _ c.list_end.ensures.0 _ _ c.append_steps.ensures
