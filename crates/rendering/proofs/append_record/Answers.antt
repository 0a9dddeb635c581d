-- `append_record` meets its contract: head and objects, the trajectory, and the length renewed.
use native.Mathlib.Omega.{arith}
use Rattle.std.proofs.lemmas.Result.{err_from_is_err_and}
use Rattle.rendering.proofs.Records.{start_near, record_trajectory, record_reach, record_room, record_over, record_over_then, record_renewed}
use Rattle.rendering.proofs.append_record.Goals as goal

pub overflow_add-at : goal.overflow_add-at
overflow_add-at c = omega (arith, start_near _ _ _ c.requires.1)

pub overflow_add-first : goal.overflow_add-first
overflow_add-first c = omega (arith, start_near _ _ _ c.requires.1)

pub overflow_add-first-2 : goal.overflow_add-first-2
overflow_add-first-2 c = omega (arith, start_near _ _ _ c.requires.1)

pub slice_bounds-append-end : goal.slice_bounds-append-end
slice_bounds-append-end c = record_reach _ _ _ c.requires.1 _ _ c.byte_at-objects.ensures c.byte_at-steps.ensures

pub append_trajectory-requires : goal.append_trajectory-requires
append_trajectory-requires c = (c.requires.0, record_trajectory _ _ _ c.requires.1 _ _ c.byte_at-objects.ensures c.byte_at-steps.ensures)

pub returns-in_err-append : goal.returns-in_err-append
returns-in_err-append c = let p = err_from_is_err_and c.from_residual.result c.from_residual.ensures.1 in
    rw p.1 (record_over _ _ _ c.requires.1 _ _ c.byte_at-objects.ensures c.byte_at-steps.ensures _ c.in_err-append.ensures)

pub returns-in_err-append_trajectory : goal.returns-in_err-append_trajectory
returns-in_err-append_trajectory c = let p = err_from_is_err_and c.from_residual-in_err-append_trajectory.result c.from_residual-in_err-append_trajectory.ensures.1 in
    rw p.1 (record_over_then _ _ _ c.requires.1 _ _ c.byte_at-objects.ensures c.byte_at-steps.ensures _ _ c.in_ok-append.ensures c.in_err-append_trajectory.ensures)

pub renew_two-requires : goal.renew_two-requires
renew_two-requires c = omega (arith, record_room _ _ _ c.requires.1 _ _ c.byte_at-objects.ensures c.byte_at-steps.ensures _ _ c.in_ok-append.ensures _ c.in_ok-append_trajectory.ensures)

pub returns : goal.returns
returns c = record_renewed _ _ _ c.requires.1 _ _ c.byte_at-objects.ensures c.byte_at-steps.ensures _ _ c.in_ok-append.ensures _ c.in_ok-append_trajectory.ensures
    _ (rw (c.len-start.ensures.0, c.len-end.ensures.0) at c.renew_two.ensures)
