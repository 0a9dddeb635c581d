-- `steps` meets its contract: the steps still left answer as all of them do, and the state before them is carried or listed.
use native.Mathlib.Omega.{arith}
use mathlib.Core.Path.{sym}
use Rattle.std.proofs.lemmas.Result.{err_from_is_err_and}
use Rattle.mask.proofs.Laws.{length_empty}
use Rattle.mask.proofs.Flips.{cardinality_empty}
use Rattle.failedsteps.proofs.Going.{first_near, first_turnable, going_first, going_none, next_near, going_step, going_list, going_count, next_turnable, going_refuted, going_on_lem}
use Rattle.failedsteps.proofs.steps.Goals as goal

pub carry-held-requires : goal.carry-held-requires
carry-held-requires c = let p = c.requires in
    let e = c.empty-state.ensures in
    (rw e (length_empty _), λ short. (first_turnable _ _ _ _ _ _ p.0 p.1, rw e (sym (cardinality_empty _))))

pub list_end-at-requires : goal.list_end-at-requires
list_end-at-requires c = let p = c.requires in first_near _ _ _ _ _ _ p.0 p.1

pub loop-init : goal.loop-init
loop-init c = let p = c.requires in
    (p.0, p.1, _, going_first _ _ _ _ _ _ p.0 p.1 _ _ _ _ c.empty-state.ensures c.carry-held.ensures.0 c.carry-held.ensures.1 c.list_end-at.ensures.0)

pub refuted-requires : goal.refuted-requires
refuted-requires c = let i = c.loop.invariant in
    (going_step _ _ _ _ _ _ i.0 i.1 _ _ _ _ _ _ i.3 c.loop-test.true, i.3.long, going_list _ _ _ _ _ _ i.0 i.1 _ _ _ _ _ _ i.3 c.loop-test.true)

pub returns-in_err-refuted : goal.returns-in_err-refuted
returns-in_err-refuted c = let i = c.loop.invariant in
    let p = err_from_is_err_and c.from_residual.result c.from_residual.ensures.1 in
    rw (p.1, p.2) (going_refuted _ _ _ _ _ _ i.0 i.1 _ _ _ _ _ _ i.3 c.loop-test.true c.in_err-refuted.ensures)

pub overflow_add-pre : goal.overflow_add-pre
overflow_add-pre c = let i = c.loop.invariant in
    omega (arith, next_near _ _ _ _ _ _ i.0 i.1 _ _ _ _ _ _ i.3 c.loop-test.true)

pub carry-held-requires-in-loop : goal.carry-held-requires-in-loop
carry-held-requires-in-loop c = let i = c.loop.invariant in
    (i.3.long, λ short. (next_turnable _ _ _ _ _ _ i.0 i.1 _ _ _ _ _ _ i.3 c.loop-test.true, going_count _ _ _ _ _ _ i.0 i.1 _ _ _ _ _ _ i.3 c.loop-test.true short))

pub list_end-at-requires-in-loop : goal.list_end-at-requires-in-loop
list_end-at-requires-in-loop c = let i = c.loop.invariant in
    next_near _ _ _ _ _ _ i.0 i.1 _ _ _ _ _ _ i.3 c.loop-test.true

pub loop-preserved : goal.loop-preserved
loop-preserved c = let i = c.loop.invariant in
    let carry = c.carry-held-in-loop.ensures in
    (i.0, i.1, _, going_on_lem _ _ _ _ _ _ i.0 i.1 _ _ _ _ _ _ i.3 c.loop-test.true c.in_ok-refuted.ensures _ _ _ carry.0 carry.1 c.list_end-at-in-loop.ensures.0)

pub returns : goal.returns
returns c = let i = c.loop.invariant in going_none _ _ _ _ _ _ i.0 i.1 _ _ _ _ _ _ i.3 c.loop-test.false
