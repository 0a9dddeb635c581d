-- `met_in` meets its contract: the bound facts of the move that hold in the state, and the preconditions asked of them.
use mathlib.Core.Path.{ap}
use native.Mathlib.Omega.{arith}
use Rattle.terms.specs.declared.Step.{Step}
use Rattle.failedsteps.proofs.State.{asked_move, asked_bounded, asked_ended}
use Rattle.failedsteps.proofs.met_in.Goals as goal

pub observed_set-bound-requires : goal.observed_set-bound-requires
observed_set-bound-requires c = let p = c.requires.0 in
    let e = ap (λ (step : Step). step.action.0) c.read_step-step.ensures in
    let move = asked_move _ _ _ _ p in
    (p.book.begun.sized, rw e move.0, rw e move.1)

pub mark_held-requires : goal.mark_held-requires
mark_held-requires c = let p = c.requires in
    let e = c.read_step-step.ensures in
    let o = c.observed_set-bound.ensures in
    (rw e (asked_bounded _ _ _ _ p.0), omega arith, p.1, c.empty-held.ensures, rw (o, e) (asked_ended _ _ _ _ p.0))

pub needs_met-requires : goal.needs_met-requires
needs_met-requires c = let p = c.requires.0 in
    let e = ap (λ (c : Step). c.action.0) c.read_step-step.ensures in
    let move = asked_move _ _ _ _ p in
    (p.book.begun.sized, rw e move.0, rw e move.1)
