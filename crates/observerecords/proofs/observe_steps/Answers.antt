-- `observerecords::observe_steps` meets its contract: the steps that are left answer as all do, and observed after those before come to the whole.
use Prim.Native.Nat.{◌-◌, ◌<◌}
use mathlib.Core.Path.{◌≡◌, refl, sym, ◌∙◌}
use mathlib.Core.Bool.{true}
use native.Mathlib.Omega.{arith}
use Rattle.std.proofs.lemmas.Result.{err_from_is_err_and}
use Rattle.answer.specs.Answer.{is_refused}
use Rattle.mask.specs.Sets.{empty}
use Rattle.mask.proofs.Laws.{length_empty}
use Rattle.mask.proofs.Flips.{cardinality_empty}
use Rattle.format.specs.Lists.{list_end}
use Rattle.records.proofs.Going.{first_turnable, going_refused, going_listed, going_stops, going_none}
use Rattle.observerecords.proofs.Steps.{observing_first, observing_ready, observing_on, observing_done}
use Rattle.observerecords.proofs.Record.{refused_observes}
use Rattle.observerecords.proofs.observe_steps.Goals as goal

pub carry-held-requires : goal.carry-held-requires
carry-held-requires c = let p = c.requires in
    let e : c.empty-state.result ≡ empty 512 = c.empty-state.ensures in
    (rw e (length_empty _), λ short. (first_turnable _ _ _ _ p.observable.0.readable _ _ p.first_state.0 p.first_state.2, rw e (sym (cardinality_empty _))))

pub loop-init : goal.loop-init
loop-init c = let p = c.requires in
    let k = c.carry-held.ensures in
    (observing_first _ _ _ _ p.observable.0.readable _ _ p.first_state.0 p.first_state.2 _ _ _ c.empty-state.ensures k.0 k.1 _ _ p.observable.1 _ (omega arith), c.no_digits-t.ensures)

pub observe_step-requires : goal.observe_step-requires
observe_step-requires c = let p = c.requires.observable in
    let i = c.loop.invariant in
    (p.0, observing_ready _ _ _ _ p.0.readable _ _ _ _ _ _ _ _ _ _ i.0, i.0.going.near, i.1)

pub returns-in_err-r : goal.returns-in_err-r
returns-in_err-r c = let q = c.requires.observable in
    let some : 0 < c.args.c.steps - c.loop.counter = omega arith in
    let p = err_from_is_err_and c.from_residual.result c.from_residual.ensures.1 in
    rw (p.1, p.2)
    (refused_observes _ _ _ _ _ (going_refused _ _ _ _ q.0.readable _ _ _ _ _ _ _ _ c.loop.invariant.0.going some _ c.in_err-r.ensures.answer_value _ _ refl))

pub step_after-requires : goal.step_after-requires
step_after-requires c = let p = c.requires.observable in
    let some : 0 < c.args.c.steps - c.loop.counter = omega arith in
    going_listed _ _ _ _ p.0.readable _ _ _ _ _ _ _ _ c.loop.invariant.0.going some _ c.in_ok-r.ensures.answer_value _ refl

pub returns-in_err-step_after : goal.returns-in_err-step_after
unfolding is_refused
returns-in_err-step_after c = let q = c.requires.observable in
    let i = c.loop.invariant.0 in
    let some : 0 < c.args.c.steps - c.loop.counter = omega arith in
    let done = c.in_ok-r.ensures.good.1 (observing_ready _ _ _ _ q.0.readable _ _ _ _ _ _ _ _ _ _ i) in
    let p = err_from_is_err_and c.from_residual-in_err-step_after.result c.from_residual-in_err-step_after.ensures.1 in
    rw (p.1, p.2)
    (refused_observes _ _ _ _ _
    (going_stops _ _ _ _ q.0.readable _ _ _ _ _ _ _ _ i.going some _ c.in_ok-r.ensures.answer_value _ refl _ _ done.carried _ c.in_err-step_after.ensures true refl refl))

pub notice-found-requires : goal.notice-found-requires
unfolding list_end
notice-found-requires c = let p = c.requires.observable in
    let some : 0 < c.args.c.steps - c.loop.counter = omega arith in
    let w = (going_listed _ _ _ _ p.0.readable _ _ _ _ _ _ _ _ c.loop.invariant.0.going some _ c.in_ok-r.ensures.answer_value _ refl).behind in
    omega arith

pub loop-preserved : goal.loop-preserved
loop-preserved c = let p = c.requires.observable in
    let i = c.loop.invariant.0 in
    let some : 0 < c.args.c.steps - c.loop.counter = omega arith in
    let w = c.in_ok-r.ensures.good in
    let done = w.1 (observing_ready _ _ _ _ p.0.readable _ _ _ _ _ _ _ _ _ _ i) in (
      observing_on _ _ _ _ p.0.readable _ _ _ _ _ _ _ _ _ _ i p.0 some _ c.in_ok-r.ensures.answer_value _ _ _ done _ c.in_ok-step_after.ensures
          (c.observe_step.auto.state ∙ i.going.long) _ c.notice-found.ensures _ (omega arith),
      w.0,
    )

pub returns : goal.returns
returns c = let p = c.requires.observable in
    let i = c.loop.invariant.0 in
    record {
      says = going_none _ _ _ _ p.0.readable _ _ _ _ _ _ _ _ i.going (omega arith);
      observes = (observing_done _ _ _ _ p.0.readable _ _ _ _ _ _ _ _ _ _ i (omega arith), i.begun);
    }
