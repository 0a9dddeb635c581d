-- `steps` meets its contract: the steps still left answer as all of them do, and the state before them is carried.
use Prim.Native.Nat.{◌+◌, ◌-◌}
use native.Mathlib.Omega.{arith}
use mathlib.Core.Path.{◌≡◌, refl, sym}
use Rattle.std.proofs.lemmas.Result.{err_from_is_err_and}
use Rattle.answer.specs.Answer.{is_refused}
use Rattle.format.specs.Lists.{list_at}
use Rattle.mask.proofs.Laws.{length_empty}
use Rattle.mask.proofs.Flips.{cardinality_empty}
use Rattle.records.proofs.Parts.{after_good}
use Rattle.records.proofs.Going.{first_turnable, going_first, going_count, going_refused, going_turnable, going_listed, going_stops, going_on_lem, going_none}
use Rattle.records.proofs.steps.Goals as goal

pub carry-count-requires : goal.carry-count-requires
carry-count-requires c = let p = c.requires in
    let e = c.empty-state.ensures in
    (rw e (length_empty _), λ short. (first_turnable _ _ _ _ p.0 _ _ p.1 p.3, rw e (sym (cardinality_empty _))))

pub loop-init : goal.loop-init
loop-init c = let p = c.requires in
    let k = c.carry-count.ensures in
    let all : c.args.c.steps - 0 ≡ c.args.c.steps = omega arith in
    (list_at c.args.book.now c.args.first, rw all (going_first _ _ _ _ p.0 _ _ p.1 p.3 _ _ _ c.empty-state.ensures k.0 k.1))

pub returns-in_err-next : goal.returns-in_err-next
returns-in_err-next c = let p = err_from_is_err_and c.from_residual.result c.from_residual.ensures.1 in
    rw (p.1, p.2) (going_refused _ _ _ _ c.requires.0 _ _ _ _ _ _ _ _ c.loop.invariant.1 (omega arith) _ c.in_err-next.ensures _ _ refl)

pub carry-count-requires-in-loop : goal.carry-count-requires-in-loop
carry-count-requires-in-loop c = let p = c.requires in (
  c.loop.invariant.1.long,
  λ short.
      (going_turnable _ _ _ _ p.0 _ _ _ _ _ _ _ _ c.loop.invariant.1 (omega arith) _ c.in_ok-next.ensures _ refl, going_count _ _ _ _ p.0 _ _ _ _ _ _ _ _ c.loop.invariant.1 short),
)

pub step_after-requires : goal.step_after-requires
step_after-requires c = going_listed _ _ _ _ c.requires.0 _ _ _ _ _ _ _ _ c.loop.invariant.1 (omega arith) _ c.in_ok-next.ensures _ refl

pub returns-in_err-at : goal.returns-in_err-at
unfolding is_refused
returns-in_err-at c = let p = err_from_is_err_and c.from_residual-in_err-at.result c.from_residual-in_err-at.ensures.1 in
    rw (p.1, p.2)
    (going_stops _ _ _ _ c.requires.0 _ _ _ _ _ _ _ _ c.loop.invariant.1 (omega arith) _ c.in_ok-next.ensures _ refl _ _ c.carry-count-in-loop.ensures.1 _ c.in_err-at.ensures _ refl refl)

pub loop-preserved : goal.loop-preserved
unfolding is_refused
loop-preserved c = let m = c.carry-count-in-loop.ensures in
    let good = (after_good _ _ _ _ _ _ c.in_ok-at.ensures refl refl).1 in
    let next : c.in_ok-at.at ≡ c.in_ok-next.next = cc in
    let left : c.args.c.steps - (c.loop.counter + 1) ≡ c.args.c.steps - c.loop.counter - 1 = omega arith in (
      _,
      rw (← left, ← next) at
          (going_on_lem _ _ _ _ c.requires.0 _ _ _ _ _ _ _ _ c.loop.invariant.1 (omega arith) _ c.in_ok-next.ensures _ refl _ _ m.1 _ c.in_ok-at.ensures _ refl m.0 refl),
    )

pub returns : goal.returns
returns c = going_none _ _ _ _ c.requires.0 _ _ _ _ _ _ _ _ c.loop.invariant.1 (omega arith)
