-- `walk::records` meets its contract: the records that are left, observed after those before, come to the whole.
use Prim.Native.Nat.{◌+◌, ◌-◌, ◌<◌}
use mathlib.Core.Path.{◌≡◌, refl, sym, ◌∙◌}
use native.Mathlib.Omega.{arith}
use Rattle.std.proofs.lemmas.Result.{err_from_is_err_and}
use Rattle.answer.proofs.Laws.{bind_refused}
use Rattle.answer.proofs.Turns.{turn_none, turn_refused, turn_good}
use Rattle.format.specs.LookOver.{all_records}
use Rattle.format.proofs.Records.{record_within}
use Rattle.records.proofs.Laws.{all_ended, total_none, total_more}
use Rattle.observerecords.specs.Observing.{held_with}
use Rattle.observerecords.proofs.Records.{record_turn, records_done, refused_walked}
use Rattle.observerecords.proofs.walk.records.Goals as goal

pub loop-init : goal.loop-init
unfolding held_with
loop-init c = let p = c.requires.0 in
    let z : c.args.n - 0 ≡ c.args.n = omega arith in
    let none = c.default-noticed.ensures in
    rw z (p.near, omega arith, refl, omega arith, p.begun, rw (none.0, none.1) refl)

pub returns-in_err-w : goal.returns-in_err-w
unfolding all_records
returns-in_err-w c = let some : 0 < c.args.n - c.loop.counter = omega arith in
    let p = err_from_is_err_and c.from_residual.result c.from_residual.ensures.1 in
    rw (p.1, p.2) (refused_walked _ _ _ _ _ _ _ _ (sym (bind_refused _ _ _ _ (sym (turn_refused _ _ _ _ _ _ _ c.loop.invariant.2 some c.in_err-w.ensures.says refl)))))

pub loop-preserved : goal.loop-preserved
loop-preserved c = let p = c.requires.0 in
    let i = c.loop.invariant in
    let seen = c.in_ok-w.ensures in
    let good = sym seen.says in
    let some : 0 < c.args.n - c.loop.counter = omega arith in
    let fewer : c.args.n - (c.loop.counter + 1) ≡ c.args.n - c.loop.counter - 1 = omega arith in
    let w = record_within _ _ _ _ _ good in
    rw fewer (
      omega (arith, p.size, w.1),
      omega (arith, i.1),
      turn_good _ _ _ _ _ _ i.2 some seen.says refl,
      total_more _ _ _ _ _ _ _ i.3 some c.read-head.ensures w.0,
      seen.observes.1,
      record_turn _ _ _ _ _ _ _ _ _ _ _ some good seen.observes.0 i.5,
    )

pub returns-in_err-value : goal.returns-in_err-value
returns-in_err-value c = let i = c.loop.invariant in
    let p = err_from_is_err_and c.from_residual-in_err-value.result c.from_residual-in_err-value.ensures.1 in
    rw (p.1, p.2)
    (refused_walked _ _ _ _ _ _ _ _ (c.in_err-value.ensures ∙ all_ended _ _ _ _ _ _ _ (turn_none _ _ _ _ i.2 (omega arith)) (total_none _ _ _ _ _ i.3 (omega arith))))

pub returns : goal.returns
returns c = let i = c.loop.invariant in
    record {
      says = c.in_ok-value.ensures ∙ all_ended _ _ _ _ _ _ _ (turn_none _ _ _ _ i.2 (omega arith)) (total_none _ _ _ _ _ i.3 (omega arith));
      observes = records_done _ _ _ _ _ _ _ (omega arith) i.5;
    }
