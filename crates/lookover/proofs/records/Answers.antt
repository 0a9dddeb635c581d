-- `lookover::records` meets its contract: the records that are left answer as all of them do.
use Prim.Native.Nat.{◌+◌, ◌-◌}
use mathlib.Core.Path.{◌≡◌, sym, ◌∙◌}
use native.Mathlib.Omega.{arith}
use Rattle.std.proofs.lemmas.Result.{err_from_is_err_and}
use Rattle.answer.proofs.Turns.{turn_none}
use Rattle.answer.proofs.Results.{turn_err, turn_ok}
use Rattle.format.proofs.Records.{record_within}
use Rattle.records.proofs.Laws.{all_refused, all_ended, total_none, total_more}
use Rattle.lookover.proofs.records.Goals as goal

pub loop-init : goal.loop-init
loop-init c = let p = c.requires in
    let all : c.args.n - 0 ≡ c.args.n = omega arith in
    (p.2, omega arith, rw all, rw all (omega arith))

pub returns-in_err-next : goal.returns-in_err-next
returns-in_err-next c = let p = err_from_is_err_and c.from_residual.result c.from_residual.ensures.1 in
    rw (p.1, p.2) (all_refused _ _ _ _ _ _ _ (turn_err _ _ _ _ c.loop.invariant.2 (omega arith) _ c.record_from.ensures _ c.in_err-next.was))

pub loop-preserved : goal.loop-preserved
loop-preserved c = let p = c.requires in
    let i = c.loop.invariant in
    let own = c.record_from.ensures in
    let w = record_within _ _ _ _ _ (sym c.in_ok-next.ensures) in
    let left : c.args.n - (c.loop.counter + 1) ≡ c.args.n - c.loop.counter - 1 = omega arith in (
      omega (arith, p.1, w.1),
      omega arith,
      rw left (turn_ok _ _ _ _ i.2 (omega arith) _ own _ c.in_ok-next.was),
      rw left (total_more _ _ _ _ _ _ _ i.3 (omega arith) c.read.ensures w.0),
    )

pub returns : goal.returns
returns c = let i = c.loop.invariant in
    c.book_end.ensures ∙ all_ended _ _ _ _ _ _ _ (turn_none _ _ _ _ i.2 (omega arith)) (total_none _ _ _ _ _ i.3 (omega arith))
