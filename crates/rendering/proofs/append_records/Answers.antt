-- `append_records` meets its contract: a loop of `Filing` records.
use native.Mathlib.Omega.{arith}
use mathlib.Core.Path.{◌≡◌}
use Prim.Native.Nat.{◌+◌, ◌-◌}
use Rattle.std.proofs.lemmas.Result.{err_from_is_err_and}
use Rattle.rendering.proofs.Records.{records_next, filing_end, filing_over, filing_next}
use Rattle.rendering.proofs.append_records.Goals as goal

pub append_record-requires : goal.append_record-requires
append_record-requires c = (c.loop.invariant.1, (records_next _ _ _ _ (omega arith) c.loop.invariant.0.good).0)

pub returns-in_err-append_record : goal.returns-in_err-append_record
returns-in_err-append_record c = let p = err_from_is_err_and c.from_residual.result c.from_residual.ensures.1 in
    rw p.1 (filing_over _ _ c.loop.invariant.0 (omega arith) c.in_err-append_record.ensures)

pub loop-preserved : goal.loop-preserved
loop-preserved c = let e : c.args.n - (c.loop.counter + 1) ≡ c.args.n - c.loop.counter - 1 = omega arith in
    (rw e (filing_next _ _ c.loop.invariant.0 (omega arith) _ c.in_ok-append_record.ensures _ c.two_at.ensures), omega arith)

pub returns : goal.returns
returns c = filing_end _ _ c.loop.invariant.0 (omega arith)
