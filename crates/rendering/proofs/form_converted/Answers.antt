-- `form_converted` meets its contract: the bytes before the records, the records, and the end renewed.
use native.Mathlib.Omega.{arith}
use lib.ListN.{length-take}
use Rattle.std.proofs.lemmas.Result.{err_from_is_err_and}
use Rattle.rendering.proofs.Converted.{records_start, records_good, formed_over, formed_over_then, formed_size, formed_good}
use Rattle.rendering.proofs.form_converted.Goals as goal

pub slice_bounds-append-end : goal.slice_bounds-append-end
slice_bounds-append-end c = simp length-take (omega (arith, records_start _ _ c.requires _ c.read-h.ensures))

pub returns-in_err-append : goal.returns-in_err-append
returns-in_err-append c = let p = err_from_is_err_and c.from_residual.result c.from_residual.ensures.1 in
    rw (p.1, p.2) (formed_over _ _ c.requires _ c.read-h.ensures _ c.clear.ensures _ c.in_err-append.ensures)

pub append_records-requires : goal.append_records-requires
append_records-requires c = (omega arith, records_good _ _ c.requires _ c.read-h.ensures)

pub returns-in_err-append_records : goal.returns-in_err-append_records
returns-in_err-append_records c = let p = err_from_is_err_and c.from_residual-in_err-append_records.result c.from_residual-in_err-append_records.ensures.1 in
    rw (p.1, p.2) (formed_over_then _ _ c.requires _ c.read-h.ensures _ c.clear.ensures _ c.in_ok-append.ensures _ c.in_err-append_records.ensures)

pub renew_two-requires : goal.renew_two-requires
renew_two-requires c = omega (arith, records_start _ _ c.requires _ c.read-h.ensures, formed_size _ _ c.requires _ c.read-h.ensures _ c.clear.ensures _ c.in_ok-append.ensures _ c.in_ok-append_records.ensures)

pub returns : goal.returns
returns c = formed_good _ _ c.requires _ c.read-h.ensures _ c.clear.ensures _ c.in_ok-append.ensures _ c.in_ok-append_records.ensures _ c.len-end.ensures.0 c.len-end.ensures.1 _ c.renew_two.ensures
