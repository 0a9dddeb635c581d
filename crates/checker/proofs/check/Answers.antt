-- `checker::check` meets its contract: rows 1 to 12, row 13, then the order.
use Rattle.std.proofs.Common.{refl}
use Rattle.std.proofs.lemmas.Result.{err_from_is_err_and}
use Rattle.mask.specs.Sets.{empty}
use Rattle.checker.proofs.Rows.{at_book, at_size, ready_by, at_rest}
use Rattle.checker.proofs.check.Goals as goal

pub observe_book-requires : goal.observe_book-requires
unfolding empty
observe_book-requires c = (c.read-h.ensures, refl)

pub returns-in_err-observe_book : goal.returns-in_err-observe_book
returns-in_err-observe_book c = let p = err_from_is_err_and c.from_residual.result c.from_residual.ensures.1 in
    rw (p.1, p.2) (at_book _ _ _ _ _ c.in_err-observe_book.field-0.0 c.in_err-observe_book.ensures)

pub returns-then-end-ne-END_SHEET_SIZE : goal.returns-then-end-ne-END_SHEET_SIZE
returns-then-end-ne-END_SHEET_SIZE c = rw c.at.ensures (at_size _ _ _ _ _ _ c.in_ok-observe_book.ensures c.if-end-ne-END_SHEET_SIZE.true)

pub check_order-requires : goal.check_order-requires
check_order-requires c = ready_by _ _ _ c.args.o.now _ _ c.in_ok-observe_book.ensures c.if-end-ne-END_SHEET_SIZE.false _ c.read-h.ensures c.observe_book.auto.observed

pub returns : goal.returns
returns c = at_rest _ _ _ _ _ _ c.in_ok-observe_book.ensures c.if-end-ne-END_SHEET_SIZE.false _ _ c.check_order.ensures
