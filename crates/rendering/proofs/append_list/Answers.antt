-- `append_list` meets its contract: the count is the number of facts that were appended.
use borrow.Author.Rules.{rules}
use native.Mathlib.Omega.{arith}
use Rattle.std.proofs.lemmas.Result.{err_from_is_err_and}
use Rattle.format.specs.Lists.{list_end}
use Rattle.rendering.proofs.Bytes.{part_size}
use Rattle.rendering.proofs.Lists.{list_over, list_over_then, list_counted}
use Rattle.rendering.proofs.append_list.Goals as goal

pub overflow_add-first : goal.overflow_add-first
unfolding list_end
overflow_add-first c = search rules

pub slice_bounds-append-end : goal.slice_bounds-append-end
unfolding list_end
slice_bounds-append-end c = search rules

pub returns-in_err-append : goal.returns-in_err-append
unfolding list_end
returns-in_err-append c = let a = c.args in
    let p = err_from_is_err_and c.from_residual.result c.from_residual.ensures.1 in
    rw p.1 (list_over _ _ _ (part_size a.book.now a.at 2 (omega arith)) c.in_err-append.ensures)

pub returns-in_err-append_turned : goal.returns-in_err-append_turned
unfolding list_end
returns-in_err-append_turned c = let a = c.args in
    let p = err_from_is_err_and c.from_residual-in_err-append_turned.result c.from_residual-in_err-append_turned.ensures.1 in
    rw p.1 (list_over_then _ _ _ (part_size a.book.now a.at 2 (omega arith)) _ c.in_ok-append.ensures c.in_err-append_turned.ensures)

pub returns : goal.returns
unfolding list_end
returns c = let a = c.args in
    let u = part_size a.book.now a.at 2 (omega arith) in
    list_counted _ _ _ _ _ u c.in_ok-append.ensures c.in_ok-append_turned.ensures _ (rw (c.len-start.ensures.0, c.len-from.ensures.0, c.len-end.ensures.0) at c.renew_two.ensures)
