-- `from_start` meets its contract: the starts, then what follows them, by tables of the order's own objects.
use Rattle.std.proofs.Common.{sym, ◌∙◌, arith}
use Rattle.std.proofs.lemmas.Result.{err_from_is_err_and}
use Rattle.answer.proofs.Laws.{bind_good, bind_refused}
use Rattle.tables.specs.Tables.{ForRightByKind, ForRightByPlace, RightForSome, RightFrom}
use Rattle.format.specs.Order.{steps_at, from_start}
use Rattle.orders.proofs.Tests.{objects_fit, own_kinds}
use Rattle.orders.proofs.from_start.Goals as goal

pub kinds_of-kinds-requires : goal.kinds_of-kinds-requires
kinds_of-kinds-requires c = objects_fit _ _ c.objects_of.ensures c.requires.0

pub starts_form-requires : goal.starts_form-requires
unfolding RightForSome RightFrom steps_at
starts_form-requires c = let p = c.requires.1 in
    let right = own_kinds _ _ _ _ c.objects_of.ensures c.kinds_of-kinds.ensures in
    (omega arith, (_, _, c.table_of-table.ensures _ right))

pub returns-in_err-starts_form : goal.returns-in_err-starts_form
unfolding ForRightByPlace RightFrom from_start
returns-in_err-starts_form c = let right = own_kinds _ _ _ _ c.objects_of.ensures c.kinds_of-kinds.ensures in
    let p = err_from_is_err_and c.from_residual.result c.from_residual.ensures.1 in
    rw (p.1, p.2) (sym (bind_refused _ _ _ _ (sym (c.in_err-starts_form.ensures _ _ (c.table_of-table.ensures _ right)))))

pub returns : goal.returns
unfolding ForRightByKind ForRightByPlace RightFrom from_start
returns c = let right = own_kinds _ _ _ _ c.objects_of.ensures c.kinds_of-kinds.ensures in
    c.from_goal.ensures _ right ∙ sym (bind_good _ _ _ (sym (c.in_ok-starts_form.ensures _ _ (c.table_of-table.ensures _ right))))
