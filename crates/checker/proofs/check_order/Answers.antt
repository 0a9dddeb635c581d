-- `checker::check_order` meets its contract: rows 14 to 18, then the plan by the rules that were written over what was observed.
use Rattle.std.proofs.Common.{refl, arith, length-take}
use Rattle.std.proofs.lemmas.Result.{err_from_is_err_and}
use Rattle.checker.proofs.Rows.{at_order, order_few, order_executable, order_starts, at_run}
use Rattle.checker.proofs.check_order.Goals as goal

pub returns-in_err-order_form : goal.returns-in_err-order_form
returns-in_err-order_form c = let p = err_from_is_err_and c.from_residual.result c.from_residual.ensures.1 in
    rw (p.1, p.2) (at_order _ _ _ _ _ _ c.requires c.in_err-order_form.field-0.0 c.in_err-order_form.ensures)

pub write_over-requires : goal.write_over-requires
write_over-requires c = let ready = c.requires in
    (order_few _ _ _ _ _ _ ready _ c.in_ok-order_form.ensures, ready.room)

pub slice_bounds-run_order-end : goal.slice_bounds-run_order-end
slice_bounds-run_order-end c = let ready = c.requires in
    let few = order_few _ _ _ _ _ _ ready _ c.in_ok-order_form.ensures in
    omega (arith, few, c.write_over.auto.observed, ready.room)

pub slice_bounds-run_order-end-2 : goal.slice_bounds-run_order-end-2
slice_bounds-run_order-end-2 c = let ready = c.requires in
    let few = order_few _ _ _ _ _ _ ready _ c.in_ok-order_form.ensures in
    simp length-take (omega (arith, few, c.write_over.auto.observed, ready.room))

pub run_order-requires : goal.run_order-requires
run_order-requires c = let ready = c.requires in (
  order_executable _ _ _ _ _ _ ready _ c.in_ok-order_form.ensures _ _ c.write_over.ensures refl,
  order_starts _ _ _ _ _ _ ready _ c.in_ok-order_form.ensures,
  ready.size,
)

pub returns : goal.returns
returns c = at_run _ _ _ _ _ _ c.requires _ c.in_ok-order_form.ensures _ _ c.write_over.ensures refl _ _ c.run_order.ensures
