-- `order_form` meets its contract: the header, the objects, then what follows them.
use Rattle.std.proofs.Common.{sym, ◌∙◌, arith}
use Rattle.std.proofs.lemmas.Result.{err_from_is_err_and}
use Rattle.answer.proofs.Laws.{bind_good, bind_refused}
use Rattle.terms.specs.Schema.{schema}
use Rattle.format.specs.Order.{order_form}
use Rattle.format.proofs.Orders.{order_header_good}
use Rattle.orders.proofs.order_form.Goals as goal

pub returns-in_err-header : goal.returns-in_err-header
unfolding order_form
returns-in_err-header c = let p = err_from_is_err_and c.from_residual.result c.from_residual.ensures.1 in
    rw (p.1, p.2) (sym (bind_refused _ _ _ _ (sym c.in_err-header.ensures)))

pub returns-in_err-objects : goal.returns-in_err-objects
unfolding order_form schema
returns-in_err-objects c = let p = err_from_is_err_and c.from_residual-in_err-objects.result c.from_residual-in_err-objects.ensures.1 in
    rw (p.1, p.2) (sym (bind_good _ _ _ (sym c.in_ok-header.ensures) ∙ bind_refused _ _ _ _ (sym c.in_err-objects.ensures)))

pub from_start-requires : goal.from_start-requires
from_start-requires c = let g = order_header_good _ _ (sym c.in_ok-header.ensures) in
    (g.objects, omega (arith, g.size))

pub returns : goal.returns
unfolding order_form schema
returns c = c.from_start.ensures ∙ sym (bind_good _ _ _ (sym c.in_ok-header.ensures) ∙ bind_good _ _ _ (sym c.in_ok-objects.ensures))
