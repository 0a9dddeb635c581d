-- `observe_book` meets its contract: each return by the rows before it.
use mathlib.Core.Path.{◌∙◌}
use Rattle.std.proofs.lemmas.Result.{err_from_is_err_and}
use Rattle.wellformed.proofs.Headers.{moves_few}
use Rattle.observestep.proofs.Start.{nothing_sized}
use Rattle.learner.proofs.Book.{moves_own, at_form, formed, at_unbound, at_conflict, at_refuted, at_end}
use Rattle.learner.proofs.observe_book.Goals as goal

pub returns-in_err-w : goal.returns-in_err-w
returns-in_err-w c = let p = err_from_is_err_and c.from_residual.result c.from_residual.ensures.1 in
    rw (p.1, p.2) (at_form _ _ _ c.in_err-w.field-0.0 c.in_err-w.ensures)

pub returns-in_err-unbound_answer : goal.returns-in_err-unbound_answer
returns-in_err-unbound_answer c = let p = err_from_is_err_and c.from_residual-in_err-unbound_answer.result c.from_residual-in_err-unbound_answer.ensures.1 in
    rw (p.1, p.2) (at_unbound _ _ _ _ c.in_ok-w.ensures c.in_err-unbound_answer.field-0.0 c.in_err-unbound_answer.ensures)

pub conflict_among-requires : goal.conflict_among-requires
conflict_among-requires c = let p = c.requires in
    (c.observe_form.auto.observed ∙ nothing_sized _ p.1, rw (moves_own _ _ p.0) (moves_few _ _ _ (formed _ _ _ _ c.in_ok-w.ensures)))

pub returns-in_err-conflict_among : goal.returns-in_err-conflict_among
returns-in_err-conflict_among c = let p = err_from_is_err_and c.from_residual-in_err-conflict_among.result c.from_residual-in_err-conflict_among.ensures.1 in
    rw (p.1, p.2) (at_conflict _ _ _ _ c.in_ok-w.ensures c.in_ok-unbound_answer.ensures _ c.requires.0 c.in_err-conflict_among.field-0.0 c.in_err-conflict_among.ensures)

pub returns-in_err-refutation : goal.returns-in_err-refutation
returns-in_err-refutation c = let p = err_from_is_err_and c.from_residual-in_err-refutation.result c.from_residual-in_err-refutation.ensures.1 in
    rw (p.1, p.2)
    (at_refuted _ _ _ _ c.in_ok-w.ensures c.in_ok-unbound_answer.ensures _ c.requires.0 c.in_ok-conflict_among.ensures c.in_err-refutation.field-0.0 c.in_err-refutation.ensures)

pub returns : goal.returns
returns c = at_end _ _ _ _ c.in_ok-w.ensures c.in_ok-unbound_answer.ensures _ c.requires.0 c.in_ok-conflict_among.ensures c.in_ok-refutation.ensures
