-- `starts_form` meets its contract: the starts, then what is left behind them.
use Rattle.std.proofs.Common.{sym}
use Rattle.std.proofs.lemmas.Result.{err_from_is_err_and}
use Rattle.answer.proofs.Laws.{bind_refused}
use Rattle.format.specs.Order.{starts_form}
use Rattle.tables.specs.Tables.{ForRightByPlace}
use Rattle.orders.proofs.Tests.{at_rest, at_goal}
use Rattle.orders.proofs.starts_form.Goals as goal

pub returns-in_err-last : goal.returns-in_err-last
unfolding ForRightByPlace starts_form
returns-in_err-last c sch ob right = let p = err_from_is_err_and c.from_residual.result c.from_residual.ensures.1 in
    rw (p.1, p.2) (sym (bind_refused _ _ _ _ (sym (c.in_err-last.ensures sch ob right))))

pub returns-then-last-end : goal.returns-then-last-end
unfolding ForRightByPlace
returns-then-last-end c sch ob right = rw c.at.ensures (at_rest sch ob _ _ _ (sym (c.in_ok-last.ensures sch ob right)) c.goal_at-end.ensures.0 c.if-last-end.true)

pub returns : goal.returns
unfolding ForRightByPlace
returns c sch ob right = at_goal sch ob _ _ _ (sym (c.in_ok-last.ensures sch ob right)) c.goal_at-end.ensures.0 c.if-last-end.false
