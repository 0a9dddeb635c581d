-- `from_goal` meets its contract: the goal entries, then the plan steps.
use Rattle.std.proofs.Common.{sym, ◌∙◌}
use Rattle.std.proofs.lemmas.Result.{err_from_is_err_and}
use Rattle.answer.proofs.Laws.{bind_good, bind_refused}
use Rattle.tables.specs.Tables.{ForRightByKind, ForRightByPlace, RightFrom}
use Rattle.format.specs.Order.{from_goal}
use Rattle.orders.proofs.from_goal.Goals as goal

pub returns-in_err-goal : goal.returns-in_err-goal
unfolding ForRightByKind ForRightByPlace RightFrom from_goal
returns-in_err-goal c ob right = let p = err_from_is_err_and c.from_residual.result c.from_residual.ensures.1 in
    rw (p.1, p.2) (sym (bind_refused _ _ _ _ (sym (c.in_err-goal.ensures _ ob (c.requires.0 ob right)))))

pub returns : goal.returns
unfolding ForRightByKind ForRightByPlace RightFrom from_goal
returns c ob right = c.plan.ensures ob right ∙ sym (bind_good _ _ _ (sym (c.in_ok-goal.ensures _ ob (c.requires.0 ob right))))
