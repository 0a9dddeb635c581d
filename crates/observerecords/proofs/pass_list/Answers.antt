-- `observerecords::pass_list` meets its contract: the list behind the step, and what it does to the state.
use mathlib.Core.Path.{sym}
use Rattle.std.proofs.lemmas.Result.{err_from_is_err_and}
use Rattle.format.specs.Filed.{filed_fact}
use Rattle.tables.specs.Tables.{ForRightByPlace}
use Rattle.observerecords.proofs.Ready.{list_turns}
use Rattle.observerecords.proofs.pass_list.Goals as goal

pub returns-in_err-next-clause-answer_value : goal.returns-in_err-next-clause-answer_value
unfolding ForRightByPlace filed_fact
returns-in_err-next-clause-answer_value c = let p = err_from_is_err_and c.from_residual.result c.from_residual.ensures.1 in
    rw (p.1, p.2) (rw c.most_listed-most.ensures.0 at (c.in_err-next.ensures 8 _ _ c.requires.0.1.readable.table))

pub carry-count-requires : goal.carry-count-requires
unfolding ForRightByPlace
carry-count-requires c = let p = c.requires in
    let good = sym (rw c.most_listed-most.ensures.0 at (c.in_ok-next.ensures 8 _ _ p.0.1.readable.table)) in
    (p.2, λ short. (list_turns _ _ _ _ p.0.1 _ _ p.1 good, p.3 short))

pub returns-clause-answer_value : goal.returns-clause-answer_value
unfolding ForRightByPlace filed_fact
returns-clause-answer_value c = rw c.most_listed-most.ensures.0 at (c.in_ok-next.ensures 8 _ _ c.requires.0.1.readable.table)
