-- `observerecords::observe_trajectory` meets its contract, by what `states::state` and `observe_steps` say.
use mathlib.Core.Path.{sym}
use native.Mathlib.Omega.{arith}
use Rattle.std.proofs.lemmas.Result.{err_from_is_err_and}
use Rattle.answer.proofs.Laws.{bind_refused}
use Rattle.format.specs.Filed.{filed_fact}
use Rattle.format.specs.Records.{trajectory}
use Rattle.format.proofs.States.{list_within}
use Rattle.tables.specs.Tables.{ForRightByPlace}
use Rattle.observerecords.proofs.Record.{refused_observes, trajectory_observes}
use Rattle.observerecords.proofs.observe_trajectory.Goals as goal

pub returns-in_err-from : goal.returns-in_err-from
unfolding ForRightByPlace filed_fact trajectory
returns-in_err-from c = let p = err_from_is_err_and c.from_residual.result c.from_residual.ensures.1 in
    rw (p.1, p.2) (refused_observes _ _ _ _ _ (sym (bind_refused _ _ _ _ (sym (c.in_err-from.ensures 8 _ _ c.requires.0.readable.table)))))

pub observe_steps-requires-clause-first_state : goal.observe_steps-requires-clause-first_state
unfolding ForRightByPlace filed_fact
observe_steps-requires-clause-first_state c = let p = c.requires in
    let good = sym (c.in_ok-from.ensures 8 _ _ p.0.readable.table) in
    let w = list_within _ _ _ _ _ _ _ _ _ good in
    let n = p.0.readable.near in (p.2, omega arith, good)

pub returns : goal.returns
unfolding ForRightByPlace filed_fact
returns c = trajectory_observes _ _ _ _ _ _ _ _ _ _ _ (sym (c.in_ok-from.ensures 8 _ _ c.requires.0.readable.table)) c.observe_steps.ensures
