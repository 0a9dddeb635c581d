-- `trajectory` meets its contract, by what `states::state` and `steps` say.
use mathlib.Core.Path.{refl, sym}
use native.Mathlib.Omega.{arith}
use Rattle.std.proofs.lemmas.Result.{err_from_is_err_and}
use Rattle.answer.specs.Answer.{is_refused, value_of}
use Rattle.format.specs.Filed.{filed_fact}
use Rattle.format.proofs.States.{list_within}
use Rattle.records.proofs.Parts.{trajectory_stays, trajectory_steps}
use Rattle.tables.specs.Tables.{ForRightByPlace}
use Rattle.records.proofs.trajectory.Goals as goal

pub returns-in_err-first : goal.returns-in_err-first
unfolding ForRightByPlace is_refused
returns-in_err-first c = let p = err_from_is_err_and c.from_residual.result c.from_residual.ensures.1 in
    rw (p.1, p.2) (trajectory_stays _ _ _ _ _ _ _ _ _ (c.in_err-first.ensures 8 _ _ c.requires.0.table) refl refl)

pub steps-requires : goal.steps-requires
unfolding ForRightByPlace filed_fact
steps-requires c = let p = c.requires in
    let good = sym (c.in_ok-first.ensures 8 _ _ p.0.table) in
    let w = list_within _ _ _ _ _ _ _ _ _ good in
    (p.0, omega arith, omega arith, good)

pub returns : goal.returns
unfolding ForRightByPlace is_refused value_of
returns c = trajectory_steps _ _ _ _ _ _ _ _ _ _ _ (c.in_ok-first.ensures 8 _ _ c.requires.0.table) refl refl refl c.steps.ensures
