-- `starts::run_only` meets its contract: the plan from the only start, and the sheet of a pass.
use Rattle.std.proofs.Common.{◌≡◌, rules, arith}
use Rattle.std.proofs.lemmas.Result.{err_from_is_err_and}
use Rattle.answer.specs.declared.CheckRefusal.TheVariants.{AtStart}
use Rattle.starts.proofs.Mapped.{mapped_err, mapped_ok}
use Rattle.starts.proofs.Starts.{next_start, only_fails, only_ends}
use Rattle.starts.proofs.run_only.Goals as goal

pub start_of-state-requires : goal.start_of-state-requires
start_of-state-requires c = let p = c.requires in
    let w = next_start _ _ _ p.1 (omega arith) in
    rw c.start_at.ensures.0 (w.0, w.1)

pub returns-in_err-place : goal.returns-in_err-place
returns-in_err-place c = let p = err_from_is_err_and c.from_residual.result c.from_residual.ensures.1 in
    let (e, is, q) = mapped_err c.execute_plan-ran.result c.map_err.result _ c.map_err.ensures.cases _ c.in_err-place.was in
    let place : c.in_err-place.field-0.0 ≡ AtStart 1 e = search rules in
    rw (p.1, p.2, place) (only_fails _ _ _ _ _ _ _ c.requires.2 c.start_at.ensures.0 c.start_of-state.ensures e (rw is at c.execute_plan-ran.ensures))

pub returns : goal.returns
returns c = let is = mapped_ok c.execute_plan-ran.result c.map_err.result _ c.map_err.ensures.cases _ c.in_ok-place.was in
    only_ends _ _ _ _ _ _ _ c.requires.2 c.start_at.ensures.0 c.start_of-state.ensures _ (rw is at c.execute_plan-ran.ensures) _ c.copy_from_slice.ensures.after
