-- `step` meets its contract: the step alone, then the list behind it.
use mathlib.Core.Path.{refl, ◌∙◌}
use native.Mathlib.Omega.{arith}
use Rattle.std.proofs.lemmas.Result.{err_from_is_err_and}
use Rattle.answer.specs.Answer.{is_refused, value_of}
use Rattle.tables.specs.Tables.{ForRightByKind, ForRightByPlace}
use Rattle.records.proofs.Parts.{alone_found, step_stays, step_follows}
use Rattle.records.proofs.step.Goals as goal

pub returns-in_err-listed : goal.returns-in_err-listed
unfolding ForRightByKind is_refused
returns-in_err-listed c = let p = err_from_is_err_and c.from_residual.result c.from_residual.ensures.1 in
    rw (p.1, p.2) (step_stays _ _ _ _ _ _ _ _ (c.in_err-listed.ensures _ c.requires.0.kinds) refl refl)

pub list-requires : goal.list-requires
unfolding ForRightByKind is_refused value_of
list-requires c = let p = c.requires in
    let w = alone_found _ _ _ _ _ _ _ (c.in_ok-listed.ensures _ p.0.kinds) refl refl in
    (c.most_listed.ensures.1, p.0.within, omega arith)

pub returns-in_err-next : goal.returns-in_err-next
unfolding ForRightByKind ForRightByPlace is_refused value_of
returns-in_err-next c = let p = c.requires.0 in
    let m = c.most_listed.ensures.0 in
    let r = err_from_is_err_and c.from_residual-in_err-next.result c.from_residual-in_err-next.ensures.1 in
    rw (r.1, r.2)
    (rw m at (c.in_err-next.ensures 8 _ _ p.table) ∙ step_follows _ _ _ _ _ _ _ _ _ (c.in_ok-listed.ensures _ p.kinds) refl refl refl)

pub returns : goal.returns
unfolding ForRightByKind ForRightByPlace is_refused value_of
returns c = let p = c.requires.0 in
    let m = c.most_listed.ensures.0 in
    rw m at (c.in_ok-next.ensures 8 _ _ p.table) ∙ step_follows _ _ _ _ _ _ _ _ _ (c.in_ok-listed.ensures _ p.kinds) refl refl refl
