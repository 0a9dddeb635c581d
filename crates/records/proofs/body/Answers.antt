-- `body` meets its contract: the objects, then the trajectory, then no bytes left.
use mathlib.Core.Path.{refl, sym, ◌∙◌}
use native.Mathlib.Omega.{arith}
use Rattle.std.proofs.lemmas.Result.{err_from_is_err_and}
use Rattle.answer.specs.Answer.{is_refused, value_of}
use Rattle.format.proofs.Records.{objects_end}
use Rattle.records.proofs.Laws.{readable_by, objects_at, objects_counted, body_stays, body_rest}
use Rattle.tables.specs.Tables.{RightFrom}
use Rattle.records.proofs.body.Goals as goal

pub objects-requires : goal.objects-requires
objects-requires c = let p = c.requires in
    let e = objects_at _ _ _ _ _ _ p.4 _ c.scope_of-c.ensures in
    (omega arith, omega arith)

pub returns-in_err-first : goal.returns-in_err-first
unfolding is_refused
returns-in_err-first c = let p = err_from_is_err_and c.from_residual.result c.from_residual.ensures.1 in
    rw (p.1, p.2) (body_stays _ _ _ _ _ _ c.requires.4 _ c.scope_of-c.ensures _ _ c.in_err-first.ensures refl refl)

pub put_objects-requires : goal.put_objects-requires
put_objects-requires c = let p = c.requires in
    let e = objects_at _ _ _ _ _ _ p.4 _ c.scope_of-c.ensures in
    let n = objects_counted _ _ _ _ _ _ p.4 _ c.scope_of-c.ensures in
    (omega arith, omega (arith, n, p.5), c.empty-kinds.ensures)

pub trajectory-requires : goal.trajectory-requires
unfolding RightFrom
trajectory-requires c = let p = c.requires in
    let s = c.scope_of-c.ensures in
    let e = objects_at _ _ _ _ _ _ p.4 _ s in
    let w = objects_end _ _ _ _ _ _ (sym c.in_ok-first.ensures) in (
      readable_by _ _ _ _ _ _ p.4 _ s _ _ p.3 p.2 p.0 p.5 c.put_objects.ensures (c.store_places.ensures _ c.put_objects.ensures),
      omega arith,
    )

pub returns : goal.returns
unfolding is_refused value_of
returns c = c.closed.ensures
    ∙ body_rest _ _ _ _ _ _ c.requires.4 _ c.scope_of-c.ensures _ _ _ _ c.in_ok-first.ensures refl refl refl c.trajectory.ensures
