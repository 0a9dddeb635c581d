-- `observerecords::observe_body` meets its contract: the objects, then the trajectory, then no bytes left.
use mathlib.Core.Path.{sym, ◌∙◌}
use native.Mathlib.Omega.{arith}
use Rattle.std.proofs.lemmas.Result.{err_from_is_err_and}
use Rattle.format.proofs.Records.{objects_end}
use Rattle.tables.specs.Tables.{RightFrom}
use Rattle.records.proofs.Laws.{readable_by, objects_at, objects_counted}
use Rattle.observerecords.proofs.Record.{refused_observes, record_observable, begun_in, body_err, body_stays, body_ends, body_observes}
use Rattle.observerecords.proofs.observe_body.Goals as goal

pub objects-requires : goal.objects-requires
objects-requires c = let p = c.requires in
    let e = objects_at _ _ _ _ _ _ p.head.3 _ c.scope_of-c.ensures in
    (omega arith, omega arith)

pub returns-in_err-first : goal.returns-in_err-first
returns-in_err-first c = let p = err_from_is_err_and c.from_residual.result c.from_residual.ensures.1 in
    rw (p.1, p.2) (refused_observes _ _ _ _ _ (body_err _ _ _ _ _ _ c.requires.head.3 _ c.scope_of-c.ensures c.in_err-first.field-0.0 c.in_err-first.ensures))

pub kinds_of-kinds-requires : goal.kinds_of-kinds-requires
kinds_of-kinds-requires c = let p = c.requires in
    let e = objects_at _ _ _ _ _ _ p.head.3 _ c.scope_of-c.ensures in
    let n = objects_counted _ _ _ _ _ _ p.head.3 _ c.scope_of-c.ensures in
    (omega arith, omega (arith, n, p.head.4))

pub observe_trajectory-requires : goal.observe_trajectory-requires
unfolding RightFrom
observe_trajectory-requires c = let p = c.requires in
    let s = c.scope_of-c.ensures in
    let e = objects_at _ _ _ _ _ _ p.head.3 _ s in
    let good = sym c.in_ok-first.ensures in
    let w = objects_end _ _ _ _ _ _ good in
    let right = c.table_of-table.ensures _ c.kinds_of-kinds.ensures in (
      record_observable _ _ _ _ _ _ p.head.3 _ s _ _ _ good p.header.2 p.header.1
          (readable_by _ _ _ _ _ _ p.head.3 _ s _ _ p.head.2 p.head.1 p.header.0 p.head.4 c.kinds_of-kinds.ensures right),
      begun_in _ _ _ _ _ _ p.head.3 _ s _ p.header.3,
      omega arith,
    )

pub returns-in_err-w : goal.returns-in_err-w
returns-in_err-w c = let p = err_from_is_err_and c.from_residual-in_err-w.result c.from_residual-in_err-w.ensures.1 in
    rw (p.1, p.2) (refused_observes _ _ _ _ _ (body_stays _ _ _ _ _ _ c.requires.head.3 _ c.scope_of-c.ensures _ c.in_ok-first.ensures c.in_err-w.field-0.0 c.in_err-w.ensures.says))

pub returns-in_err-value : goal.returns-in_err-value
returns-in_err-value c = let p = err_from_is_err_and c.from_residual-in_err-value.result c.from_residual-in_err-value.ensures.1 in
    rw (p.1, p.2)
    (refused_observes _ _ _ _ _ (c.in_err-value.ensures ∙ body_ends _ _ _ _ _ _ c.requires.head.3 _ c.scope_of-c.ensures _ c.in_ok-first.ensures _ c.in_ok-w.ensures.says))

pub returns : goal.returns
returns c = let p = c.requires in
    let s = c.scope_of-c.ensures in
    let e = objects_at _ _ _ _ _ _ p.head.3 _ s in
    let w = objects_end _ _ _ _ _ _ (sym c.in_ok-first.ensures) in
    record {
      says = c.in_ok-value.ensures ∙ body_ends _ _ _ _ _ _ p.head.3 _ s _ c.in_ok-first.ensures _ c.in_ok-w.ensures.says;
      observes = body_observes _ _ _ _ _ _ p.head.3 _ s _ _ _ _ (omega arith) c.in_ok-w.ensures.observes;
    }
