-- `starts::run_each` meets its contract: the starts still left answer as all of them do.
use Rattle.std.proofs.Common.{◌≡◌, ◌+◌, ◌-◌, rules, arith}
use Rattle.std.proofs.lemmas.Result.{err_from_is_err_and}
use Rattle.answer.specs.declared.CheckRefusal.TheVariants.{AtStart}
use Rattle.format.specs.Lists.{list_end}
use Rattle.format.specs.Order.{start_count}
use Rattle.starts.proofs.Mapped.{mapped_err, mapped_ok}
use Rattle.starts.proofs.Starts.{next_start, each_begins, each_ends, each_fails, each_goes}
use Rattle.starts.proofs.run_each.Goals as goal

pub loop-i-init : goal.loop-i-init
loop-i-init c = let at = c.start_at-at.ensures.0 in
    let left : start_count c.args.o.now - 0 ≡ start_count c.args.o.now = omega arith in
    (rw (left, at) c.requires.1, each_begins _ _ _ _ at)

pub run_start-requires : goal.run_start-requires
run_start-requires c = let w = next_start _ _ _ c.loop-i.invariant.0 (omega arith) in
    (c.requires.0, w.0, w.1)

pub returns-in_err-map_err : goal.returns-in_err-map_err
returns-in_err-map_err c = let p = err_from_is_err_and c.from_residual.result c.from_residual.ensures.1 in
    let (e, is, q) = mapped_err c.run_start.result c.map_err.result _ c.map_err.ensures.cases _ c.in_err-map_err.was in
    let place : c.in_err-map_err.field-0.0 ≡ AtStart (c.loop-i.i-counter + 1) e = search rules in
    rw (p.1, p.2, place) (each_fails _ _ _ _ _ c.loop-i.invariant.1 (omega arith) _ c.run_start.ensures e is)

pub list_end-at-requires : goal.list_end-at-requires
unfolding list_end
list_end-at-requires c = let w = next_start _ _ _ c.loop-i.invariant.0 (omega arith) in
    omega (arith, w.0)

pub loop-i-preserved : goal.loop-i-preserved
loop-i-preserved c = let e = c.list_end-at.ensures.0 in
    let w = next_start _ _ _ c.loop-i.invariant.0 (omega arith) in
    let left : start_count c.args.o.now - (c.loop-i.i-counter + 1) ≡ start_count c.args.o.now - c.loop-i.i-counter - 1 = omega arith in
    (rw (e, left) w.2, rw e (each_goes _ _ _ _ _ c.loop-i.invariant.1 (omega arith) _ c.run_start.ensures _ (mapped_ok c.run_start.result c.map_err.result _ c.map_err.ensures.cases _ c.in_ok-map_err.was)))

pub returns : goal.returns
returns c = each_ends _ _ _ _ _ c.loop-i.invariant.1 _ (omega arith) c.step_count.ensures
