-- `observestep::observe_turned` meets its contract: the bound facts before the step from the state, those after it and row 11 from `mark_turned`.
use mathlib.Core.Path.{sym, ap}
use native.Mathlib.Omega.{arith}
use Rattle.std.proofs.lemmas.Result.{err_from_is_err_and}
use Rattle.terms.specs.declared.Step.{Step}
use Rattle.format.specs.Lists.{list_end}
use Rattle.observed.proofs.Noted.{length_observed_set}
use Rattle.grounding.proofs.Held.{held_long}
use Rattle.observestep.proofs.Steps.{bound_part, turned_by}
use Rattle.observestep.proofs.observe_turned.Goals as goal

pub read_step-step-requires : goal.read_step-step-requires
unfolding list_end
read_step-step-requires c = let p = c.requires.0 in let n = p.near in let w = p.within in (omega arith, omega arith)

pub mark_held-requires : goal.mark_held-requires
mark_held-requires c = let step = c.read_step-step in
    let p = c.requires.0 in
    let e = step.ensures in
    let a = ap (λ (step : Step). step.action.0) e in
    let own = bound_part c.args.observed.now step.result.action.0 c.set_at-bound.result c.set_at-bound.ensures.0 in
    (rw e p.bounded, rw own (length_observed_set _ _ 6 p.sized (rw a p.counted) (rw a p.known) (omega arith)), p.long, c.empty-before.ensures, rw (own, e) p.ended)

pub returns : goal.returns
returns c = let e = c.in_ok-turned.ensures in
    let own = bound_part _ _ _ c.set_at-bound.ensures.0 in
    record {
      list_looked = e.list_looked;
      good = (e.good.0, turned_by _ _ _ _ _ _ _ _ _ _ _ _ _ _ _ c.read_step-step.ensures own c.mark_held.ensures e.good.1 c.note.ensures c.first_named.ensures, e.good.2);
    }
