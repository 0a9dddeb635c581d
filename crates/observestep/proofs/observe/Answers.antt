-- `observestep::observe` meets its contract: the answer and the bound facts from `mark_step`, the sets from `note`, the offset from `first_named`.
use mathlib.Core.Path.{refl, ap}
use Rattle.std.proofs.lemmas.Result.{err_from_is_err_and}
use native.Mathlib.Omega.{arith}
use Rattle.terms.specs.declared.Step.{Step}
use Rattle.format.specs.Lists.{list_end}
use Rattle.observestep.proofs.Steps.{bound_part, observed_by}
use Rattle.observestep.proofs.observe.Goals as goal

pub returns : goal.returns
returns c = let e = c.in_ok-sight.ensures in
    record {
      list_looked = e.list_looked;
      good = (refl, e.good.0, observed_by _ _ _ _ _ _ _ _ _ _ _ _ c.read_step-step.ensures (bound_part _ _ _ c.set_at-bound.ensures.0) e.good.1 c.note.ensures c.first_named.ensures);
    }

pub read_step-step-requires : goal.read_step-step-requires
unfolding list_end
read_step-step-requires c = let p = c.requires in (omega arith, omega (arith, p.lists_within.1))
