-- `stepping::Execution::relation_unmet` meets its contract: no need of the relation's bound facts, or the needs against its groups.
use mathlib.Core.Path.{◌∙◌}
use Rattle.statemask.specs.Statemask.{rules_in}
use Rattle.grounding.proofs.Objects.{indices_inside}
use Rattle.stepping.proofs.Needs.{needs_none, needs_by}
use Rattle.stepping.proofs.Execution.relation_unmet.Goals as goal

pub returns-then-needed-needed_not-eq0 : goal.returns-then-needed-needed_not-eq0
unfolding rules_in
returns-then-needed-needed_not-eq0 c = needs_none _ _ _ _ _ _ _ c.set_word-needed.ensures c.set_word-needed_not.ensures c.if-needed-needed_not-eq0.true

pub placement-p-requires : goal.placement-p-requires
placement-p-requires c = let e = c.args.self.now in (indices_inside _ _ e.steppable.bounded e.own, c.requires)

pub returns : goal.returns
unfolding rules_in
returns c = let e = c.args.self.now in
    let (ys, g) = c.placement-p.ensures.grounds _ e.steppable.bounded e.own in
    c.needs_unmet.ensures ys g.small (g.right _ e.right)
    ∙ needs_by _ _ _ _ _ _ _ c.set_word-needed.ensures c.set_word-needed_not.ensures _ g.is
