-- `stepping::Execution::put_relation` meets its contract: no effect of the relation's bound facts, or the removed ones and then the added ones in its groups.
use mathlib.Core.Path.{refl}
use Rattle.statemask.specs.Statemask.{rules_in}
use Rattle.grounding.proofs.Objects.{indices_inside}
use Rattle.stepping.proofs.Next.{next_more, next_none}
use Rattle.stepping.proofs.Execution.put_relation.Goals as goal

pub returns-then-removed-added-eq0 : goal.returns-then-removed-added-eq0
unfolding rules_in
returns-then-removed-added-eq0 c m e = let q = c.requires in
    next_none _ _ _ m _ q.1 c.args.self.now.steppable.bounded _ (λ j h. refl) _ _ _ c.set_word-removed.ensures c.set_word-added.ensures c.if-removed-added-eq0.true e

pub placement-p-requires : goal.placement-p-requires
placement-p-requires c = let s = c.args.self.now in (indices_inside _ _ s.steppable.bounded s.own, c.requires.1)

pub returns : goal.returns
unfolding rules_in
returns c m e = let s = c.args.self.now in
    let (ys, g) = c.placement-p.ensures.grounds _ s.steppable.bounded s.own in
    next_more _ _ _ m _ c.requires.1 s.steppable.bounded _ g.is _ _ _ _ _ c.set_word-removed.ensures c.set_word-added.ensures e
    (c.put_groups.ensures ys g.small (g.right _ s.right)) (c.put_groups-2.ensures ys g.small (g.right _ s.right))
