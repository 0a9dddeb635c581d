-- `merge_next` meets its contract: each of its three ways on is a law of Merge.
use mathlib.Core.Path.{sym, ◌∙◌}
use Rattle.std.proofs.lemmas.Result.{err_from_is_err_and}
use Rattle.rendering.proofs.Merge.{held_over, merged_held, turn_over, merged_turn, merged_both}
use Rattle.rendering.proofs.merge_next.Goals as goal

pub returns-in_err-append_fact : goal.returns-in_err-append_fact
returns-in_err-append_fact c = let p = err_from_is_err_and c.from_residual.result c.from_residual.ensures.1 in
    rw p.1 (held_over _ _ _ c.requires.0 _ _ c.fact-f.ensures c.fact-g.ensures (sym c.follows.ensures ∙ c.if-follows.true) _ c.in_err-append_fact.ensures)

pub returns-then-follows : goal.returns-then-follows
returns-then-follows c = merged_held _ _ _ c.requires.0 _ _ c.fact-f.ensures c.fact-g.ensures (sym c.follows.ensures ∙ c.if-follows.true) _ c.on-v.ensures _ _ c.in_ok-append_fact.ensures

pub returns-in_err-append_fact-2 : goal.returns-in_err-append_fact-2
returns-in_err-append_fact-2 c = let p = err_from_is_err_and c.from_residual-in_err-append_fact-2.result c.from_residual-in_err-append_fact-2.ensures.1 in
    rw p.1 (turn_over _ _ _ c.requires.0 _ _ c.fact-f.ensures c.fact-g.ensures (sym c.follows-2.ensures ∙ c.if-follows-2.true) _ c.in_err-append_fact-2.ensures)

pub returns-then-follows-2 : goal.returns-then-follows-2
returns-then-follows-2 c = merged_turn _ _ _ c.requires.0 _ _ c.fact-f.ensures c.fact-g.ensures (sym c.follows-2.ensures ∙ c.if-follows-2.true) _ c.on-v-then-follows-2.ensures _ _ c.in_ok-append_fact-2.ensures

pub returns : goal.returns
returns c = merged_both _ _ _ c.requires.0 _ _ c.fact-f.ensures c.fact-g.ensures (sym c.follows.ensures ∙ c.if-follows.false) (sym c.follows-2.ensures ∙ c.if-follows-2.false) _ _ c.on-v-2.ensures c.on-v-3.ensures _
