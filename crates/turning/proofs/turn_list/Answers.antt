-- `turning::turn_list` meets its contract: the rest of the facts turned give what all give from the state lent.
use native.Mathlib.Omega.{arith}
use mathlib.Core.Path.{sym, ◌∙◌}
use Rattle.mask.proofs.Flips.{length_flip_bit}
use Rattle.format.specs.Lists.{list_at, list_end}
use Rattle.turning.proofs.Turns.{left_first, left_none, left_more, flipped_none, flipped_more, numbered_first, numbered_rest}
use Rattle.turning.proofs.turn_list.Goals as goal

pub loop-i-init : goal.loop-i-init
unfolding list_at
loop-i-init c = (c.requires.0, c.requires.2, rw left_first c.requires.1.numbered, rw left_first)

pub read-requires : goal.read-requires
unfolding list_end
read-requires c = let t = c.requires.1 in (omega (arith, t.near, t.within), omega (arith, t.within))

pub turn-count-requires : goal.turn-count-requires
turn-count-requires c = let i = c.loop-i.invariant in
    (i.0, numbered_first _ _ _ (left_more _ _ _ _ _ (omega arith) c.read.ensures) i.2, i.1)

pub loop-i-preserved : goal.loop-i-preserved
loop-i-preserved c = let i = c.loop-i.invariant in
    let e = c.turn-count.ensures in
    let m = left_more _ _ _ _ _ (omega arith) c.read.ensures in
    (rw e.0 (length_flip_bit _ _ ∙ i.0), e.1, numbered_rest _ _ _ m i.2, flipped_more _ _ _ _ _ m e.0 ∙ i.3)

pub returns : goal.returns
returns c = let i = c.loop-i.invariant in (sym (flipped_none _ _ (left_none _ _ _ _ (omega arith))) ∙ i.3, i.1)
