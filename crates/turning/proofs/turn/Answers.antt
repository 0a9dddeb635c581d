-- `turning::turn` meets its contract: a fact that held is one less, and one that did not one more.
use mathlib.Core.Path.{sym, ◌∙◌}
use native.Mathlib.Omega.{arith}
use Rattle.turning.proofs.Turns.{turn_in, turn_out}
use Rattle.turning.proofs.turn.Goals as goal

pub overflow_sub-result : goal.overflow_sub-result
overflow_sub-result c = let k = c.number.ensures in
    (turn_in _ _ _ (λ i. (c.slice_known-1.given i).fits) c.requires.0 c.requires.1 c.requires.2 (rw k at (sym c.flip_bit.ensures.0 ∙ c.if-flip_bit.true))).0

pub returns-then-flip_bit : goal.returns-then-flip_bit
returns-then-flip_bit c = let k = c.number.ensures in
    let w = rw k at c.flip_bit.ensures in
    (w.1, (turn_in _ _ _ (λ i. (c.slice_known-1.given i).fits) c.requires.0 c.requires.1 c.requires.2 (sym w.0 ∙ c.if-flip_bit.true)).1 ∙ rw w.1)

pub overflow_add-result : goal.overflow_add-result
overflow_add-result c = let k = c.number.ensures in
    let w = (turn_out _ _ _ (λ i. (c.slice_known-1.given i).fits) c.requires.0 c.requires.1 c.requires.2 (rw k at (sym c.flip_bit.ensures.0 ∙ c.if-flip_bit.false))).0 in
    omega arith

pub returns : goal.returns
returns c = let k = c.number.ensures in
    let w = rw k at c.flip_bit.ensures in
    (w.1, (turn_out _ _ _ (λ i. (c.slice_known-1.given i).fits) c.requires.0 c.requires.1 c.requires.2 (sym w.0 ∙ c.if-flip_bit.false)).1 ∙ rw w.1)
