-- `append_step` meets its contract: five bytes, and the state after them.
use borrow.Author.Rules.{rules}
use Prim.Native.Nat.{◌+◌, ◌-◌}
use native.Mathlib.Omega.{arith}
use Rattle.std.proofs.lemmas.Result.{err_from_is_err_and}
use Rattle.format.specs.Lists.{list_at, list_end}
use Rattle.appending.proofs.Appended.{over_first}
use Rattle.rendering.proofs.Bytes.{step_part}
use Rattle.rendering.proofs.Steps.{carried_then}
use Rattle.rendering.proofs.append_step.Goals as goal

pub overflow_add-next : goal.overflow_add-next
unfolding list_end
overflow_add-next c = search rules

pub slice_bounds-append-end : goal.slice_bounds-append-end
unfolding list_end
slice_bounds-append-end c = search rules

pub returns-in_err-append : goal.returns-in_err-append
unfolding list_end
returns-in_err-append c = let a = c.args in
    let p = err_from_is_err_and c.from_residual.result c.from_residual.ensures.1 in
    rw p.1 (over_first _ _ _ a.new.now (rw (step_part a.short a.book.now (list_at a.state.now 0) a.at (a.at + 5 - a.at) (omega arith) (omega arith)) at c.in_err-append.ensures))

pub returns : goal.returns
unfolding list_end
returns c = let a = c.args in
    carried_then _ _ _ _ _ _ _ _ (rw (step_part a.short a.book.now (list_at a.state.now 0) a.at (a.at + 5 - a.at) (omega arith) (omega arith)) at c.in_ok-append.ensures) c.append_state.ensures
