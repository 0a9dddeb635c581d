-- `append_turned` meets its contract: a loop of turns, then what is left of either list.
use native.Mathlib.Omega.{arith}
use Rattle.std.proofs.lemmas.Result.{err_from_is_err_and}
use Rattle.rendering.proofs.Held.{holds_end}
use Rattle.rendering.proofs.Merge.{list_near, merged_first, merged_over, merged_end_over, merged_end}
use Rattle.rendering.proofs.append_turned.Goals as goal

pub of_list-requires : goal.of_list-requires
of_list-requires c = (omega arith, holds_end c.requires.0)

pub of_list-requires-2 : goal.of_list-requires-2
of_list-requires-2 c = (list_near c.requires.1, c.requires.1.within)

pub loop-v-init : goal.loop-v-init
loop-v-init c = merged_first _ _ _ _ _ _ c.of_list.ensures c.of_list-2.ensures c.requires.1

pub returns-in_err-merge_next : goal.returns-in_err-merge_next
returns-in_err-merge_next c = let p = err_from_is_err_and c.from_residual.result c.from_residual.ensures.1 in
    rw p.1 (merged_over c.loop-v.invariant c.in_err-merge_next.ensures)

pub returns-in_err-append_rest : goal.returns-in_err-append_rest
returns-in_err-append_rest c = let p = err_from_is_err_and c.from_residual-in_err-append_rest.result c.from_residual-in_err-append_rest.ensures.1 in
    rw p.1 (merged_end_over c.loop-v.invariant c.loop-v-test.false c.in_err-append_rest.ensures)

pub returns : goal.returns
returns c = merged_end c.loop-v.invariant c.loop-v-test.false _ _ c.in_ok-append_rest.ensures c.append_rest-2.ensures
