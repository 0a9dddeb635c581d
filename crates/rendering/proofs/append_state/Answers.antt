-- `append_state` meets its contract: the list that was written is read again, or the book's list is.
use native.Mathlib.Omega.{arith}
use mathlib.Core.Path.{ap, ◌∙◌}
use lib.ListN.{length}
use Rattle.std.proofs.lemmas.Result.{err_from_is_err_and}
use Rattle.rendering.proofs.Lists.{list_back, list_within, after_short, after_full, few_short, few_full, carried_by}
use Rattle.rendering.proofs.append_state.Goals as goal

pub returns-in_err-append_list : goal.returns-in_err-append_list
returns-in_err-append_list c = let p = err_from_is_err_and c.from_residual.result c.from_residual.ensures.1 in
    rw p.1 c.in_err-append_list.ensures

pub hold-requires : goal.hold-requires
hold-requires c = let p = c.requires in
    let few = few_short _ _ _ _ p.1 c.if-short.true in
    let back = list_back _ _ _ c.in_ok-append_list.ensures few _ c.bytes.ensures.0 _ c.len-start.ensures.0 in
    let end = list_within _ _ _ c.in_ok-append_list.ensures few _ c.bytes.ensures.0 _ c.len-start.ensures.0 in
    let same = ap length c.bytes.ensures.0 in
    (p.0.long, omega arith, omega arith, rw back few)

pub returns-then-short : goal.returns-then-short
returns-then-short c = let p = c.requires in
    let few = few_short _ _ _ _ p.1 c.if-short.true in
    let back = list_back _ _ _ c.in_ok-append_list.ensures few _ c.bytes.ensures.0 _ c.len-start.ensures.0 in
    let (holds, is) = carried_by _ _ _ _ p.1 _ (after_short _ _ _ _ c.if-short.true) (omega arith) (c.hold.ensures ∙ back) in
    (c.in_ok-append_list.ensures, holds, is)

pub hold-requires-2 : goal.hold-requires-2
hold-requires-2 c = let p = c.requires in
    (p.0.long, p.1.list.within, p.1.list.near, few_full _ _ _ _ p.1 c.if-short.false)

pub returns : goal.returns
returns c = let p = c.requires in
    let (holds, is) = carried_by _ _ _ _ p.1 _ (after_full _ _ _ _ c.if-short.false) (omega arith) c.hold-2.ensures in
    (c.in_ok-append_list.ensures, holds, is)
