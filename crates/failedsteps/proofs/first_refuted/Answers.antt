-- `first_refuted` meets its contract: the records still left answer as the whole book does.
use native.Mathlib.Omega.{arith}
use Rattle.std.proofs.lemmas.Result.{err_from_is_err_and}
use Rattle.failedsteps.proofs.Book.{head_length, book_asked, left_first, left_near, left_none, left_record, left_refused, left_next}
use Rattle.failedsteps.proofs.first_refuted.Goals as goal

pub loop-init : goal.loop-init
loop-init c = let p = c.requires in
    (p.0, p.1, p.2, left_first _ _ _ _ p.0 p.1 p.2)

pub read-head-requires : goal.read-head-requires
read-head-requires c = let i = c.loop.invariant in left_near _ _ _ _ i.0 i.1 i.2 _ _ i.3

pub record-requires : goal.record-requires
record-requires c = let i = c.loop.invariant in
    (book_asked _ _ _ _ i.0 i.1 i.2, left_record _ _ _ _ i.0 i.1 i.2 _ _ i.3 c.loop-test.true, c.read-head.ensures)

pub returns-in_err-record : goal.returns-in_err-record
returns-in_err-record c = let i = c.loop.invariant in
    let p = err_from_is_err_and c.from_residual.result c.from_residual.ensures.1 in
    rw (p.1, p.2) (left_refused _ _ _ _ i.0 i.1 i.2 _ _ i.3 c.loop-test.true c.in_err-record.ensures)

pub overflow_add-at : goal.overflow_add-at
overflow_add-at c = let i = c.loop.invariant in
    omega (arith, left_near _ _ _ _ i.0 i.1 i.2 _ _ i.3)

pub loop-preserved : goal.loop-preserved
loop-preserved c = let i = c.loop.invariant in
    (i.0, i.1, i.2, left_next _ _ _ _ i.0 i.1 i.2 _ _ i.3 c.loop-test.true c.in_ok-record.ensures _ (head_length _ _ _ c.read-head.ensures))

pub returns : goal.returns
returns c = let i = c.loop.invariant in left_none _ _ _ _ i.0 i.1 i.2 _ _ i.3 c.loop-test.false
