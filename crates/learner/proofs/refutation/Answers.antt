-- `learner::refutation` meets its contract: the second walk where some step did not go, by the form, and else nothing to ask.
use mathlib.Core.Path.{sym, ◌∙◌}
use Rattle.std.proofs.lemmas.Result.{err_from_is_err_and}
use Rattle.learner.proofs.Book.{begun_held, refuted_by, refuted_ok, unrefuted_by}
use Rattle.learner.proofs.refutation.Goals as goal

pub returns-then-not-failed : goal.returns-then-not-failed
returns-then-not-failed c = let p = c.requires in
    unrefuted_by _ _ _ p.1.1 (sym p.3 ∙ c.if-not-failed.true)

pub first_refuted-requires : goal.first_refuted-requires
first_refuted-requires c = let p = c.requires in
    rw (← c.if-short.true) (p.0, p.1, begun_held _ _ _ p.1.1 _ p.2)

pub returns-in_err-first_refuted : goal.returns-in_err-first_refuted
returns-in_err-first_refuted c = let q = c.requires in
    let p = err_from_is_err_and c.from_residual.result c.from_residual.ensures.1 in
    rw (p.1, p.2) (refuted_by _ _ _ q.1.1 _ q.2 _ (c.in_err-first_refuted.ensures ∙ rw c.if-short.true))

pub returns-then-short : goal.returns-then-short
returns-then-short c = let p = c.requires in
    refuted_ok _ _ _ p.1.1 _ p.2 _ (c.in_ok-first_refuted.ensures ∙ rw c.if-short.true)

pub first_refuted-requires-2 : goal.first_refuted-requires-2
first_refuted-requires-2 c = let p = c.requires in
    rw (← c.if-short.false) (p.0, p.1, begun_held _ _ _ p.1.1 _ p.2)

pub returns-in_err-first_refuted-2 : goal.returns-in_err-first_refuted-2
returns-in_err-first_refuted-2 c = let q = c.requires in
    let p = err_from_is_err_and c.from_residual-in_err-first_refuted-2.result c.from_residual-in_err-first_refuted-2.ensures.1 in
    rw (p.1, p.2) (refuted_by _ _ _ q.1.1 _ q.2 _ (c.in_err-first_refuted-2.ensures ∙ rw c.if-short.false))

pub returns : goal.returns
returns c = let p = c.requires in
    refuted_ok _ _ _ p.1.1 _ p.2 _ (c.in_ok-first_refuted-2.ensures ∙ rw c.if-short.false)
