-- `record_at` meets its contract: a head that is right says where the record ends, within the book.
use mathlib.Core.Path.{refl, sym, ap}
use native.Mathlib.Omega.{arith}
use Rattle.std.proofs.lemmas.Result.{err_from_is_err_and}
use Rattle.answer.specs.Answer.{is_refused, value_of}
use Rattle.format.specs.Records.{objects_in, steps_in, length_in}
use Rattle.format.proofs.Records.{head_limits, head_end, head_objects}
use Rattle.terms.specs.declared.Head.{Head}
use Rattle.terms.specs.Head.{head_of}
use Rattle.records.proofs.Laws.{record_stays, record_body}
use Rattle.records.proofs.record_at.Goals as goal

pub returns-in_err-end : goal.returns-in_err-end
unfolding is_refused
returns-in_err-end c = let p = err_from_is_err_and c.from_residual.result c.from_residual.ensures.1 in
    rw (p.1, p.2) (record_stays _ _ _ _ _ _ c.in_err-end.ensures refl refl)

pub body-requires : goal.body-requires
unfolding head_of objects_in steps_in length_in
body-requires c = let e = c.read-head.ensures in
    let p = c.requires in
    let g = sym c.in_ok-end.ensures in
    let n = head_end _ _ g in
    let o = ap (λ (x : Head). x.objects) e in
    let w = (head_limits _ _ g).2 in
    (p.0, p.2, omega arith, omega arith, e, rw o (head_objects _ _ g))

pub returns : goal.returns
unfolding is_refused value_of
returns c = record_body _ _ _ _ _ _ _ _ c.in_ok-end.ensures refl refl refl c.body.ensures
