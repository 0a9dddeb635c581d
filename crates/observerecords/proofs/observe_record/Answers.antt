-- `observerecords::observe_record` meets its contract: a head that is right says where the record ends, and its own bytes are observed.
use mathlib.Core.Path.{sym, ap, ◌∙◌}
use native.Mathlib.Omega.{arith}
use Rattle.std.proofs.lemmas.Result.{err_from_is_err_and}
use Rattle.answer.proofs.Laws.{bind_refused, bind_good}
use Rattle.format.specs.Records.{objects_in, steps_in, length_in, record_at}
use Rattle.format.proofs.Records.{head_limits, head_end, head_objects}
use Rattle.terms.specs.declared.Head.{Head}
use Rattle.terms.specs.Head.{head_of}
use Rattle.observerecords.proofs.Record.{refused_observes, record_observes}
use Rattle.observerecords.proofs.observe_record.Goals as goal

pub returns-in_err-end : goal.returns-in_err-end
unfolding record_at
returns-in_err-end c = let p = err_from_is_err_and c.from_residual.result c.from_residual.ensures.1 in
    rw (p.1, p.2) (refused_observes _ _ _ _ _ (sym (bind_refused _ _ _ _ (sym c.in_err-end.ensures))))

pub observe_body-requires-clause-head : goal.observe_body-requires-clause-head
unfolding head_of objects_in steps_in length_in
observe_body-requires-clause-head c = let e = c.read-head.ensures in
    let p = c.requires in
    let g = sym c.in_ok-end.ensures in
    let n = head_end _ _ g in
    let o = ap (λ (x : Head). x.objects) e in
    let l = (head_limits _ _ g).2 in
    let b = p.size in (p.near, omega arith, omega arith, e, rw o (head_objects _ _ g))

pub returns : goal.returns
unfolding record_at
returns c = let o = c.observe_body.ensures in
    record_observes _ _ _ _ _ _ _ (record { says = o.says ∙ sym (bind_good _ _ _ (sym c.in_ok-end.ensures)); observes = o.observes })
