-- `observerecords::observe_step` meets its contract: the step alone, then the list behind it: of a step that did not go it is passed over, else it is
-- observed where it is whole and else refused.
use mathlib.Core.Path.{sym, ◌∙◌}
use native.Mathlib.Omega.{arith}
use Rattle.std.proofs.lemmas.Result.{err_from_is_err_and}
use Rattle.format.specs.Filed.{filed_fact}
use Rattle.tables.specs.Tables.{ForRightByKind, ForRightByPlace}
use Rattle.states.proofs.Looking.{list_looked}
use Rattle.observerecords.proofs.Ready.{held_count, step_found, alone_err, alone_ok, passed_done, cut_done}
use Rattle.observerecords.proofs.observe_step.Goals as goal

pub returns-in_err-listed-clause-answer_value : goal.returns-in_err-listed-clause-answer_value
unfolding ForRightByKind
returns-in_err-listed-clause-answer_value c = let p = err_from_is_err_and c.from_residual.result c.from_residual.ensures.1 in
    rw (p.1, p.2) (alone_err c.args.book.now c.args.c _ c.in_err-listed.field-0.0 (c.in_err-listed.ensures _ c.requires.0.readable.kinds))

pub went-requires : goal.went-requires
unfolding ForRightByKind
went-requires c = let p = c.requires.0 in
    let w = step_found _ _ _ _ p _ _ (c.in_ok-listed.ensures _ p.readable.kinds) in
    omega (arith, w.0, p.readable.within)

pub pass_list-requires : goal.pass_list-requires
unfolding ForRightByKind
pass_list-requires c = let p = c.requires in
    let w = step_found _ _ _ _ p.0 _ _ (c.in_ok-listed.ensures _ p.0.readable.kinds) in
    ((_, p.0), w.0, p.1.long, held_count _ _ _ _ p.0 _ _ _ _ p.1)

pub returns-then-not-went : goal.returns-then-not-went
unfolding ForRightByKind
returns-then-not-went c = let p = c.requires in
    let w = c.pass_list.ensures in record {
      answer_value = w.answer_value ∙ alone_ok c.args.book.now c.args.c _ _ (c.in_ok-listed.ensures _ p.0.readable.kinds);
      good = passed_done _ _ _ _ _ _ _ _ _ _ _ p.3 (sym c.went.ensures ∙ c.if-not-went.true) w.good;
    }

pub is_whole-requires : goal.is_whole-requires
unfolding ForRightByKind
is_whole-requires c = let p = c.requires in
    let w = step_found _ _ _ _ p.0 _ _ (c.in_ok-listed.ensures _ p.0.readable.kinds) in
    (p.0.readable.within, omega (arith, w.2, p.2))

pub pass_list-requires-then-not-is_whole : goal.pass_list-requires-then-not-is_whole
unfolding ForRightByKind
pass_list-requires-then-not-is_whole c = let p = c.requires in
    let w = step_found _ _ _ _ p.0 _ _ (c.in_ok-listed.ensures _ p.0.readable.kinds) in
    ((_, p.0), w.0, p.1.long, held_count _ _ _ _ p.0 _ _ _ _ p.1)

pub returns-then-not-is_whole : goal.returns-then-not-is_whole
unfolding ForRightByKind
returns-then-not-is_whole c = let p = c.requires in
    let w = c.pass_list-then-not-is_whole.ensures in
    let f = step_found _ _ _ _ p.0 _ _ (c.in_ok-listed.ensures _ p.0.readable.kinds) in record {
      answer_value = w.answer_value ∙ alone_ok c.args.book.now c.args.c _ _ (c.in_ok-listed.ensures _ p.0.readable.kinds);
      good = cut_done _ _ _ _ _ _ _ _ _ _ _ _ w.answer_value (sym (rw (c.most_listed.ensures.0, f.2) at c.is_whole.ensures) ∙ c.if-not-is_whole.true);
    }

pub observe_list-requires : goal.observe_list-requires
unfolding ForRightByKind
observe_list-requires c = let p = c.requires in
    let w = step_found _ _ _ _ p.0 _ _ (c.in_ok-listed.ensures _ p.0.readable.kinds) in (
      (_, p.0),
      p.1,
      record { alone = w.1; list = sym (rw (c.most_listed.ensures.0, w.2) at c.is_whole.ensures) ∙ c.if-not-is_whole.false },
      sym c.went.ensures ∙ c.if-not-went.false,
      p.3,
    )

pub returns-clause-answer_value : goal.returns-clause-answer_value
unfolding ForRightByKind ForRightByPlace filed_fact
returns-clause-answer_value c = let p = c.requires in
    let w = step_found _ _ _ _ p.0 _ _ (c.in_ok-listed.ensures _ p.0.readable.kinds) in
    list_looked _ _ _ _ _ _ (sym (rw (c.most_listed.ensures.0, w.2) at c.is_whole.ensures) ∙ c.if-not-is_whole.false) c.observe_list.ensures.list_looked _ _ p.0.readable.table
    ∙ alone_ok c.args.book.now c.args.c _ _ (c.in_ok-listed.ensures _ p.0.readable.kinds)
