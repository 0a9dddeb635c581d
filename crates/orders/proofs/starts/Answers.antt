-- `starts` meets its contract: the starts still left answer as all of them do, and each ends before the goal entries.
use Rattle.std.proofs.Common.{◌≡◌, ◌-◌, ◌+◌, ◌∙◌, refl, rules, arith}
use Rattle.std.proofs.lemmas.Result.{err_from_is_err_and}
use Rattle.answer.specs.Refusal.{answer_of}
use Rattle.answer.proofs.Results.{ok_is, turn_err, turn_ok}
use Rattle.answer.proofs.Turns.{turn_none}
use Rattle.terms.specs.Schema.{Schema, TypedObjects}
use Rattle.format.specs.Filed.{as_written}
use Rattle.format.specs.States.{state}
use Rattle.format.specs.Order.{start_count, goal_at}
use Rattle.format.proofs.States.{list_within}
use Rattle.tables.specs.Tables.{ForRightByPlace, RightByPlace, RightForSome}
use Rattle.orders.proofs.Tests.{as_start}
use Rattle.orders.proofs.starts.Goals as goal
use Rattle.orders.proofs.starts.Goals.{After-map_err}

pub loop-init : goal.loop-init
unfolding ForRightByPlace
loop-init c = let left : start_count c.args.o.now - 0 ≡ start_count c.args.o.now = omega arith in
    (omega arith, λ sch ob right. rw (left, c.start_at-at.ensures.0) refl)

pub state-requires : goal.state-requires
state-requires c = omega arith

-- what the start that is looked at comes to
looked : (c : After-map_err) (sch : Schema) (ob : TypedObjects) → RightByPlace sch ob c.args.table.now
    → answer_of c.map_err.result ≡ state as_written 16 sch ob c.args.o.now (goal_at c.args.o.now) c.loop.at
unfolding ForRightByPlace
looked c sch ob right = as_start _ _ _ c.map_err.ensures.cases (λ w e q. search rules) ∙ rw c.goal_at-end.ensures.0 at (c.state.ensures 16 sch ob right)

pub returns-in_err-at : goal.returns-in_err-at
unfolding ForRightByPlace
returns-in_err-at c sch ob right = let p = err_from_is_err_and c.from_residual.result c.from_residual.ensures.1 in
    rw (p.1, p.2)
    (turn_err _ _ _ _ (c.loop.invariant.1 sch ob right) (omega arith) _ (looked (goal.at.returns-in_err-at c).After-map_err sch ob right) _ c.in_err-at.was)

pub loop-preserved : goal.loop-preserved
unfolding ForRightByPlace RightForSome
loop-preserved c = let l = (goal.at.loop-preserved c).After-map_err in
    let (sch₁, ob₁, right₁) = c.requires.1 in
    let w = list_within _ _ 16 sch₁ ob₁ _ _ _ _ (ok_is _ _ (looked l sch₁ ob₁ right₁) _ c.in_ok-at.was) in
    let left : start_count c.args.o.now - (c.loop.counter + 1) ≡ start_count c.args.o.now - c.loop.counter - 1 = omega arith in (
      omega arith,
      λ sch ob right. rw left (turn_ok _ _ _ _ (c.loop.invariant.1 sch ob right) (omega arith) _ (looked l sch ob right) _ c.in_ok-at.was),
    )

pub returns : goal.returns
unfolding ForRightByPlace
returns c sch ob right = turn_none _ _ _ _ (c.loop.invariant.1 sch ob right) (omega arith)
