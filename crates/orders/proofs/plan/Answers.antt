-- `plan` meets its contract: entries of one size.
use Rattle.std.proofs.Common.{◌≡◌, rules}
use Rattle.answer.specs.Walk.{entry}
use Rattle.terms.specs.Schema.{Schema, schema}
use Rattle.format.specs.Order.{plan_step, plan_step_bad}
use Rattle.tables.specs.Tables.{ForRightByKind}
use Rattle.orders.proofs.plan.Goals as goal

pub returns : goal.returns
unfolding ForRightByKind plan_step entry
returns c ob right =
    let sch : Schema = schema c.args.h c.args.book.now in
    rw (c.step_count-n.ensures, c.steps_at.ensures.0) at (c.walk_entries.ensures (plan_step_bad sch ob c.args.o.now)
    (λ at b p. let told : ForRightByKind sch c.args.kinds.now (λ ob. b ≡ plan_step_bad sch ob c.args.o.now at) = search rules in told ob right))
