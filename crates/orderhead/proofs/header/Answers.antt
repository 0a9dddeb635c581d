-- `header` meets its contract: the rows in order.
use Rattle.std.proofs.Common.{◌≡◌, true, false, sym, ◌∙◌}
use Rattle.answer.proofs.Laws.{refuse_met, refuse_unmet}
use Rattle.limits.specs.Limits.{max_starts}
use Rattle.terms.specs.Schema.{out_of_range}
use Rattle.format.specs.Order.{start_count, order_counts_bad, order_offsets_bad, order_header}
use Rattle.orderhead.proofs.header.Goals as goal
use Rattle.orderhead.proofs.header.Goals.{After-out_of_range}

counted : (c : After-out_of_range) → order_counts_bad c.args.o.now ≡ false
counted c = sym c.counts_bad.ensures ∙ c.if-counts_bad.false

started : (c : After-out_of_range) → out_of_range max_starts (start_count c.args.o.now) ≡ c.out_of_range.result
started c = sym (rw c.start_count.ensures at c.out_of_range.ensures)

pub returns-then-counts_bad : goal.returns-then-counts_bad
unfolding order_header
returns-then-counts_bad c = let counts : order_counts_bad c.args.o.now ≡ true = sym c.counts_bad.ensures ∙ c.if-counts_bad.true in
    rw c.at.ensures (sym (refuse_met _ _ _ _ counts))

pub returns-then-out_of_range : goal.returns-then-out_of_range
unfolding order_header
returns-then-out_of_range c = let d = (goal.at.returns-then-out_of_range c).After-out_of_range in
    rw c.at-then-out_of_range.ensures (sym (refuse_unmet _ _ _ _ (counted d) ∙ refuse_met _ _ _ _ (started d ∙ c.if-out_of_range.true)))

pub returns-then-offsets_bad : goal.returns-then-offsets_bad
unfolding order_header
returns-then-offsets_bad c = let d = (goal.at.returns-then-offsets_bad c).After-out_of_range in
    let offsets : order_offsets_bad c.args.o.now ≡ true = sym c.offsets_bad.ensures ∙ c.if-offsets_bad.true in
    rw c.at-then-offsets_bad.ensures
    (sym (refuse_unmet _ _ _ _ (counted d) ∙ refuse_unmet _ _ _ _ (started d ∙ c.if-out_of_range.false) ∙ refuse_met _ _ _ _ offsets))

pub returns : goal.returns
unfolding order_header
returns c = let d = (goal.at.returns c).After-out_of_range in
    let offsets : order_offsets_bad c.args.o.now ≡ false = sym c.offsets_bad.ensures ∙ c.if-offsets_bad.false in
    sym (refuse_unmet _ _ _ _ (counted d) ∙ refuse_unmet _ _ _ _ (started d ∙ c.if-out_of_range.false) ∙ refuse_unmet _ _ _ _ offsets)
