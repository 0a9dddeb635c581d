-- `objects` meets its contract: entries of one size.
use Rattle.std.proofs.Common.{rules}
use Rattle.answer.specs.Walk.{entry}
use Rattle.input.specs.Bytes.{byte_at}
use Rattle.terms.specs.Schema.{out_of_range}
use Rattle.format.specs.Order.{order_object}
use Rattle.orders.proofs.objects.Goals as goal

pub returns : goal.returns
unfolding order_object entry
returns c = rw c.object_count-n.ensures at (c.walk_entries.ensures (λ at. out_of_range c.args.kinds (byte_at c.args.o.now at)) (λ at b p. search rules))
