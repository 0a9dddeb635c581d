-- `objects` meets its contract: entries of one size.
use mathlib.Core.Bool.{◌||◌}
use borrow.Author.Rules.{rules}
use Rattle.answer.specs.Walk.{entry}
use Rattle.input.specs.Bytes.{byte_at}
use Rattle.terms.specs.Schema.{out_of_range}
use Rattle.format.specs.States.{cut}
use Rattle.format.specs.Records.{object}
use Rattle.records.proofs.objects.Goals as goal

pub returns : goal.returns
unfolding object entry cut
returns c = c.walk_entries.ensures (λ at. cut c.args.end at 1 || out_of_range c.args.kinds (byte_at c.args.s.now at)) (λ at b p. search rules)
