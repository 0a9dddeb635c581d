-- `parents` meets its contract: entries of one size.
use Rattle.std.proofs.Common.{rules}
use Rattle.answer.specs.Walk.{entry}
use Rattle.format.specs.Header.{parent, parent_bad}
use Rattle.sections.proofs.parents.Goals as goal

pub returns : goal.returns
unfolding parent entry
returns c = c.walk_entries.ensures (parent_bad c.args.s.now) (λ at b p. search rules)
