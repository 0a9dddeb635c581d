-- `relations` meets its contract: entries of one size.
use Rattle.std.proofs.Common.{rules}
use Rattle.answer.specs.Walk.{entry}
use Rattle.format.specs.Header.{relation, relation_bad}
use Rattle.sections.proofs.relations.Goals as goal

pub returns : goal.returns
unfolding relation entry
returns c = c.walk_entries.ensures (relation_bad c.args.s.now c.args.kinds) (λ at b p. search rules)
