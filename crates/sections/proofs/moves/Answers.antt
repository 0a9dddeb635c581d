-- `moves` meets its contract: entries of one size.
use Rattle.std.proofs.Common.{rules}
use Rattle.answer.specs.Walk.{entry}
use Rattle.format.specs.Header.{move, move_bad}
use Rattle.sections.proofs.moves.Goals as goal

pub returns : goal.returns
unfolding move entry
returns c = c.walk_entries.ensures (move_bad c.args.s.now c.args.kinds) (λ at b p. search rules)
