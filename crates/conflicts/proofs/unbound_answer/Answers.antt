-- `conflicts::unbound_answer` meets its contract: both cases of the definition.
use Rattle.std.proofs.Common.{rules}
use Rattle.observed.specs.Rules.{unbound_answer}
use Rattle.conflicts.proofs.Refusals.{unbound_named}
use Rattle.conflicts.proofs.unbound_answer.Goals as goal

pub returns-then-named-eq0 : goal.returns-then-named-eq0
unfolding unbound_answer
returns-then-named-eq0 c = search rules

pub returns : goal.returns
returns c = rw c.at.ensures (unbound_named _ c.if-named-eq0.false)
