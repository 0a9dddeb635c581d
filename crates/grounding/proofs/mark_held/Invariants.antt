-- `grounding::mark_held` meets its contract: the relations below the end, one after the other.
use Rattle.std.proofs.Common.{◌≡◌, ◌*◌}
use Rattle.terms.specs.Schema.{schema}
use Rattle.grounding.specs.Grounding.{ForBindings}
use Rattle.grounding.proofs.Held.{held_below}
use Rattle.grounding.proofs.mark_held.Given as goal

abbrev pub invariant-loop-r : goal.invariant-loop-r
invariant-loop-r l = ForBindings l.xs (λ b. l.set ≡ held_below (schema l.h l.book) b l.atoms l.state (16 * l.r))
