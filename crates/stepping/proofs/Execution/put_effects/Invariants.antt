-- `stepping::Execution::put_effects` meets its contract: the state has the effects of the relations so far.
use Rattle.std.proofs.Common.{◌≡◌, ◌*◌}
use Rattle.mask.specs.Bits.{Bytes}
use Rattle.terms.specs.Schema.{schema}
use Rattle.stepping.specs.Stepping.{next_below}
use Rattle.statemask.specs.Statemask.{rules_in}
use Rattle.stepping.proofs.Execution.put_effects.Given as goal

abbrev pub invariant-loop-r : goal.invariant-loop-r
invariant-loop-r l = Bytes l.initial.state × (l.state ≡ next_below (schema l.self.h l.self.book.now) (rules_in l.self.rules.now) l.self.step l.initial.state (16 * l.r))
