-- `stepping::Execution::is_inapplicable` meets its contract: no need of the relations so far is unmet.
use Rattle.std.proofs.Common.{◌≡◌, ◌*◌, false}
use Rattle.terms.specs.Schema.{schema}
use Rattle.statemask.specs.Statemask.{rules_in}
use Rattle.stepping.proofs.Needs.{unmet_below}
use Rattle.stepping.proofs.Execution.is_inapplicable.Given as goal

abbrev pub invariant-loop-r : goal.invariant-loop-r
invariant-loop-r l = unmet_below (schema l.self.h l.self.book.now) (rules_in l.self.rules.now) l.self.step l.state (16 * l.r) ≡ false
