-- `starts::run_each` meets its contract: the starts still left answer as all of them do.
use Rattle.std.proofs.Common.{◌≡◌, ◌+◌, ◌-◌}
use Rattle.terms.specs.Schema.{schema}
use Rattle.format.specs.Order.{start_count, step_count, starts_from}
use Rattle.jobs.specs.Check.{first_failing}
use Rattle.statemask.specs.Statemask.{rules_in}
use Rattle.starts.specs.Starts.{answer_from, StartsGood, answer_each}
use Rattle.starts.proofs.run_each.Given as goal

abbrev pub invariant-loop-i : goal.invariant-loop-i
invariant-loop-i l =
    StartsGood l.o (start_count l.o - l.i-counter) l.at
    × (first_failing (answer_from (schema l.h l.book) (rules_in l.rules) l.o) (step_count l.o) (l.i-counter + 1) (starts_from l.o (start_count l.o - l.i-counter) l.at) ≡ answer_each (schema l.h l.book) (rules_in l.rules) l.o)
