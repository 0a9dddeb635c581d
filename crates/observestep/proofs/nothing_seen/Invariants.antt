-- `observestep::nothing_seen` meets its contract: the moves up to i have their first sets.
use mathlib.Core.Path.{◌≡◌}
use lib.ListN.{length}
use Rattle.limits.specs.Limits.{observed_size}
use Rattle.terms.specs.Schema.{schema}
use Rattle.observestep.proofs.Start.{Holds, first}
use Rattle.observestep.proofs.nothing_seen.Given as goal

abbrev pub invariant-loop-i : goal.invariant-loop-i
invariant-loop-i l = Holds (first (schema l.h l.book) l.i) l.observed × (length l.initial.observed ≡ observed_size)
