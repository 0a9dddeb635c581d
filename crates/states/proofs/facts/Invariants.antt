-- `facts` meets its contract: facts still left at the cursor, and those that are cut behind them, answer as all of them do.
use Prim.Native.Nat.{ℕ, ◌+◌, ◌-◌, ◌*◌, ◌≤◌}
use mathlib.Core.Path.{◌≡◌}
use Rattle.terms.specs.Facts.{no_fact}
use Rattle.terms.specs.Told.{fact_key}
use Rattle.limits.specs.Limits.{fact_size}
use Rattle.format.specs.Filed.{as_written}
use Rattle.format.specs.States.{facts}
use Rattle.tables.specs.Tables.{ForRightByPlace}
use Rattle.states.proofs.facts.Given as goal

abbrev pub invariant-loop-c : goal.invariant-loop-c
invariant-loop-c l =
    (l.c.size ≡ fact_size)
    × (l.c.key ≡ fact_key l.c.last)
    × (l.c.at + fact_size * l.c.left ≡ l.from + fact_size * l.whole)
    × (l.c.left ≤ l.whole)
    × (fact_size * l.whole ≤ l.end - l.from)
    × ((number : ℕ) → ForRightByPlace l.table (λ sch ob. facts as_written number sch ob l.t l.end (l.c.left + (l.n - l.whole)) l.c.last l.c.at ≡ facts as_written number sch ob l.t l.end l.n no_fact l.from))

abbrev pub decreases-loop-c : goal.decreases-loop-c
decreases-loop-c l = l.c.left
