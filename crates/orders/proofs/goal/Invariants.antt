-- `goal` meets its contract: the entries still left at the cursor answer as all of them do.
use Prim.Native.Nat.{◌+◌, ◌*◌, ◌≤◌}
use mathlib.Core.Path.{◌≡◌}
use lib.ListN.{length}
use Rattle.terms.specs.Facts.{no_fact}
use Rattle.terms.specs.Told.{fact_key}
use Rattle.limits.specs.Limits.{entry_size, near_ceiling}
use Rattle.format.specs.Order.{goal_count, goal_at, entries}
use Rattle.tables.specs.Tables.{ForRightByPlace}
use Rattle.orders.proofs.goal.Given as goal

abbrev pub invariant-loop-c : goal.invariant-loop-c
invariant-loop-c l =
    (l.c.size ≡ entry_size)
    × (l.c.key ≡ fact_key l.c.last)
    × (l.c.at + entry_size * l.c.left ≤ length l.o)
    × (l.c.at + entry_size * l.c.left ≤ near_ceiling)
    × ForRightByPlace l.table (λ sch ob. entries sch ob l.o l.c.left l.c.last l.c.at ≡ entries sch ob l.o (goal_count l.o) no_fact (goal_at l.o))

abbrev pub decreases-loop-c : goal.decreases-loop-c
decreases-loop-c l = l.c.left
