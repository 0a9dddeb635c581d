-- `stepmasks::look_rest` meets its contract: a loop of facts that are looked over and `MarkedTo` a cursor.
use Prim.Native.Nat.{ℕ}
use mathlib.Core.Path.{◌≡◌}
use Rattle.limits.specs.Limits.{fact_size}
use Rattle.terms.specs.Told.{fact_key}
use Rattle.states.specs.Looked.{Looked}
use Rattle.stepmasks.specs.Marks.{plain}
use Rattle.stepmasks.proofs.Facts.{MarkedTo}
use Rattle.stepmasks.proofs.look_rest.Given as goal

abbrev pub invariant-loop-c : goal.invariant-loop-c
invariant-loop-c l =
    MarkedTo l.s l.lift.atoms.now l.lift.binding l.initial.m (plain l.initial.c) l.m (plain l.c) l.changed
    × (l.c.size ≡ fact_size)
    × (l.c.key ≡ fact_key l.c.last)
    × ((end n from : ℕ) → Looked 8 l.s l.table end n from l.initial.c → Looked 8 l.s l.table end n from l.c)

abbrev pub decreases-loop-c : goal.decreases-loop-c
decreases-loop-c l = l.c.left
