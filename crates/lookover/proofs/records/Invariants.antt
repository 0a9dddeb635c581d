-- `lookover::records` meets its contract: the records that are left answer as all of them do.
use Prim.Native.Nat.{◌+◌, ◌-◌, ◌*◌, ◌≤◌}
use mathlib.Core.Path.{◌≡◌}
use Rattle.answer.specs.Walk.{walk}
use Rattle.limits.specs.Limits.{max_length}
use Rattle.format.specs.Records.{record_at}
use Rattle.format.specs.LookOver.{step_total}
use Rattle.lookover.proofs.records.Given as goal

abbrev pub invariant-loop : goal.invariant-loop
invariant-loop l =
    (l.at ≤ max_length)
    × (l.total ≤ 255 * l.counter)
    × (walk (record_at l.short l.h l.s) (l.n - l.counter) l.at ≡ walk (record_at l.short l.h l.s) l.n l.from)
    × (l.total + step_total l.s (l.n - l.counter) l.at ≡ step_total l.s l.n l.from)
