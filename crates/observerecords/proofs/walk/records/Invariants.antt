-- `walk::records` meets its contract: the records that are left, observed after those before, come to the whole.
use Prim.Native.Nat.{◌+◌, ◌-◌, ◌*◌, ◌≤◌}
use mathlib.Core.Path.{◌≡◌}
use mathlib.Core.Bool.{false}
use Rattle.answer.specs.Walk.{walk}
use Rattle.terms.specs.Schema.{schema}
use Rattle.limits.specs.Limits.{max_length}
use Rattle.format.specs.Parts.{records_at}
use Rattle.format.specs.Records.{record_at}
use Rattle.format.specs.LookOver.{step_total}
use Rattle.observed.specs.Observed.{observed_after_all}
use Rattle.observed.specs.Begun.{Begun}
use Rattle.observerecords.specs.Observing.{held_with}
use Rattle.observerecords.proofs.walk.records.Given as goal

abbrev pub invariant-loop : goal.invariant-loop
invariant-loop l =
    (l.at ≤ max_length)
    × (l.total ≤ 255 * l.counter)
    × (walk (record_at l.short l.h l.s) (l.n - l.counter) l.at ≡ walk (record_at l.short l.h l.s) l.n l.from)
    × (l.total + step_total l.s (l.n - l.counter) l.at ≡ step_total l.s l.n l.from)
    × Begun (schema l.h l.s) l.observed
    × (observed_after_all l.short (records_at l.s (l.n - l.counter) l.at) l.at (held_with l.observed l.noticed) ≡ observed_after_all l.short (records_at l.s l.n l.from) l.from (held_with l.initial.observed (record { named = 0; failed = false })))
