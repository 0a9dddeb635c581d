-- `streams::fill` ends: each turn gives a byte or takes a pause.
use Rattle.std.proofs.Common.{length, ◌-◌, ◌≤◌, ◌+◌, ◌*◌}
use Rattle.streams.specs.declared.TheConstants.{MOST_PAUSES}
use Rattle.streams.proofs.fill.Given as goal

abbrev pub invariant-loop-done : goal.invariant-loop-done
invariant-loop-done g l = (l.done ≤ length l.initial.bytes) × (l.pauses ≤ MOST_PAUSES)

-- a byte weighs more than all pauses
abbrev pub decreases-loop-done : goal.decreases-loop-done
decreases-loop-done g l = (MOST_PAUSES + 1) * (length l.initial.bytes - l.done) + l.pauses
