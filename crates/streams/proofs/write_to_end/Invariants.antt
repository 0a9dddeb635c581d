-- `streams::write_to_end` ends: each turn takes a byte of the text or a pause.
use Rattle.std.proofs.Common.{length, ◌≤◌, ◌+◌, ◌*◌}
use Rattle.streams.specs.declared.TheConstants.{MOST_PAUSES}
use Rattle.streams.proofs.write_to_end.Given as goal

abbrev pub invariant-loop-rest : goal.invariant-loop-rest
invariant-loop-rest g l = l.pauses ≤ MOST_PAUSES

-- a byte weighs more than all pauses
abbrev pub decreases-loop-rest : goal.decreases-loop-rest
decreases-loop-rest g l = (MOST_PAUSES + 1) * length l.rest + l.pauses
