-- `conflicts::conflict_among` meets its contract: no move up to number i has a conflict.
use Rattle.std.proofs.Common.{◌≡◌}
use Rattle.quantify.specs.Quantify.{least}
use Rattle.observed.specs.Rules.{conflict_observed}
use Rattle.conflicts.proofs.conflict_among.Given as goal

abbrev pub invariant-loop-i : goal.invariant-loop-i
invariant-loop-i l = least l.i (conflict_observed l.observed) ≡ 0
