-- `walk_entries` meets its contract: no entry before the next one is bad.
use Rattle.std.proofs.Common.{ℕ, ◌+◌, ◌*◌, ◌<◌, false}
use Rattle.answer.proofs.walk_entries.Given as goal

abbrev pub invariant-loop-i : goal.invariant-loop-i
invariant-loop-i g l = (j : ℕ) → j < l.i → goal.F-post g l.bad (l.from + l.size * j) false
