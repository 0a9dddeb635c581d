-- `output::write_bytes` meets its contract: the first i bytes are copied.
use mathlib.Core.Path.{◌≡◌}
use lib.ListN.{length}
use Rattle.output.proofs.Written.{copied}
use Rattle.output.proofs.write_bytes.Given as goal

abbrev pub invariant-loop-i : goal.invariant-loop-i
invariant-loop-i l = (length l.part ≡ length l.initial.part) × (l.part ≡ copied l.initial.part l.at l.bytes l.i)
