-- `turning::turn_list` meets its contract: the rest of the facts turned give what all give from the state lent.
use Prim.Native.Nat.{◌+◌}
use mathlib.Core.Path.{◌≡◌}
use lib.ListN.{length}
use Rattle.input.specs.Bytes.{two}
use Rattle.limits.specs.Limits.{count_size, state_size}
use Rattle.mask.specs.Sets.{cardinality}
use Rattle.format.specs.Lists.{list_at}
use Rattle.turning.specs.Turning.{flipped, Numbered}
use Rattle.turning.proofs.Turns.{left_of}
use Rattle.turning.proofs.turn_list.Given as goal

abbrev pub invariant-loop-i : goal.invariant-loop-i
invariant-loop-i l =
    (length l.state ≡ state_size)
    × (l.count ≡ cardinality l.state)
    × Numbered (left_of l.s (two l.s l.from) (l.from + count_size) l.i)
    × (flipped (left_of l.s (two l.s l.from) (l.from + count_size) l.i) l.state ≡ flipped (list_at l.s l.from) l.initial.state)
