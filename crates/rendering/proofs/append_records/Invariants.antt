-- `append_records` meets its contract: a loop of `Filing` records.
use Prim.Native.Nat.{◌-◌}
use mathlib.Core.Path.{◌≡◌}
use mathlib.Core.Bool.{not}
use lib.ListN.{length}
use Rattle.jobs.specs.Convert.{records_bytes}
use Rattle.rendering.specs.Held.{state_list_size}
use Rattle.rendering.proofs.Records.{Filing}
use Rattle.rendering.proofs.append_records.Given as goal

abbrev pub invariant-loop : goal.invariant-loop
invariant-loop l =
    Filing l.short l.book (records_bytes (not l.short) l.book l.n l.from) l.initial.new (l.n - l.counter) l.at l.new × (length l.state ≡ state_list_size)
