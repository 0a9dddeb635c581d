-- `put_object` meets its contract: the object is in the sets of the kinds looked at, and those above are still to come.
use Rattle.std.proofs.Common.{◌-◌, ◌<◌}
use Rattle.limits.specs.Limits.{max_kinds}
use Rattle.terms.specs.Schema.{schema}
use Rattle.tables.proofs.Climb.{Climbing}
use Rattle.tables.proofs.put_object.Given as goal

abbrev pub invariant-loop : goal.invariant-loop
invariant-loop l = (l.k < 256) × Climbing (schema l.h l.book) l.kind l.x l.initial.kinds (max_kinds - l.counter) l.k l.kinds
