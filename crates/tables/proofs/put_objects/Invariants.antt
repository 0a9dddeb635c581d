-- `put_objects` meets its contract: the objects below x are in the table.
use Rattle.std.proofs.Common.{◌+◌, ◌-◌}
use Rattle.input.specs.Bytes.{byte_at}
use Rattle.terms.specs.Schema.{schema}
use Rattle.tables.proofs.Turns.{RightByKindTo}
use Rattle.tables.proofs.put_objects.Given as goal

abbrev pub invariant-loop-x : goal.invariant-loop-x
invariant-loop-x l = RightByKindTo (schema l.h l.book) (λ y. byte_at l.s (l.objects.at + (y - 1))) l.x l.kinds
