-- `put_objects` meets its contract: the objects below x are in the table.
use native.Mathlib.Omega.{arith}
use Rattle.terms.specs.Schema.{typed_objects}
use Rattle.tables.proofs.Turns.{RightByKindTo, kinds_none, kinds_turn}
use Rattle.tables.proofs.Laws.{kinds_right}
use Rattle.tables.proofs.put_objects.Goals as goal

pub loop-x-init : goal.loop-x-init
loop-x-init c = kinds_none _ _ _ c.requires.2

pub put_object-requires : goal.put_object-requires
unfolding RightByKindTo
put_object-requires c = (omega arith, c.loop-x.invariant.0)

pub loop-x-preserved : goal.loop-x-preserved
loop-x-preserved c = kinds_turn _ _ _ _ _ _ c.loop-x.invariant (omega arith) c.byte_at-kind.ensures c.put_object.ensures

pub returns : goal.returns
unfolding typed_objects
returns c = kinds_right _ _ _ _ (omega arith) c.loop-x.invariant
