-- `store_places` meets its contract: the relations below r are in the table.
use native.Mathlib.Omega.{arith}
use Rattle.terms.specs.Schema.{schema}
use Rattle.tables.proofs.Turns.{rows_none, rows_turn}
use Rattle.tables.proofs.Laws.{min_is, rows_follow}
use Rattle.tables.proofs.store_places.Goals as goal

pub loop-r-init : goal.loop-r-init
loop-r-init c = rows_none _ _ _ c.requires

pub loop-r-preserved : goal.loop-r-preserved
loop-r-preserved c = rows_turn _ _ _ _ _ _ _ _ c.loop-r.invariant (omega arith) (omega (arith, min_is)) c.place_set-first.ensures c.place_set-second.ensures c.store.ensures c.store-in-loop-r.ensures

pub returns : goal.returns
unfolding schema
returns c = rows_follow _ _ _ _ (omega (arith, min_is)) c.loop-r.invariant
