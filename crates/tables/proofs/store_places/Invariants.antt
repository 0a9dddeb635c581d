-- `store_places` meets its contract: the relations below r are in the table.
use Rattle.terms.specs.Schema.{schema}
use Rattle.tables.specs.Tables.{place_set}
use Rattle.tables.proofs.Turns.{RowsTo}
use Rattle.tables.proofs.store_places.Given as goal

abbrev pub invariant-loop-r : goal.invariant-loop-r
invariant-loop-r l =
    RowsTo (λ q. place_set (schema l.h l.book) l.kinds (record { 0 = q }) 1) (λ q. place_set (schema l.h l.book) l.kinds (record { 0 = q }) 2) l.r l.t
