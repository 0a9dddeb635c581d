-- `place_set` meets its contract: the place is used, or it is not.
use mathlib.Core.Path.{sym, ◌∙◌}
use Rattle.tables.proofs.Laws.{place_used, place_unused}
use Rattle.tables.proofs.place_set.Goals as goal

pub returns-then-i-places : goal.returns-then-i-places
returns-then-i-places c = c.entry.ensures ∙ sym (place_used _ _ _ _ _ c.places.ensures _ c.place_kind.ensures c.if-i-places.true)

pub returns-else-i-places : goal.returns-else-i-places
returns-else-i-places c = sym (place_unused _ _ _ _ _ c.places.ensures c.if-i-places.false)
