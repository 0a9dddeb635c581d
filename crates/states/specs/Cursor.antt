-- What the methods of the cursor over facts say and ask.
use Rattle.std.specs.Prelude.{ℕ, ◌+◌, ◌-◌, ◌≤◌, ◌≡◌, Bool, ◌||◌, not, List, length}
use Rattle.terms.specs.declared.Fact.{Fact}
use Rattle.terms.specs.Schema.{Schema, TypedObjects}
use Rattle.terms.specs.Facts.{fact_at, fact_bad, precedes}
use Rattle.terms.specs.Told.{fact_key}
use Rattle.limits.specs.Limits.{fact_size, far_ceiling}
use Rattle.states.specs.declared.FactCursor.{FactCursor}

-- the item at the cursor has a fact, and lies within the bytes, at an offset that can be added to; the key is that of the fact before
pub record ItemWithin (s : List ℕ) (c : FactCursor) : Type 0 where
  pub whole : fact_size ≤ c.size
  pub within : c.at + c.size ≤ length s
  pub near : c.at + c.size ≤ far_ceiling
  pub key : c.key ≡ fact_key c.last

-- the fact at the end of that item
unfoldable pub fact_of : List ℕ → FactCursor → Fact
fact_of s c = fact_at s (c.at + (c.size - fact_size))

-- it is wrong, or not after the one before it
unfoldable pub misplaced : Schema → TypedObjects → List ℕ → FactCursor → Bool
misplaced sch ob s c = fact_bad sch ob (fact_of s c) || not (precedes c.last (fact_of s c))
