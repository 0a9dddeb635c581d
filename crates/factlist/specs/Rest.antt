-- The facts of a list that are yet to come at a cursor, and the next of them.
use Rattle.std.specs.Prelude.{ℕ, ◌+◌, ◌-◌, ◌*◌, ◌<◌, ◌≤◌, ◌≡◌, List, ◌∷◌, length}
use Rattle.terms.specs.declared.Fact.{Fact}
use Rattle.limits.specs.Limits.{fact_size, far_ceiling}
use Rattle.format.specs.Lists.{facts_at}
use Rattle.factlist.specs.declared.ListCursor.{ListCursor}

-- the facts that are yet to come
unfoldable pub rest : List ℕ → ListCursor → List Fact
rest s c = facts_at s c.left c.at

-- they lie within the bytes
pub record FactsWithin (s : List ℕ) (c : ListCursor) : Type 0 where
  pub within : c.at + fact_size * c.left ≤ length s
  pub near : c.at + fact_size * c.left ≤ far_ceiling

-- after the next fact
unfoldable pub next : ListCursor → ListCursor
next c = record { at = c.at + fact_size; left = c.left - 1 }

-- the fact f comes next
pub record Comes (s : List ℕ) (c : ListCursor) (f : Fact) : Type 0 where
  pub first : rest s c ≡ f ∷ rest s (next c)
  pub ahead : FactsWithin s (next c)
  pub less : (next c).left < c.left
