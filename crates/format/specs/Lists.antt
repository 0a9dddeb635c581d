-- A list of facts as bytes, a count and then its facts: what it reads as, and where it ends. What a list after a step says of the state, Form has.
-- Decoding is total, and means something where the list is of good form (States).
use Rattle.std.specs.Prelude.{ℕ, zero, suc, ◌+◌, ◌*◌, List, [], ◌∷◌}
use Rattle.input.specs.Bytes.{two}
use Rattle.terms.specs.declared.Fact.{Fact}
use Rattle.terms.specs.Facts.{fact_at}
use Rattle.limits.specs.Limits.{count_size, fact_size}

unfoldable pub facts_at : List ℕ → ℕ → ℕ → List Fact
facts_at s zero at = []
facts_at s (suc n) at = fact_at s at ∷ facts_at s n (at + fact_size)

unfoldable pub list_at : List ℕ → ℕ → List Fact
list_at s at = facts_at s (two s at) (at + count_size)

unfoldable pub list_end : List ℕ → ℕ → ℕ
list_end s at = at + count_size + fact_size * two s at
