-- The state that a list of facts is: which facts hold, by their numbers.
use Rattle.std.specs.Prelude.{ℕ, Bool, List, eqb}
use Rattle.quantify.specs.Quantify.{any}
use Rattle.terms.specs.declared.Fact.{Fact}
use Rattle.terms.specs.Facts.{fact_number}

unfoldable pub holding : List Fact → ℕ → Bool
holding fs n = any (λ f. eqb (fact_number f) n) fs
