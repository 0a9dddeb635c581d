-- Cases of the facts that are right for an order, like the marked ones: their bits alone may be set in its end sheet.
use Rattle.std.specs.Prelude.{ℕ, cond, List, [], ◌∷◌, map}
use Rattle.terms.specs.declared.Fact.{Fact}
use Rattle.terms.specs.Schema.{typed_objects}
use Rattle.terms.specs.Facts.{fact_bad, fact_number}
use Rattle.format.specs.Form.{full}
use Rattle.format.specs.Order.{order_objects}
use Rattle.jobs.specs.Planning.{schema_of, start_states}
use Rattle.jobs.specs.Check.{order_run}
use Rattle.cases.specs.Marked.{book, rolls_of, Case, values_from}

abbrev fact : ℕ → ℕ → ℕ → Fact
fact relation first second = record { relation = record { 0 = relation }; first = record { 0 = first }; second = record { 0 = second } }

-- in the hall of M2: the bank at spot 4; at itself; a spot at a spot; a fifth object clear; spot 2 clear; spot 2 clear with an object too many; a third
-- relation
abbrev facts : List Fact
facts = fact 1 1 4 ∷ fact 1 1 1 ∷ fact 1 2 3 ∷ fact 2 5 0 ∷ fact 2 2 0 ∷ fact 2 2 2 ∷ fact 3 1 0 ∷ []

-- whether each of them is right there; and M2's end state, in which the two that are right hold
abbrev pub right_bits : List Case
right_bits =
    record { gives = map (λ f. cond (fact_bad (schema_of book) (typed_objects (order_objects (rolls_of 1)) (rolls_of 1)) f) 0 1) facts; wanted = 1 ∷ 0 ∷ 0 ∷ 0 ∷ 1 ∷ 0 ∷ 0 ∷ [] }
    ∷ record { gives = values_from (map (order_run full book (rolls_of 1)) (start_states (rolls_of 1))) (map fact_number facts); wanted = 1 ∷ 0 ∷ 0 ∷ 0 ∷ 1 ∷ 0 ∷ 0 ∷ [] }
    ∷ []
