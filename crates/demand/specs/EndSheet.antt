-- The end sheet of a plan that passes, beside Demand3: the bits of no right fact of the order are 0. A fact is right for an order if its relation is one
-- of the book's and its places have objects of the order that suit (`fact_bad`).
use Rattle.std.specs.Prelude.{ℕ, ◌≡◌, true, false, List, length}
use Rattle.answer.specs.Answer.{Good, number}
use Rattle.mask.specs.Bits.{test_bit}
use Rattle.terms.specs.declared.Fact.{Fact}
use Rattle.terms.specs.Schema.{typed_objects}
use Rattle.terms.specs.Facts.{fact_bad, fact_number}
use Rattle.format.specs.Form.{Form}
use Rattle.format.specs.LookOver.{look_over}
use Rattle.format.specs.Order.{start_count, order_objects, order_form}
use Rattle.jobs.specs.Planning.{schema_of}
use Rattle.jobs.specs.Check.{check, check_bytes}

-- n is the number of a fact that is right for the order
abbrev pub RightNumber : List ℕ → List ℕ → ℕ → Type 0
RightNumber s o n = (f : Fact) × (fact_bad (schema_of s) (typed_objects (order_objects o) o) f ≡ false) × (fact_number f ≡ n)

-- each bit that is set in a sheet has such a number; the bits of no right fact are 0
pub record RightBits (s o sheet : List ℕ) : Type 0 where
  pub set : (n : ℕ) → test_bit sheet n ≡ true → RightNumber s o n
  pub others : (n : ℕ) → (RightNumber s o n → ⊥) → test_bit sheet n ≡ false

-- The end sheet is so where a plan passes, of an order of good form with one start and a book of good form.
abbrev pub EndSheetRight : Type 0
EndSheetRight = (form : Form) (s : List ℕ) (k : ℕ) → look_over form s ≡ Good k → (o : List ℕ) (m : ℕ) → order_form (schema_of s) o ≡ Good m → start_count o ≡ 1
    → (lent : List ℕ) → number (check form s o (length lent)).answer ≡ 0 → RightBits s o (check_bytes form s o lent)
