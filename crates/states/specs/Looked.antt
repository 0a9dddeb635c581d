-- A list of facts that is looked over while it is read for something else: when no fact of it is cut, and what is known of the whole list when the
-- cursor has come to one of its facts.
use Rattle.std.specs.Prelude.{ℕ, ◌+◌, ◌*◌, ◌≤◌, ◌≡◌, Bool, ◌&&◌, not, List, leb}
use Rattle.answer.specs.Answer.{Answer}
use Rattle.input.specs.Bytes.{two}
use Rattle.terms.specs.Facts.{no_fact}
use Rattle.terms.specs.Told.{fact_key}
use Rattle.limits.specs.Limits.{count_size, fact_size}
use Rattle.format.specs.Filed.{as_written}
use Rattle.format.specs.Lists.{list_end}
use Rattle.format.specs.States.{count_bad, facts}
use Rattle.tables.specs.Tables.{ForRightByPlace}
use Rattle.states.specs.declared.FactCursor.{FactCursor}

-- a list of no more than so many facts, none of which is cut
unfoldable pub whole_list : ℕ → List ℕ → ℕ → ℕ → Bool
whole_list most s end at = not (count_bad most s end at) && leb (list_end s at) end

-- None of the facts from the cursor on is cut; and what is answered of them is what is answered of all n facts from an offset, since those before the
-- cursor are right and in order.
pub record Looked (number : ℕ) (s table : List ℕ) (end n from : ℕ) (c : FactCursor) : Type 0 where
  pub size : c.size ≡ fact_size
  pub key : c.key ≡ fact_key c.last
  pub whole : c.at + fact_size * c.left ≤ end
  pub answers : ForRightByPlace table (λ sch ob. facts as_written number sch ob s end c.left c.last c.at ≡ facts as_written number sch ob s end n no_fact from)

-- what row 8 answers of the facts of the whole list at an offset; it is the same for every record's end that does not cut the list
abbrev pub ListLooked : List ℕ → List ℕ → ℕ → Answer → Type 0
ListLooked s table at a =
    (end : ℕ) → list_end s at ≤ end
    → ForRightByPlace table (λ sch ob. a ≡ facts as_written 8 sch ob s end (two s at) no_fact (at + count_size))
