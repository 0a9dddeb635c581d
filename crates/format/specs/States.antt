-- Row 8: a state, as a count and facts that strictly increase; and a state after a step, by the form of the book and the facts before it. `end` is
-- where the record ends; in an order, where the starts end (row 16). `read` is how a fact is read from its bytes: a record's by `filed_fact`, an order's
-- `as_written`.
use Rattle.std.specs.Prelude.{ℕ, zero, suc, ◌+◌, Bool, ◌||◌, not, List, ltb, length}
use Rattle.answer.specs.Answer.{Answer, Good, ◌>>=◌, refuse}
use Rattle.input.specs.Bytes.{two}
use Rattle.terms.specs.declared.Fact.{Fact}
use Rattle.terms.specs.Schema.{Schema, TypedObjects}
use Rattle.terms.specs.Facts.{fact_at, fact_bad, precedes, no_fact}
use Rattle.limits.specs.Limits.{count_size, max_facts, fact_size}
use Rattle.format.specs.Filed.{filed_fact}
use Rattle.format.specs.Form.{Form, most_listed, state_after}

-- `size` bytes from `at` reach past the end
unfoldable pub cut : (end at size : ℕ) → Bool
cut end at size = ltb end (at + size)

-- a count is cut, or over the most that there may be
unfoldable pub count_bad : (most : ℕ) (s : List ℕ) (end at : ℕ) → Bool
count_bad most s end at = cut end at count_size || ltb most (two s at)

-- the fact is cut, wrong, or not after the one before it
unfoldable pub fact_refused : (read : Fact → Fact) (sch : Schema) (ob : TypedObjects) (s : List ℕ) (end : ℕ) (last : Fact) (at : ℕ) → Bool
fact_refused read sch ob s end last at = cut end at fact_size || fact_bad sch ob (read (fact_at s at)) || not (precedes last (read (fact_at s at)))

-- a number of facts, each refused with the number given at its own offset
unfoldable pub facts : (read : Fact → Fact) (num : ℕ) (sch : Schema) (ob : TypedObjects) (s : List ℕ) (end n : ℕ) (last : Fact) (at : ℕ) → Answer
facts read num sch ob s end zero last at = Good at
facts read num sch ob s end (suc n) last at = do
  _ ← refuse (fact_refused read sch ob s end last at) num at
  facts read num sch ob s end n (read (fact_at s at)) (at + fact_size)

-- a list of facts, refused with the number given at its count or at a fact
unfoldable pub list : (read : Fact → Fact) (num most : ℕ) (sch : Schema) (ob : TypedObjects) (s : List ℕ) (end at : ℕ) → Answer
list read num most sch ob s end at = do
  _ ← refuse (count_bad most s end at) num at
  facts read num sch ob s end (two s at) no_fact (at + count_size)

-- a record's first state, and a start of an order
abbrev pub state : (read : Fact → Fact) (num : ℕ) (sch : Schema) (ob : TypedObjects) (s : List ℕ) (end at : ℕ) → Answer
state read num sch ob s end at = list read num max_facts sch ob s end at

-- a state after a step: its list; then, if more facts hold than a state may have, it is refused at the offset of the list's count
unfoldable pub next_state : (form : Form) (sch : Schema) (ob : TypedObjects) (s : List ℕ) (end : ℕ) (before : List Fact) (at : ℕ) → Answer
next_state form sch ob s end before at = do
  next ← list (filed_fact form) 8 (most_listed form) sch ob s end at
  _ ← refuse (ltb max_facts (length (state_after form s before at))) 8 at
  Good next
