-- Rows that looking over a record and learning from it both meet. What stands before these rows, each of the two reads in its own way.
use Rattle.std.specs.Prelude.{ℕ, ◌+◌, ◌≤◌, ◌≡◌, Bool, false, cond, ◌&&◌, not, List, length, eqb, ltb}
use Rattle.limits.specs.Limits.{max_length, max_facts, step_size}
use Rattle.answer.specs.Answer.{Answer, Good, ◌>>=◌, refuse}
use Rattle.input.specs.Bytes.{two}
use Rattle.terms.specs.Facts.{same_facts}
use Rattle.format.specs.Form.{Form}
use Rattle.format.specs.Lists.{list_at, list_end}
use Rattle.format.specs.Filed.{went_at}

-- row 27 of the step at an offset, by the lists: in a full book the list before it, which stands at `pre`, is not the one behind it; in a short book
-- the one behind it is not empty
unfoldable pub changes_listed : Form → List ℕ → ℕ → ℕ → Bool
changes_listed form s pre at =
    not (went_at s at) && cond form (not (eqb (two s (at + step_size)) 0)) (not (same_facts (list_at s pre) (list_at s (at + step_size))))

-- What row 27 asks of the bytes: a step with the list behind it, and in a full book the list before it, end within the book, and their offsets can be
-- added to.
pub record StepsListed (s : List ℕ) (form : Form) (pre at : ℕ) : Type 0 where
  pub before : form ≡ false → (pre ≤ max_length) × (list_end s pre ≤ length s)
  pub behind : list_end s (at + step_size) ≤ length s
  pub near : at ≤ max_length

-- The step at an offset, once the list behind it is good, by how many facts hold after it, and whether it changes what it may not: row 8, at the list's
-- count, where they are too many; row 27; else where the next step starts.
unfoldable pub step_after : ℕ → ℕ → Bool → ℕ → Answer
step_after at held changes next = do
  _ ← refuse (ltb max_facts held) 8 (at + step_size)
  _ ← refuse changes 27 at
  Good next

-- the book, once its last record has ended: row 6 where bytes are left, else the count of all steps
unfoldable pub book_end : List ℕ → ℕ → ℕ → Answer
book_end s last total = do
  _ ← refuse (ltb last (length s)) 6 last
  Good total
