-- Looking over the new book, where the old one is of good form: it can be refused only for its record count (row 2), by the rows of the record that
-- was added, and for bytes left behind that record.
use Rattle.std.specs.Prelude.{ℕ, ◌+◌, ◌≤◌, ◌≡◌, List, length, ltb}
use Rattle.answer.specs.Answer.{Answer, Good, ◌>>=◌, refuse}
use Rattle.terms.specs.Sections.{sections_of}
use Rattle.limits.specs.Limits.{max_length, max_records}
use Rattle.format.specs.Form.{Form}
use Rattle.format.specs.Records.{steps_in, record_at}
use Rattle.format.specs.LookOver.{look_over}
use Rattle.jobs.specs.Add.{added}

-- row 2, then rows 6 to 10 and 27 of the record alone, then the book's tail; `n` is the count of the old book's steps
unfoldable pub look_record : Form → List ℕ → List ℕ → ℕ → Answer
look_record form s r n = do
  _ ← refuse (ltb max_records ((sections_of s).records.count + 1)) 2 0
  last ← record_at form (sections_of (added s r)) (added s r) (length s)
  _ ← refuse (ltb last (length s + length r)) 6 last
  Good (n + steps_in r 0)

abbrev pub OnlyTheRecord : Type 0
OnlyTheRecord = (form : Form) (s r : List ℕ) (n : ℕ) → look_over form s ≡ Good n → length s + length r ≤ max_length → look_over form (added s r) ≡ look_record form s r n
