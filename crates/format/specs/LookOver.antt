-- Looking over a book: rows 1 to 10 and 27, and the count of all steps.
use Rattle.std.specs.Prelude.{ℕ, zero, suc, ◌+◌, List, length, ltb}
use Rattle.answer.specs.Answer.{Answer, Good, ◌>>=◌, refuse}
use Rattle.answer.specs.Walk.{walk}
use Rattle.terms.specs.declared.Sections.{Sections}
use Rattle.terms.specs.Sections.{sections_of}
use Rattle.format.specs.Form.{Form}
use Rattle.format.specs.Header.{sections}
use Rattle.format.specs.Records.{steps_in, length_in, record_at}

-- the sum of the step counts recorded in a number of records from an offset
unfoldable pub step_total : List ℕ → ℕ → ℕ → ℕ
step_total s zero at = 0
step_total s (suc n) at = steps_in s at + step_total s n (at + length_in s at)

-- a number of records from an offset, and no bytes after them
unfoldable pub all_records : Form → Sections → List ℕ → ℕ → ℕ → Answer
all_records form h s n from = do
  last ← walk (record_at form h s) n from
  _ ← refuse (ltb last (length s)) 6 last
  Good (step_total s n from)

-- rows 1 to 5, then all records
unfoldable pub look_over_by : Form → Sections → List ℕ → Answer
look_over_by form h s = do
  _ ← sections h s
  all_records form h s h.records.count h.records.at

unfoldable pub look_over : Form → List ℕ → Answer
look_over form s = look_over_by form (sections_of s) s
