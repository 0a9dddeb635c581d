-- A record without steps is refused with 24 at the offset where it would stand in the new book, whatever is wrong behind its head.
use Rattle.std.specs.Prelude.{ℕ, ◌+◌, ◌≤◌, ◌<◌, ◌≡◌, false, List, length}
use Rattle.answer.specs.Answer.{Good, Refused}
use Rattle.terms.specs.Sections.{sections_of}
use Rattle.limits.specs.Limits.{max_length, max_records}
use Rattle.format.specs.Form.{Form}
use Rattle.format.specs.Records.{steps_in, head_bad}
use Rattle.format.specs.LookOver.{look_over}
use Rattle.jobs.specs.Add.{add}

-- `s` a good book that has room for a record more, `r` the record's bytes, `size` that of the lent output
abbrev pub SteplessIsRefused : Type 0
SteplessIsRefused =
    (form : Form) (s r : List ℕ) (size n : ℕ) → look_over form s ≡ Good n → (sections_of s).records.count < max_records → length s + length r ≤ max_length
    → head_bad r 0 ≡ false → steps_in r 0 ≡ 0 → add form s r size ≡ Refused 24 (length s)
