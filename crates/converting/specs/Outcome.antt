-- What a call of `convert` promises, for all inputs: `s` the book, of form `form`, `old` and `new` the lent output before and after it.
use Rattle.std.specs.Prelude.{◌≡◌, not, List, ℕ, length}
use Rattle.answer.specs.Answer.{Answer}
use Rattle.format.specs.Form.{Form}
use Rattle.jobs.specs.Convert.{convert, convert_bytes}

pub record ConvertOutcome (form : Form) (s old new : List ℕ) (a : Answer) : Type 0 where
  pub says : a ≡ convert (not form) s (length old)
  pub bytes : new ≡ convert_bytes (not form) s old
