-- What a call of `add` promises, for all inputs: `s` the old book, `r` the record's bytes, `old` and `new` the lent output before and after it.
use Rattle.std.specs.Prelude.{◌≡◌, List, ℕ, length}
use Rattle.answer.specs.Answer.{Answer}
use Rattle.jobs.specs.Add.{add, add_bytes}
use Rattle.format.specs.Form.{Form}

pub record AddOutcome (form : Form) (s r old new : List ℕ) (a : Answer) : Type 0 where
  pub says : a ≡ add form s r (length old)
  pub bytes : new ≡ add_bytes form s r old
