-- What a list comes to, as an answer under a number of the refusal table.
use Rattle.std.specs.Prelude.{ℕ, Result, Ok, Err}
use Rattle.answer.specs.Answer.{Answer, Good, Refused}
use Rattle.states.specs.declared.WrongFact.{WrongFact}

abbrev pub refused_as : ℕ → Result ℕ WrongFact → Answer
refused_as number (Ok n) = Good n
refused_as number (Err w) = Refused number w.0
