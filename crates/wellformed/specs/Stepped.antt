-- What good form says of the records of a book: none is without a step.
use Rattle.std.specs.Prelude.{ℕ, ◌≤◌, ◌≡◌, List, length}
use Rattle.answer.specs.Answer.{Good}
use Rattle.format.specs.Form.{Form}
use Rattle.format.specs.Records.{steps_in}
use Rattle.format.specs.LookOver.{look_over}
use Rattle.format.specs.Decode.{steps_of_record}
use Rattle.format.specs.Parts.{records_of}
use Rattle.quantify.specs.Quantify.{Mem}

-- every record of a good book has as many steps as its head says, and at least one; a record is its bytes
abbrev pub EveryRecordHasAStep : Type 0
EveryRecordHasAStep =
    (form : Form) (s : List ℕ) (n : ℕ) → look_over form s ≡ Good n → (r : List ℕ) → Mem r (records_of s)
    → (length (steps_of_record form r 0) ≡ steps_in r 0) × (1 ≤ steps_in r 0)
