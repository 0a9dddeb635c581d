-- How the steps and the facts of a record are read. Those of an order are what their bytes say: `step_at`, `as_written`.
use Rattle.std.specs.Prelude.{ℕ, ◌-◌, Bool, cond, List, ltb}
use Rattle.input.specs.Bytes.{byte_at}
use Rattle.limits.specs.Limits.{failed_mark}
use Rattle.terms.specs.declared.Fact.{Fact}
use Rattle.terms.specs.declared.Step.{Step}
use Rattle.terms.specs.Steps.{step_at}
use Rattle.format.specs.Form.{Form}

-- the step at an offset went: its move byte has no mark. One with the mark did not go: its execution failed
unfoldable pub went_at : (s : List ℕ) (at : ℕ) → Bool
went_at s at = ltb (byte_at s at) failed_mark

-- a move byte without the mark
unfoldable pub unmarked : ℕ → ℕ
unmarked b = cond (ltb b failed_mark) b (b - failed_mark)

-- a step of a record, from its five bytes: its move is that without the mark
unfoldable pub filed_step_at : (s : List ℕ) (at : ℕ) → Step
filed_step_at s at = record { action = record { 0 = unmarked (byte_at s at) }; binding = (step_at s at).binding }

-- a fact as its three bytes say
abbrev pub as_written : Fact → Fact
as_written = λ f. f

-- a fact of a state of a record, by the form of the book: in both as its bytes say
unfoldable pub filed_fact : Form → Fact → Fact
filed_fact form = as_written
