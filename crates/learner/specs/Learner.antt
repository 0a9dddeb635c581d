-- What the functions of the learner say of what is observed.
use Rattle.std.specs.Prelude.{ℕ, ◌≡◌, List, length, Result, IfOk}
use Rattle.answer.specs.Answer.{Answer, Good}
use Rattle.answer.specs.declared.Refusal.{Refusal}
use Rattle.format.specs.Form.{Form}
use Rattle.format.specs.LookOver.{look_over}
use Rattle.observed.specs.Observed.{observed_of}
use Rattle.jobs.specs.Learn.{learnable, learn, learn_bytes}
use Rattle.observerecords.specs.declared.noticed.Walked.{Walked}
use Rattle.observerecords.specs.Observing.{IsHeld, answer_walked}

-- rows 1 to 10 and 27, and what is held where they are good
pub record FormObserved (form : Form) (s bytes : List ℕ) (w : Result Walked Refusal) : Type 0 where
  pub says : answer_walked w ≡ look_over form s
  pub observes : IfOk w (λ x. IsHeld (observed_of form s) bytes x.noticed)

-- rows 1 to 12 and 28, and what is observed where they are good
pub record BookObserved (form : Form) (s bytes : List ℕ) (r : Answer) : Type 0 where
  pub says : r ≡ learnable form s
  pub observes : (m : ℕ) → r ≡ Good m → bytes ≡ (observed_of form s).masks

-- learning into a lent sheet: the answer, and every byte of the sheet afterwards
pub record LearnOutcome (form : Form) (s old new : List ℕ) (r : Answer) : Type 0 where
  pub says : r ≡ learn form s (length old)
  pub bytes : new ≡ learn_bytes form s old
