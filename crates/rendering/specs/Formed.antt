-- What forming the converted book promises: `s` the book in the form given, `new` what is formed afterwards; and the part of a record from its
-- first state on.
use Rattle.std.specs.Prelude.{ℕ, ◌≡◌, not, List, ◌++◌, length, ltb}
use Rattle.answer.specs.Answer.{Answer, Good, ◌>>=◌, refuse}
use Rattle.limits.specs.Limits.{max_length}
use Rattle.format.specs.Form.{Form}
use Rattle.format.specs.Lists.{list_at, list_end}
use Rattle.format.specs.Decode.{recorded_steps_at}
use Rattle.jobs.specs.Convert.{list_bytes, steps_bytes, converted}

-- a state, and a number of steps from it on, in the other form than the book's
unfoldable pub trajectory_bytes : Form → List ℕ → ℕ → ℕ → List ℕ
trajectory_bytes form s n at = list_bytes (list_at s at) ++ steps_bytes (not form) (recorded_steps_at form s n (list_at s at) (list_end s at))

pub record ConvertedFormed (form : Form) (s new : List ℕ) (r : Answer) : Type 0 where
  -- row 23, then the length of the converted book
  pub says : r ≡ (refuse (ltb max_length (length (converted (not form) s))) 23 0 >>= λ _. Good (length (converted (not form) s)))
  pub bytes : (m : ℕ) → r ≡ Good m → new ≡ converted (not form) s
