-- A walk over a number of items from an offset, each of which answers where the next one starts: its definition.
use Rattle.std.specs.Prelude.{ℕ, zero, suc, ◌+◌, Bool}
use Rattle.answer.specs.Answer.{Answer, Good, ◌>>=◌, refuse}

unfoldable pub walk : (ℕ → Answer) → ℕ → ℕ → Answer
walk item zero at = Good at
walk item (suc n) at = item at >>= λ next. walk item n next

-- an entry of a known size: refused with a number at its own offset where the test holds, else it says where the next one starts
unfoldable pub entry : (ℕ → Bool) → ℕ → ℕ → ℕ → Answer
entry test num size at = refuse (test at) num at >>= λ next. Good (at + size)
