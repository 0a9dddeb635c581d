-- Bytes appended to a book that is formed front to back: `old` and `new` are what is formed of it before and after.
use Rattle.std.specs.Prelude.{ℕ, ◌+◌, ◌<◌, ◌≡◌, List, ◌++◌, length, Result, Ok, Err}
use Rattle.limits.specs.Limits.{max_length}

-- the bytes were appended, or they would pass the end of the longest book
abbrev pub Appended : {A E : Type 0} → List ℕ → List ℕ → List ℕ → Result A E → Type 0
Appended bytes old new (Ok _) = new ≡ old ++ bytes
Appended bytes old new (Err _) = max_length < length old + length bytes

-- the bytes of `whole` were appended, but for those of `rest` at its end
pub record AllBut (rest whole old new : List ℕ) : Type 0 where
  pub front : List ℕ
  pub split : front ++ rest ≡ whole
  pub appended : new ≡ old ++ front
