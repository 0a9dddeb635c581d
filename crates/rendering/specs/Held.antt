-- The facts that hold before a step, kept as a list in memory of their own: a count and then the facts, as in a book.
use Rattle.std.specs.Prelude.{ℕ, ◌+◌, ◌*◌, ◌<◌, ◌≤◌, ◌≡◌, List, ◌++◌, length, Result, Ok, Err}
use Rattle.terms.specs.declared.Fact.{Fact}
use Rattle.limits.specs.Limits.{max_length, count_size, fact_size, max_facts}
use Rattle.format.specs.Lists.{list_at}

-- a count and 256 facts
abbrev pub state_list_size : ℕ
state_list_size = count_size + fact_size * max_facts

pub record Holds (state : List ℕ) : Type 0 where
  pub long : length state ≡ state_list_size
  pub few : length (list_at state 0) ≤ max_facts

-- Bytes were appended, and the facts given hold in `state`; or the bytes would pass the end.
abbrev pub AppendedHeld : {A E : Type 0} → List ℕ → List Fact → List ℕ → List ℕ → List ℕ → Result A E → Type 0
AppendedHeld bytes after old new state (Ok _) = (new ≡ old ++ bytes) × Holds state × (list_at state 0 ≡ after)
AppendedHeld bytes after old new state (Err _) = max_length < length old + length bytes
