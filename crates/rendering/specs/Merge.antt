-- Two lists of facts walked together, those of a state and those that turn in it: the facts of each that are left, and what is to be written of them.
use Rattle.std.specs.Prelude.{ℕ, ◌+◌, ◌<◌, ◌≤◌, ◌≡◌, List, ◌++◌, length, Result, Ok, Err}
use Rattle.terms.specs.declared.Fact.{Fact}
use Rattle.format.specs.Toggled.{toggled}
use Rattle.jobs.specs.Convert.{facts_bytes}
use Rattle.factsets.specs.Right.{Increasing}
use Rattle.factlist.specs.Rest.{rest, FactsWithin}
use Rattle.rendering.specs.declared.Walk.{Walk}
use Rattle.limits.specs.Limits.{max_length, fact_size}
use Rattle.appending.specs.Appended.{AllBut}

-- what is still to be written: the facts that are left of the state, those that are left of the list having turned in them
abbrev pub to_come : List ℕ → List ℕ → Walk → List Fact
to_come state s v = toggled (rest state v.held) (rest s v.turns)

abbrev pub left : Walk → ℕ
left v = v.held.left + v.turns.left

-- both lists lie within their bytes, and the facts that turn are in order
pub record Merging (state s : List ℕ) (v : Walk) : Type 0 where
  pub held : FactsWithin state v.held
  pub turns : FactsWithin s v.turns
  pub last : Fact
  pub order : Increasing last (rest s v.turns)

-- One turn of the loop, from v to w: fewer facts are left, and what was appended and what is still to be written at w are together what was still to
-- be written at v.
pub record TurnMerged (state s : List ℕ) (v : Walk) (old new : List ℕ) (w : Walk) : Type 0 where
  pub merging : Merging state s w
  pub less : left w < left v
  pub appended : AllBut (facts_bytes (to_come state s w)) (facts_bytes (to_come state s v)) old new

-- A turn that fails: what it appends, which is no more than a fact, would pass the end. The walk would then be at w.
pub record TurnOver (state s : List ℕ) (v : Walk) (old : List ℕ) : Type 0 where
  pub w : Walk
  pub merging : Merging state s w
  pub less : left w < left v
  pub front : List ℕ
  pub split : front ++ facts_bytes (to_come state s w) ≡ facts_bytes (to_come state s v)
  pub one : length front ≤ fact_size
  pub over : max_length < length old + length front

-- a turn that is good, or one that fails
abbrev pub NextMerged : {A E : Type 0} → List ℕ → List ℕ → Walk → List ℕ → Walk → List ℕ → Result A E → Type 0
NextMerged state s v old w new (Ok _) = TurnMerged state s v old new w
NextMerged state s v old w new (Err _) = TurnOver state s v old
