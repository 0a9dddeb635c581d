-- What is right of a step and of a state of good form, against the schema of the book and the objects of the record or order.
use Rattle.std.specs.Prelude.{◌≤◌, ◌≡◌, true, false, List, [], ◌∷◌, length}
use Rattle.quantify.specs.Quantify.{Mem}
use Rattle.limits.specs.Limits.{max_facts}
use Rattle.terms.specs.declared.Fact.{Fact}
use Rattle.terms.specs.declared.Step.{Step}
use Rattle.terms.specs.Schema.{Schema, TypedObjects}
use Rattle.terms.specs.Typing.{RightObjects}
use Rattle.terms.specs.Facts.{fact_bad, precedes, no_fact}
use Rattle.terms.specs.Steps.{step_bad, repeats}

-- each fact of the list precedes the next, and the first one comes after `last`
abbrev pub Increasing : Fact → List Fact → Type 0
Increasing last [] = Unit {0}
Increasing last (f ∷ fs) = (precedes last f ≡ true) × Increasing f fs

-- the objects are of kinds that are there, the move is there, its parameters have objects that suit, and no object stands twice
pub record RightStep (sch : Schema) (ob : TypedObjects) (st : Step) : Type 0 where
  pub typed : RightObjects sch ob
  pub suits : step_bad sch ob st ≡ false
  pub different : repeats st ≡ false

-- facts that suit, strictly increasing, at most 256
pub record RightState (sch : Schema) (ob : TypedObjects) (fs : List Fact) : Type 0 where
  pub suits : (f : Fact) → Mem f fs → fact_bad sch ob f ≡ false
  pub increasing : Increasing no_fact fs
  pub few : length fs ≤ max_facts
