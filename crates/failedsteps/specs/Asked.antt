-- What the functions ask: a book within its limits, with what is observed in it, and the part that they read being of good form.
use Rattle.std.specs.Prelude.{ℕ, ◌+◌, ◌≤◌, ◌≡◌, List, length}
use Rattle.limits.specs.Limits.{max_length, max_relations, max_moves, max_objects, step_size}
use Rattle.answer.specs.Answer.{Good}
use Rattle.terms.specs.declared.Sections.{Sections}
use Rattle.terms.specs.Schema.{TypedObjects, schema}
use Rattle.terms.specs.Typing.{Falling, RightObjects}
use Rattle.format.specs.Filed.{filed_step_at, filed_fact}
use Rattle.format.specs.Lists.{list_at, list_end}
use Rattle.format.specs.Form.{Form}
use Rattle.format.specs.States.{state}
use Rattle.format.specs.Records.{steps, record_at}
use Rattle.factsets.specs.Right.{RightStep, RightState}
use Rattle.turning.specs.Turning.{Turnable}
use Rattle.observed.specs.Begun.{Begun}

-- no more relations and moves than there may be, and parents that are smaller kinds; no more bytes than a book may have; and sets of the right size, the
-- bound facts of each move among them
pub record BookAsked (h : Sections) (s masks : List ℕ) : Type 0 where
  pub known : h.relations.count ≤ max_relations
  pub moves : h.moves.count ≤ max_moves
  pub falling : Falling (schema h s)
  pub size : length s ≤ max_length
  pub begun : Begun (schema h s) masks

-- a right step at an offset
pub record StepAsked (h : Sections) (s : List ℕ) (at : ℕ) (masks : List ℕ) : Type 0 where
  pub book : BookAsked h s masks
  pub ob : TypedObjects
  pub few : ob.count ≤ max_objects
  pub right : RightStep (schema h s) ob (filed_step_at s at)
  pub within : at + step_size ≤ length s

-- a right state as a list at an offset
pub record ListAsked (h : Sections) (s : List ℕ) (at : ℕ) : Type 0 where
  pub ob : TypedObjects
  pub few : ob.count ≤ max_objects
  pub right : RightState (schema h s) ob (list_at s at)
  pub turnable : Turnable s at

-- a state at an offset and a number of steps from it on, of good form up to `end`
pub record StepsAsked (form : Form) (h : Sections) (s : List ℕ) (n first : ℕ) : Type 0 where
  pub ob : TypedObjects
  pub few : ob.count ≤ max_objects
  pub typed : RightObjects (schema h s) ob
  pub end : ℕ
  pub within : end ≤ length s
  pub start : state (filed_fact form) 8 (schema h s) ob s end first ≡ Good (list_end s first)
  pub last : ℕ
  pub good : steps form (schema h s) ob s end n (list_at s first) (list_end s first) ≡ Good last

-- a record of good form
abbrev pub RecordAsked : Form → Sections → List ℕ → ℕ → Type 0
RecordAsked form h s at = (next : ℕ) × (record_at form h s at ≡ Good next)
