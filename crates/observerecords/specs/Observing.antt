-- What is asked and said of a record whose steps are observed as they are looked over, in a book of either form, and of all records of a book.
use Rattle.std.specs.Prelude.{ℕ, ◌+◌, ◌≤◌, ◌≡◌, true, false, List, length, Result, IfOk}
use Rattle.answer.specs.Answer.{Answer, Good}
use Rattle.answer.specs.declared.Refusal.{Refusal}
use Rattle.answer.specs.Refusal.{answer_by}
use Rattle.terms.specs.declared.Sections.{Sections}
use Rattle.terms.specs.declared.Fact.{Fact}
use Rattle.terms.specs.Schema.{Schema, schema}
use Rattle.terms.specs.Typing.{Falling, RightObjects}
use Rattle.limits.specs.Limits.{max_length, max_relations, max_moves, step_size, state_size}
use Rattle.format.specs.Lists.{list_at, list_end}
use Rattle.format.specs.Form.{Form, most_listed}
use Rattle.format.specs.Parts.{record_part, records_at}
use Rattle.format.specs.Records.{record_at}
use Rattle.format.specs.LookOver.{all_records}
use Rattle.states.specs.Looked.{whole_list}
use Rattle.records.specs.declared.Scope.{Scope}
use Rattle.records.specs.Readable.{schema_in, typed_in, Readable, step_alone}
use Rattle.factsets.specs.Right.{RightState}
use Rattle.turning.specs.Turning.{Carried, Carries}
use Rattle.observed.specs.Observed.{Observed, observe, observed_after, observed_after_all}
use Rattle.observed.specs.Begun.{Begun}
use Rattle.observestep.specs.declared.Noted.{Noted}
use Rattle.format.specs.Decode.{recorded_step}
use Rattle.observestep.specs.Notes.{IsObserved}
use Rattle.observerecords.specs.declared.noticed.Noticed.{Noticed}
use Rattle.observerecords.specs.declared.noticed.Walked.{Walked}

-- ---- what is held

-- the masks, and what is noticed beside them
unfoldable pub held_with : List ℕ → Noticed → Observed
held_with masks noticed = record { masks = masks; named = noticed.named; failed = noticed.failed }

-- bytes and what is noticed are what is held
pub record IsHeld (seen : Observed) (bytes : List ℕ) (noticed : Noticed) : Type 0 where
  pub masks : bytes ≡ seen.masks
  pub named : noticed.named ≡ seen.named
  pub failed : noticed.failed ≡ seen.failed

-- ---- one step

-- a record that can be read; its objects are of the book's kinds, and moves are no more than there may be
pub record Observable (s : List ℕ) (c : Scope) (ks table : List ℕ) : Type 0 where
  pub readable : Readable s c ks table
  pub typed : RightObjects (schema_in s c) (typed_in s c)
  pub moves : c.h.moves.count ≤ max_moves

-- the same for some table by kind, for functions that are not lent that table
abbrev pub ObservableBy : List ℕ → Scope → List ℕ → Type 0
ObservableBy s c table = (ks : List ℕ) × Observable s c ks table

-- the facts before a step, and where the code has them: in a full book in the list at `pre`, in a short one in the mask `m`; `held` is their number
pub record Ready (s : List ℕ) (c : Scope) (pre : ℕ) (m : List ℕ) (held : ℕ) (masks : List ℕ) : Type 0 where
  pub before : List Fact
  pub right : RightState (schema_in s c) (typed_in s c) before
  pub listed : c.short ≡ false → (list_at s pre ≡ before) × (pre ≤ max_length) × (list_end s pre ≤ length s)
  pub carries : Carries c.short before m held
  pub long : length m ≡ state_size
  pub begun : Begun (schema_in s c) masks

-- a right step at an offset, and a whole list behind it
pub record Whole (s : List ℕ) (c : Scope) (at : ℕ) : Type 0 where
  pub alone : step_alone (schema_in s c) (typed_in s c) s c.end at ≡ Good (at + step_size)
  pub list : whole_list (most_listed c.short) s c.end (at + step_size) ≡ true

-- the step observed, or passed over if it did not go: the masks and the step that row 11 names, and what is carried on. Whether it went, the loop over
-- steps notices
pub record Done (form : Form) (s : List ℕ) (before : List Fact) (at : ℕ) (m masks : List ℕ) (named : ℕ) (m' masks' : List ℕ) (r : Noted) : Type 0 where
  pub observed : IsObserved (observe (recorded_step form s before at) (record { masks = masks; named = named; failed = false })) masks' r.named
  pub carried : Carried form s (at + step_size) m m' r.count

-- the step is observed (`Done`) from the facts that `Ready` says hold before it
abbrev pub DoneReady : List ℕ → Scope → ℕ → ℕ → List ℕ → ℕ → List ℕ → ℕ → List ℕ → List ℕ → Noted → Type 0
DoneReady s c pre at m held masks named m' masks' r = (ready : Ready s c pre m held masks) → Done c.short s ready.before at m masks named m' masks' r

-- ---- a record

-- What observing the record at an offset asks: no more relations and moves than there may be, and parents that are smaller kinds; a book and an
-- offset within the greatest length; and sets of the right size, the bound facts of each move among them (`Begun`).
pub record CanObserve (h : Sections) (s : List ℕ) (at : ℕ) (masks : List ℕ) : Type 0 where
  pub known : h.relations.count ≤ max_relations
  pub moves : h.moves.count ≤ max_moves
  pub falling : Falling (schema h s)
  pub begun : Begun (schema h s) masks
  pub size : length s ≤ max_length
  pub near : at ≤ max_length

-- what a walk comes to, as an answer
abbrev pub answer_walked : Result Walked Refusal → Answer
answer_walked w = answer_by (λ (x : Walked). x.value) w

-- what was read: its answer and, where that is good, what is observed after it
pub record Observes (sch : Schema) (answer : Answer) (after : Observed) (bytes : List ℕ) (w : Result Walked Refusal) : Type 0 where
  pub says : answer_walked w ≡ answer
  pub observes : IfOk w (λ x. IsHeld after bytes x.noticed × Begun sch bytes)

-- the record at an offset: what is held after it is made of what was held before, the record's own bytes and its offset
abbrev pub RecordObserved : Form → Sections → List ℕ → ℕ → Observed → List ℕ → Result Walked Refusal → Type 0
RecordObserved form h s at before bytes w = Observes (schema h s) (record_at form h s at) (observed_after form (record_part s at) at before) bytes w

-- ---- all records

-- A number of records walked once, in file order, each looked over and observed: the answer and, where it is good, what is held at the end.
-- Each record adds to what was held before it by its own bytes and its offset alone (`observed_after_all`).
pub record RecordsObserved (form : Form) (h : Sections) (s : List ℕ) (n from : ℕ) (before : Observed) (bytes : List ℕ) (w : Result Walked Refusal) : Type 0 where
  pub says : answer_walked w ≡ all_records form h s n from
  pub observes : IfOk w (λ x. IsHeld (observed_after_all form (records_at s n from) from before) bytes x.noticed)
