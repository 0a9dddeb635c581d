-- What the functions ask of a book: that the part which they read is of good form, as looking over the book says.
use Rattle.std.specs.Prelude.{ℕ, ◌≤◌, ◌≡◌, List, length}
use Rattle.answer.specs.Answer.{Good}
use Rattle.answer.specs.Walk.{walk}
use Rattle.terms.specs.declared.Fact.{Fact}
use Rattle.terms.specs.Sections.{sections_of}
use Rattle.terms.specs.Schema.{Schema, TypedObjects}
use Rattle.terms.specs.Facts.{no_fact}
use Rattle.limits.specs.Limits.{max_length, max_facts}
use Rattle.format.specs.Lists.{list_at, list_end}
use Rattle.format.specs.Form.{Form, state_after}
use Rattle.format.specs.Records.{steps, record_at}
use Rattle.format.specs.LookOver.{look_over}
use Rattle.factsets.specs.Right.{Increasing}

-- a book of good form
abbrev pub GoodBook : Form → List ℕ → Type 0
GoodBook form s = (n : ℕ) × (look_over form s ≡ Good n)

-- a list within the book whose facts are in order
pub record GoodList (s : List ℕ) (at : ℕ) : Type 0 where
  pub within : list_end s at ≤ length s
  pub near : length s ≤ max_length
  pub order : Increasing no_fact (list_at s at)

-- and it leaves, after the facts given, no more facts than a state may have
pub record GoodNext (form : Form) (s : List ℕ) (before : List Fact) (at : ℕ) : Type 0 where
  pub list : GoodList s at
  pub few : length (state_after form s before at) ≤ max_facts

-- a number of steps of good form, over some schema and objects
pub record GoodSteps (form : Form) (s : List ℕ) (n : ℕ) (before : List Fact) (at : ℕ) : Type 0 where
  pub sch : Schema
  pub ob : TypedObjects
  pub end : ℕ
  pub last : ℕ
  pub good : steps form sch ob s end n before at ≡ Good last
  pub start : at ≤ end
  pub within : end ≤ length s
  pub near : length s ≤ max_length

-- a state of good form, and a number of steps from it on
pub record GoodTrajectory (form : Form) (s : List ℕ) (n at : ℕ) : Type 0 where
  pub list : GoodList s at
  pub few : length (list_at s at) ≤ max_facts
  pub steps : GoodSteps form s n (list_at s at) (list_end s at)

-- a record, and a number of records, of good form
pub record GoodRecord (form : Form) (s : List ℕ) (at : ℕ) : Type 0 where
  pub next : ℕ
  pub good : record_at form (sections_of s) s at ≡ Good next
  pub near : length s ≤ max_length

pub record GoodRecords (form : Form) (s : List ℕ) (n at : ℕ) : Type 0 where
  pub last : ℕ
  pub good : walk (record_at form (sections_of s) s) n at ≡ Good last
  pub start : at ≤ length s
  pub near : length s ≤ max_length
