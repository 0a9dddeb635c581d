-- What a book of good form holds, as values: its recorded steps in file order. Decoding is total, and means something where looking over is good.
use Rattle.std.specs.Prelude.{ℕ, zero, suc, ◌+◌, Bool, List, [], ◌∷◌, ◌++◌, map}
use Rattle.terms.specs.declared.Sections.{Sections}
use Rattle.terms.specs.declared.Fact.{Fact}
use Rattle.terms.specs.declared.Step.{Step}
use Rattle.limits.specs.Limits.{head_size, step_size}
use Rattle.format.specs.Lists.{list_at, list_end}
use Rattle.format.specs.Filed.{went_at, filed_step_at}
use Rattle.format.specs.Form.{Form, state_after}
use Rattle.format.specs.Records.{objects_in, steps_in, length_in}

-- a step as recorded, with the facts that hold before and after it, and its offset: where it went, a transition
pub record RecordedStep : Type 0 where
  pub place : ℕ
  pub went : Bool
  pub step : Step
  pub pre : List Fact
  pub post : List Fact

-- the step at an offset, with the facts that hold before it
unfoldable pub recorded_step : Form → List ℕ → List Fact → ℕ → RecordedStep
recorded_step form s before at =
    record { place = at; went = went_at s at; step = filed_step_at s at; pre = before; post = state_after form s before (at + step_size) }

-- a number of steps from an offset on, the first from the facts given, each other from those that the one before it leaves
unfoldable pub recorded_steps_at : Form → List ℕ → ℕ → List Fact → ℕ → List RecordedStep
recorded_steps_at form s zero before at = []
recorded_steps_at form s (suc n) before at =
    recorded_step form s before at ∷ recorded_steps_at form s n (state_after form s before (at + step_size)) (list_end s (at + step_size))

-- where the first state of a record stands
abbrev pub first_at : List ℕ → ℕ → ℕ
first_at s at = at + head_size + objects_in s at

-- the steps of one record (trajectory)
unfoldable pub steps_of_record : Form → List ℕ → ℕ → List RecordedStep
steps_of_record form s at = recorded_steps_at form s (steps_in s at) (list_at s (first_at s at)) (list_end s (first_at s at))

unfoldable pub steps_of_records : Form → List ℕ → ℕ → ℕ → List RecordedStep
steps_of_records form s zero at = []
steps_of_records form s (suc n) at = steps_of_record form s at ++ steps_of_records form s n (at + length_in s at)

-- all steps of a book
unfoldable pub recorded_steps : Form → Sections → List ℕ → List RecordedStep
recorded_steps form h s = steps_of_records form s h.records.count h.records.at

-- ---- the same steps at other offsets

unfoldable pub placed_at : ℕ → RecordedStep → RecordedStep
placed_at at x = record { place = at; went = x.went; step = x.step; pre = x.pre; post = x.post }

-- each step at the offset that `to` makes of its own
unfoldable pub placed_by : (ℕ → ℕ) → List RecordedStep → List RecordedStep
placed_by to = map (λ x. placed_at (to x.place) x)

-- each step k bytes further on
unfoldable pub moved_by : ℕ → List RecordedStep → List RecordedStep
moved_by k = placed_by (λ at. k + at)
