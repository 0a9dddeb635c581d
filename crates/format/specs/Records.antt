-- Rows 6 to 10 and 27, row 24 among them: the records of a book, in file order, each to its end.
use Rattle.std.specs.Prelude.{ℕ, zero, suc, ◌+◌, Bool, ◌&&◌, ◌||◌, not, List, length, eqb, ltb}
use Rattle.answer.specs.Answer.{Answer, Good, ◌>>=◌, refuse}
use Rattle.answer.specs.Walk.{walk}
use Rattle.input.specs.Bytes.{byte_at, two}
use Rattle.terms.specs.declared.Sections.{Sections}
use Rattle.terms.specs.declared.Objects.{Objects}
use Rattle.terms.specs.declared.Fact.{Fact}
use Rattle.terms.specs.Schema.{Schema, TypedObjects, schema, typed_objects, out_of_range}
use Rattle.terms.specs.Facts.{same_facts}
use Rattle.terms.specs.Steps.{step_bad, repeats}
use Rattle.limits.specs.Limits.{head_size, max_objects, max_steps, step_size}
use Rattle.format.specs.Lists.{list_at}
use Rattle.format.specs.Form.{Form, state_after}
use Rattle.format.specs.Filed.{went_at, filed_step_at, filed_fact}
use Rattle.format.specs.States.{cut, state, next_state}

-- a record's head: object count, step count, length
unfoldable pub objects_in : (s : List ℕ) (at : ℕ) → ℕ
objects_in s at = byte_at s at

unfoldable pub steps_in : (s : List ℕ) (at : ℕ) → ℕ
steps_in s at = byte_at s (at + 1)

unfoldable pub length_in : (s : List ℕ) (at : ℕ) → ℕ
length_in s at = two s (at + 2)

unfoldable pub head_bad : (s : List ℕ) (at : ℕ) → Bool
head_bad s at =
    cut (length s) at head_size
    || ltb max_objects (objects_in s at)
    || ltb max_steps (steps_in s at)
    || ltb (length_in s at) head_size
    || cut (length s) at (length_in s at)

-- the rows of a record's head, 6 and then 24: where the record ends
unfoldable pub record_head : (s : List ℕ) (at : ℕ) → Answer
record_head s at = do
  _ ← refuse (head_bad s at) 6 at
  _ ← refuse (eqb (steps_in s at) 0) 24 at
  Good (at + length_in s at)

-- row 7
unfoldable pub object : (kinds : ℕ) (s : List ℕ) (end at : ℕ) → Answer
object kinds s end at = do
  _ ← refuse (cut end at 1 || out_of_range kinds (byte_at s at)) 7 at
  Good (at + 1)

-- row 9 of the step at an offset
unfoldable pub step_refused : (sch : Schema) (ob : TypedObjects) (s : List ℕ) (end at : ℕ) → Bool
step_refused sch ob s end at = cut end at step_size || step_bad sch ob (filed_step_at s at)

-- row 27: the step did not go, and the state after it is not the state before it
unfoldable pub failed_changes : (form : Form) (s : List ℕ) (before : List Fact) (at : ℕ) → Bool
failed_changes form s before at = not (went_at s at) && not (same_facts before (state_after form s before (at + step_size)))

-- rows 9 and 10, then row 8 for the state after the step and row 27, `before` being the facts that hold before it
unfoldable pub step : (form : Form) (sch : Schema) (ob : TypedObjects) (s : List ℕ) (end : ℕ) (before : List Fact) (at : ℕ) → Answer
step form sch ob s end before at = do
  _ ← refuse (step_refused sch ob s end at) 9 at
  _ ← refuse (repeats (filed_step_at s at)) 10 at
  next ← next_state form sch ob s end before (at + step_size)
  _ ← refuse (failed_changes form s before at) 27 at
  Good next

-- a number of steps, each from the state that the one before it leaves
unfoldable pub steps : (form : Form) (sch : Schema) (ob : TypedObjects) (s : List ℕ) (end n : ℕ) (before : List Fact) (at : ℕ) → Answer
steps form sch ob s end zero before at = Good at
steps form sch ob s end (suc n) before at = do
  next ← step form sch ob s end before at
  steps form sch ob s end n (state_after form s before (at + step_size)) next

-- the objects of the record at an offset
unfoldable pub objects_of : (s : List ℕ) (at : ℕ) → Objects
objects_of s at = record { count = objects_in s at; at = at + head_size }

-- the part of a record after its objects: a state, then steps each with the state after it
unfoldable pub trajectory : (form : Form) (sch : Schema) (ob : TypedObjects) (s : List ℕ) (end n at : ℕ) → Answer
trajectory form sch ob s end n at = do
  next ← state (filed_fact form) 8 sch ob s end at
  steps form sch ob s end n (list_at s at) next

-- what the record from `at` to `end` answers, if its trajectory answers a: row 6 where bytes are left behind the trajectory
unfoldable pub closed : (at end : ℕ) → Answer → Answer
closed at end a = do
  last ← a
  _ ← refuse (ltb last end) 6 at
  Good end

-- a record whose head is right: its objects, its trajectory, and no bytes left
unfoldable pub body : (form : Form) (h : Sections) (s : List ℕ) (at end : ℕ) → Answer
body form h s at end = do
  first ← walk (object h.kinds s end) (objects_in s at) (at + head_size)
  closed at end (trajectory form (schema h s) (typed_objects (objects_of s at) s) s end (steps_in s at) first)

-- one record: where the next one starts
unfoldable pub record_at : (form : Form) (h : Sections) (s : List ℕ) (at : ℕ) → Answer
record_at form h s at = do
  end ← record_head s at
  body form h s at end
