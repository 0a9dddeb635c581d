-- What is right of a recorded step and of an order of good form, against the schema of the book and the objects of the record or order.
use Rattle.std.specs.Prelude.{ℕ, ◌≤◌, ◌≡◌, false, List}
use Rattle.terms.specs.declared.Fact.{Fact}
use Rattle.terms.specs.declared.Step.{Step}
use Rattle.terms.specs.Schema.{Schema, TypedObjects, typed_objects}
use Rattle.terms.specs.Facts.{fact_bad}
use Rattle.limits.specs.Limits.{max_objects}
use Rattle.format.specs.Decode.{RecordedStep}
use Rattle.format.specs.Order.{GoalEntry, order_objects, starts, goal, plan}
use Rattle.quantify.specs.Quantify.{Mem}
use Rattle.factsets.specs.Right.{RightStep, RightState}

-- a recorded step with the states before and after it
pub record Right (sch : Schema) (ob : TypedObjects) (x : RecordedStep) : Type 0 where
  pub step : RightStep sch ob x.step
  pub pre : RightState sch ob x.pre
  pub post : RightState sch ob x.post

-- the same over some typed objects, at most 16: those of the record that has the step
abbrev pub RightSomewhere : Schema → RecordedStep → Type 0
RightSomewhere sch x = (ob : TypedObjects) × (ob.count ≤ max_objects) × Right sch ob x

-- the objects of an order
abbrev pub order_typed : List ℕ → TypedObjects
order_typed o = typed_objects (order_objects o) o

-- an order's starts, goal facts and steps over its own objects, of which there are at most 16
pub record RightOrder (sch : Schema) (o : List ℕ) : Type 0 where
  pub few : (order_typed o).count ≤ max_objects
  pub starts : (fs : List Fact) → Mem fs (starts o) → RightState sch (order_typed o) fs
  pub goals : (e : GoalEntry) → Mem e (goal o) → fact_bad sch (order_typed o) e.fact ≡ false
  pub steps : (st : Step) → Mem st (plan o) → RightStep sch (order_typed o) st
