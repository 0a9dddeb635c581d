-- What is observed after a step, from the step's bound facts and row 11 of it. Uses the definitions of observed, and what marks says of a step.
use Prim.Native.Nat.{ℕ, ◌+◌, ◌-◌}
use native.Mathlib.Omega.{arith}
use mathlib.Core.Path.{◌≡◌, ◌∙◌}
use mathlib.Core.Bool.{Bool}
use mathlib.Core.List.{List}
use borrow.Rule.Slice.PartMut.{mid_of}
use Rattle.terms.specs.declared.Fact.{Fact}
use Rattle.terms.specs.declared.Step.{Step}
use Rattle.terms.specs.Schema.{Schema}
use Rattle.limits.specs.Limits.{step_size}
use Rattle.format.specs.Filed.{filed_step_at}
use Rattle.format.specs.Lists.{list_at}
use Rattle.format.specs.Form.{full, state_after}
use Rattle.format.specs.Decode.{recorded_step}
use Rattle.observed.specs.Observed.{bound, set_at, observed_set, noted, observe_by, observe, first_named}
use Rattle.grounding.specs.Grounding.{held_atoms}
use Rattle.stepmasks.specs.Marks.{StepMarked, StepTurned}
use Rattle.observestep.specs.Notes.{observed_step, IsObserved, observed_turned, TurnObserved}

-- the part that is lent to `mark_step` is the set of the move's bound facts
pub bound_part : (l : List ℕ) (a at : ℕ) → at ≡ set_at a bound → mid_of at (at + 32 - at) l ≡ observed_set l a bound
unfolding observed_set
bound_part l a at e =
    let w : at + 32 - at ≡ 32 = omega arith in
    rw (w, e)

pub observed_by : (s : List ℕ) (pre at : ℕ) (masks : List ℕ) (named : ℕ) (step : Step) (atoms before after new : List ℕ) (unbound : Bool) (offset : ℕ)
    → step ≡ filed_step_at s at
    → atoms ≡ observed_set masks step.action.0 bound
    → StepMarked atoms step.binding (list_at s pre) (list_at s (at + step_size)) before after unbound
    → new ≡ noted step.action.0 before after masks
    → offset ≡ first_named named unbound at
    → IsObserved (observed_step full s (list_at s pre) at masks named) new offset
unfolding observed_step observe observe_by recorded_step state_after
observed_by s pre at masks named step atoms before after new unbound offset is own m n f =
    record { masks = n ∙ rw (m.before, m.after, own, is); named = f ∙ rw (m.unbound, own, is) }

-- the same of a short book, by what is asked of the state and what turns
pub turned_by : (sch : Schema) (s : List ℕ) (at : ℕ) (masks : List ℕ) (named : ℕ) (step : Step) (atoms before after new m m' : List ℕ) (unbound : Bool) (offset : ℕ) (ts : List Fact)
    → step ≡ filed_step_at s at
    → atoms ≡ observed_set masks step.action.0 bound
    → before ≡ held_atoms sch step.binding atoms m
    → StepTurned atoms step.binding ts m m' before after unbound
    → new ≡ noted step.action.0 before after masks
    → offset ≡ first_named named unbound at
    → TurnObserved sch (filed_step_at s at) ts at masks named new offset m m'
unfolding observed_turned
turned_by sch s at masks named step atoms before after new m m' unbound offset ts is own held turned n f =
    record {
      observed = record { masks = n ∙ rw (turned.after, held, own, is); named = f ∙ rw (turned.unbound, own, is) };
      state = turned.state;
    }
