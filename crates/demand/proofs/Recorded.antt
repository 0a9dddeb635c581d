-- What was seen of a bound fact, told of the steps that went as they are recorded.
use Prim.Native.Nat.{ℕ}
use mathlib.Core.Path.{◌≡◌, sym, subst}
use mathlib.Core.Bool.{Bool, true}
use mathlib.Core.List.{List}
use Rattle.format.specs.Form.{Form}
use Rattle.format.specs.Decode.{RecordedStep}
use Rattle.quantify.specs.Quantify.{Mem}
use Rattle.model.specs.Domain.{Transition}
use Rattle.model.proofs.Seen.{Sight}
use Rattle.jobs.specs.Planning.{ground_action, transition, went_steps, schema_of, steps_of_book, transitions_of}
use Rattle.jobs.proofs.Parted.{went_in, transition_out}
use Rattle.quantify.proofs.Mapped.{mem_map_in}
use Rattle.demand.specs.Demand2.{value_in}

-- a recorded step of the move that went, with the values of the bound fact before and after it
pub record RecordedSight (form : Form) (s : List ℕ) (a n : ℕ) (x y : Bool) : Type 0 where
  pub recorded_steps : RecordedStep
  pub member : Mem recorded_steps (steps_of_book form s)
  pub went : recorded_steps.went ≡ true
  pub action : recorded_steps.step.action.0 ≡ a
  pub was : value_in s recorded_steps recorded_steps.pre n ≡ x
  pub got : value_in s recorded_steps recorded_steps.post n ≡ y

module _ (form : Form) (s : List ℕ) (a n : ℕ) (x y : Bool) where
  pub sight_of_recorded : RecordedSight form s a n x y → Sight (transitions_of form s) a n x y
  unfolding transitions_of transition ground_action
  sight_of_recorded h =
      record {
        transition = transition (schema_of s) h.recorded_steps;
        member = mem_map_in (transition (schema_of s)) (went_steps (steps_of_book form s)) (went_in (steps_of_book form s) h.member h.went);
        action = h.action;
        was = h.was;
        got = h.got;
      }

  pub recorded_of_sight : Sight (transitions_of form s) a n x y → RecordedSight form s a n x y
  unfolding transition ground_action
  recorded_of_sight h =
      let (f, m, went, e) = transition_out form s h.member in
      record {
        recorded_steps = f;
        member = m;
        went = went;
        action = subst (λ (t : Transition). t.step.action ≡ a) (sym e) h.action;
        was = subst (λ (t : Transition). t.pre (t.step.ground n) ≡ x) (sym e) h.was;
        got = subst (λ (t : Transition). t.post (t.step.ground n) ≡ y) (sym e) h.got;
      }
