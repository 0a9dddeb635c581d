-- As if absent: wherever some model fits a book, plans come to what they would come to without the steps that did not go. Said over the recorded
-- steps, each step that went with its own two states. It can't be said over the bytes of a book without those steps: a record that has no other would
-- be left without steps, and be refused (24).
use Rattle.std.specs.Prelude.{ℕ, ◌≡◌, ◌↔◌, List, [], ◌∷◌, length}
use Rattle.limits.specs.Limits.{end_sheet_size}
use Rattle.answer.specs.Answer.{Good}
use Rattle.format.specs.Form.{Form}
use Rattle.format.specs.LookOver.{look_over}
use Rattle.format.specs.Order.{step_count, order_form}
use Rattle.model.specs.Domain.{State, GroundAction, GoalLiteral}
use Rattle.model.specs.Model.{Model, Consistent}
use Rattle.model.specs.Judge.{Verdict, passes, Judged}
use Rattle.model.specs.Formed.{Grounded}
use Rattle.jobs.specs.Planning.{domain, schema_of, transitions_of, start_states, plan_of, goal_of}
use Rattle.jobs.specs.Learn.{learnable}
use Rattle.jobs.specs.Check.{check, check_bytes}
use Rattle.jobs.specs.Judge.{FitsBook, BookVerdict}
use Rattle.demand.specs.Demand3.{Verdicts, answer_by, Shows}

-- the models (rule lists) that fit the steps which went, whatever is filed of those that did not
abbrev pub FitsWent : Form → List ℕ → Model → Type 0
FitsWent form s M = Consistent (domain (schema_of s)) (transitions_of form s) M

-- the verdict of the judge who holds all of these, on any plan, from any state, with any goal, and on an order's plan from one start alone
abbrev pub WentVerdict : Form → List ℕ → State → List GroundAction → List GoalLiteral → Verdict → Type 0
WentVerdict form s start plan goal v = Judged (domain (schema_of s)) (FitsWent form s) plan start goal v

abbrev pub WentStartVerdict : Form → List ℕ → List ℕ → State → Verdict → Type 0
WentStartVerdict form s o start v = WentVerdict form s start (plan_of (schema_of s) o) (goal_of o) v

pub record AsIfAbsent (form : Form) (s : List ℕ) : Type 0 where
  -- On every plan of right steps, from every start and with every goal, the book's judge says what that judge says.
  pub verdict : (plan : List GroundAction) → Grounded (domain (schema_of s)) plan → (start : State) (goal : List GoalLiteral) (v : Verdict)
      → BookVerdict form s start plan goal v ↔ WentVerdict form s start plan goal v
  -- So for every order of good form the check's number, place and position are what his verdicts on the order's starts give,
  pub checking : (o : List ℕ) (n : ℕ) → order_form (schema_of s) o ≡ Good n
      → (vs : List Verdict) → Verdicts (WentStartVerdict form s o) (start_states o) vs → check form s o end_sheet_size ≡ answer_by (learnable form s) (step_count o) 1 vs
  -- and on a pass of an order with one start the end sheet shows his end state.
  pub sheet : (o : List ℕ) (n : ℕ) → order_form (schema_of s) o ≡ Good n
      → (start : State) → start_states o ≡ start ∷ [] → (end : State) → WentStartVerdict form s o start (passes end)
      → (lent : List ℕ) → length lent ≡ end_sheet_size → Shows (check_bytes form s o lent) end

-- Of every book of good form that some model fits.
abbrev pub AbsentSteps : Type 0
AbsentSteps = (form : Form) (s : List ℕ) (n : ℕ) → look_over form s ≡ Good n → (M : Model) → FitsBook form s M → AsIfAbsent form s
