-- As if absent, proved: over transitions it is `absent` of model, where to fit without failed executions is to be consistent. What the check says, and what
-- the end sheet shows, then follows from Demand 3, verdict by verdict.
use Prim.Native.Nat.{ℕ}
use mathlib.Core.Path.{◌≡◌}
use mathlib.Core.Logic.{◌↔◌}
use mathlib.Core.List.{List, [], ◌∷◌}
use Rattle.answer.specs.Answer.{Good}
use Rattle.format.specs.Form.{Form}
use Rattle.format.specs.LookOver.{look_over}
use Rattle.format.specs.Order.{order_form}
use Rattle.model.specs.Domain.{State, GroundAction, GoalLiteral}
use Rattle.model.specs.Model.{Model, Fitting}
use Rattle.model.specs.Judge.{Verdict, passes}
use Rattle.model.specs.Formed.{Grounded}
use Rattle.model.proofs.Failed.{fitting_none, absent}
use Rattle.model.proofs.Judge.{judged_alike}
use Rattle.jobs.specs.Planning.{domain, schema_of, transitions_of, failed_of, start_states, plan_of, goal_of}
use Rattle.jobs.specs.Judge.{FitsBook, BookVerdict, StartVerdict}
use Rattle.wellformed.proofs.Formed.{formed}
use Rattle.demand.specs.Demand3.{Verdicts, none, more}
use Rattle.demand.specs.Absent.{FitsWent, WentVerdict, WentStartVerdict, AbsentSteps}
use Rattle.demand.proofs.Demand3.{proper, demand3}

-- judges of whom the one says what the other says, of each of some starts
verdicts_by : (P Q : State → Verdict → Type 0) → ((start : State) (v : Verdict) → P start v → Q start v)
    → (starts : List State) (vs : List Verdict) → Verdicts P starts vs → Verdicts Q starts vs
verdicts_by P Q to [] (v ∷ vs) x'' = elim x'' [ ]
verdicts_by P Q to (start ∷ starts) [] x3 = elim x3 [ ]
verdicts_by P Q to [] [] none = none
verdicts_by P Q to (start ∷ starts) (v ∷ vs) (more h each) = more (to start v h) (verdicts_by P Q to starts vs each)

module _ (form : Form) (s : List ℕ) (n : ℕ) (good : look_over form s ≡ Good n) (M : Model) (fits : FitsBook form s M) where
  same_verdict : (plan : List GroundAction) → Grounded (domain (schema_of s)) plan → (start : State) (goal : List GoalLiteral) (v : Verdict)
      → BookVerdict form s start plan goal v ↔ WentVerdict form s start plan goal v
  same_verdict plan grounded start goal v =
      let D = domain (schema_of s) in
      let ts = transitions_of form s in
      let left = absent D ts (failed_of form s) (formed form s n good) M fits plan grounded start goal v in
      let alone = fitting_none D ts in (
        λ h. judged_alike D (Fitting D ts []) plan start goal (FitsWent form s) alone v (left.0 h),
        λ h. left.1 (judged_alike D (FitsWent form s) plan start goal (Fitting D ts []) (λ N. ((alone N).1, (alone N).0)) v h),
      )

  module _ (o : List ℕ) (m : ℕ) (ordered : order_form (schema_of s) o ≡ Good m) where
    start_verdict : (start : State) (v : Verdict) → WentStartVerdict form s o start v → StartVerdict form s o start v
    start_verdict start v = (same_verdict (plan_of (schema_of s) o) (proper form s n good o m ordered) start (goal_of o) v).1

-- Wherever some model fits a book, plans come to what they would come to without the steps that did not go.
pub absent_steps : AbsentSteps
absent_steps form s n good M fits =
    let agrees = demand3 form s n good in
    record {
      verdict = same_verdict form s n good M fits;
      checking = λ o m ordered vs each.
          agrees.verdicts o m ordered vs
          (verdicts_by (WentStartVerdict form s o) (StartVerdict form s o) (start_verdict form s n good M fits o m ordered) (start_states o) vs each);
      sheet = λ o m ordered start one end h. agrees.sheet o m ordered start one end (start_verdict form s n good M fits o m ordered start (passes end) h);
    }
