-- Demand 3, proved: bytes of good form meet the hypotheses of `model`, whose verdict theorem says what the plan comes to from each start.
-- The check's answer is then what these verdicts come to.
use Prim.Native.Nat.{ℕ, ◌*◌, ◌≤◌, ◌<◌}
use mathlib.Core.Path.{◌≡◌, refl, sym, ap, ap₂, ◌∙◌}
use mathlib.Core.Logic.{◌⊎◌, inl, inr, ◌↔◌}
use mathlib.Core.Bool.{true, false, not}
use mathlib.Core.List.{List, [], ◌∷◌, map}
use native.Mathlib.Omega.{arith}
use lib.ListN.{length}
use Rattle.limits.specs.Limits.{state_size, end_sheet_size, max_fact_numbers, max_starts}
use Rattle.answer.specs.Answer.{Answer, Good, Refused, ◌>>=◌, is_refused, number, unpositioned, kept}
use Rattle.truth.specs.Bools.{clash, decide, is_true}
use Rattle.answer.proofs.Laws.{kept_same, bind_good, bind_refused, bind_assoc, refuse_unmet}
use Rattle.answer.proofs.Positions.{then_refused, then_by, then_answer}
use Rattle.answer.specs.Table.{table, row_from, row, up_to, MetFrom, is_impossible}
use Rattle.answer.proofs.Refusals.{from_earlier, from_good, from_row, from_bind, impossible_early, impossible_refused}
use Rattle.mask.proofs.Whole.{length_mask_of, test_mask_of}
use Rattle.format.specs.Form.{Form}
use Rattle.format.specs.LookOver.{look_over}
use Rattle.format.specs.Order.{step_count, order_form}
use Rattle.quantify.specs.Quantify.{Mem, here}
use Rattle.model.specs.Domain.{State, GroundAction, GoalLiteral}
use Rattle.model.specs.Judge.{Verdict, impossible, passes}
use Rattle.model.specs.Check.{judged_run, checked}
use Rattle.model.specs.Formed.{Grounded, Under}
use Rattle.model.proofs.Judge.{unique}
use Rattle.model.proofs.Impossible.{learned_valid}
use Rattle.model.specs.Exact.{Exact}
use Rattle.model.proofs.Exact.{checked_run}
use Rattle.model.proofs.Failed.{exact}
use Rattle.jobs.specs.Planning.{domain, schema_of, transitions_of, failed_of, start_states, plan_of, goal_of}
use Rattle.jobs.specs.Learn.{learnable, learned_from, learn}
use Rattle.jobs.specs.Check.{plan_run, order_run, run_answer, start_answer, starts_answer, before_plan, check, end_sheet, end_after, check_bytes}
use Rattle.jobs.proofs.Starts.{failing_none, failing_later}
use Rattle.jobs.specs.Judge.{FitsBook, BookVerdict, StartVerdict}
use Rattle.format.proofs.OrderForm.{order_good, order_met}
use Rattle.wellformed.proofs.Headers.{right_schema, relations_few}
use Rattle.wellformed.proofs.Formed.{formed}
use Rattle.wellformed.proofs.Orders.{grounded, plan_under, length_start_states, start_under}
use Rattle.wellformed.proofs.Ends.{run_under}
use Rattle.wellformed.proofs.Learnable.{unfit_in, fit_clean, learnable_fit, learnable_unfit}
use Rattle.demand.proofs.Failing.{comes, pass_comes, from_failing, failing_by}
use Rattle.demand.specs.Demand3.{NoneFits, Impossible, Verdicts, none, more, answer_by, Shows, Demand3}

-- ---- answers
refused_impossible : (a : Answer) (num p : ℕ) → a ≡ Refused num p → is_impossible num ≡ true → Impossible a
unfolding number
refused_impossible a num p e h = rw e h

-- success is not impossible
pub not_passed : (a : Answer) → Impossible a → number a ≡ 0 → ⊥
not_passed a h z = clash (is_impossible 0) (rw z at h) impossible_refused

-- an answer that refuses only with later rows is not, either
late : (a : Answer) → MetFrom 13 a → Impossible a → ⊥
unfolding number
late (Good n) from h = not_passed (Good n) h refl
late (Refused num p) from h = clash (not (up_to 13 num)) (impossible_early num h) (rw (from num p refl))

module _ (form : Form) (s : List ℕ) (n : ℕ) (good : look_over form s ≡ Good n) where
  judge : Exact (domain (schema_of s)) (FitsBook form s) (unfit_in form s) (checked (domain (schema_of s)) (transitions_of form s) (failed_of form s))
  judge = exact (domain (schema_of s)) (transitions_of form s) (failed_of form s) (formed form s n good)

  -- ---- 11, 12 or 28
  -- an answer that begins with learning, and has only later rows after it
  exactly : (a : Answer) (k : ℕ → Answer) → a ≡ (learnable form s >>= k) → MetFrom 13 (k n) → Impossible a ↔ NoneFits form s
  exactly a k e from = (
    λ h. judge.unfit.0 (is_true _ (λ fit. late (k n) from (rw (e ∙ bind_good (learnable form s) k n (learnable_fit form s n good fit)) at h))),
    λ none.
        let (num, p, q, h) = learnable_unfit form s n good (judge.unfit.1 none) in
        refused_impossible a num p (e ∙ bind_refused (learnable form s) k num p q) h,
  )

  learning : (size : ℕ) → Impossible (learn form s size) ↔ NoneFits form s
  unfolding learn table row_from row up_to
  learning size = exactly (learn form s size) _ refl (from_row 13 _ 13 0 _ refl (from_good 13 n))

  module _ (o : List ℕ) (size : ℕ) where
    checking : Impossible (check form s o size).answer ↔ NoneFits form s
    unfolding check before_plan starts_answer start_answer table row_from row up_to
    checking =
        exactly (check form s o size).answer _ (then_answer (before_plan form s o size) (starts_answer form s o) ∙ bind_assoc (learnable form s) _ _)
        (from_bind 13 _ _ (from_row 13 _ 13 0 _ refl (from_earlier 13 14 _ refl (order_met (schema_of s) o)))
        (λ y. from_failing (step_count o) (goal_of o) (order_run form s o) 1 (start_states o)))

    -- and where checking answers so, it answers as learning does, about no start
    unfit_check : unfit_in form s ≡ true → check form s o size ≡ unpositioned (learnable form s)
    unfolding check before_plan is_refused
    unfit_check e =
        let (num, p, q, h) = learnable_unfit form s n good e in
        let refused = bind_refused (learnable form s) _ num p q in
        sym (then_refused (before_plan form s o size) (starts_answer form s o) (rw refused)) ∙ ap unpositioned (refused ∙ sym q)

  -- ---- a plan from any start, with any goal
  module _ (start : State) (plan : List GroundAction) (goal : List GoalLiteral) (grounded : Grounded (domain (schema_of s)) plan) where
    -- the judge's verdict is what the model's check says
    says : (v : Verdict) → BookVerdict form s start plan goal v ↔ (checked (domain (schema_of s)) (transitions_of form s) (failed_of form s) plan start goal ≡ v)
    says = judge.verdict plan grounded start goal

    some_verdict : (v : Verdict) × BookVerdict form s start plan goal v
    some_verdict = let v = checked (domain (schema_of s)) (transitions_of form s) (failed_of form s) plan start goal in (v, (says v).1 refl)

    unfit_verdict : unfit_in form s ≡ true → (v : Verdict) → BookVerdict form s start plan goal v → impossible ≡ v
    unfit_verdict e v h = sym ((judge.refuses plan start goal).1 e) ∙ (says v).0 h

    unfit_fails : unfit_in form s ≡ true → (end : State) → BookVerdict form s start plan goal (passes end) → ⊥
    unfit_fails e end h = let q = unfit_verdict e (passes end) h in let z : ◌≡◌ {A = ℕ} 0 1 = cc in omega arith

    module _ (fit : unfit_in form s ≡ false) where
      -- with a model that fits, it is what the run of the learned one comes to
      run_verdict : (v : Verdict) → BookVerdict form s start plan goal v ↔ (judged_run goal (plan_run form s start plan) ≡ v)
      unfolding plan_run learned_from checked
      run_verdict v =
          let same = checked_run (unfit_in form s) (domain (schema_of s)) (learned_from form s) plan start goal fit in
          (λ h. sym same ∙ (says v).0 h, λ e. (says v).1 (same ∙ e))

      -- where neither the start nor a step's atoms have a fact from 4096 on, the sheet of a pass shows his end state
      pass_shows : (bound : ℕ) → bound ≤ max_fact_numbers → Under bound start
          → ((t : GroundAction) → Mem t plan → (k : ℕ) → (domain (schema_of s)).atom t.action k ≡ true → t.ground k < bound)
          → (steps : ℕ) (end : State) → BookVerdict form s start plan goal (passes end)
          → (run_answer steps goal (plan_run form s start plan) ≡ Good steps) × Shows (end_sheet (plan_run form s start plan)) end
      unfolding plan_run learned_from end_sheet
      pass_shows bound few under grounds steps end h =
          let (ends, answer) = pass_comes steps _ _ _ (comes steps goal (plan_run form s start plan)) end ((run_verdict (passes end)).0 h) in
          let valid = learned_valid (domain (schema_of s)) (transitions_of form s) (formed form s n good) (fit_clean form s fit) in (
            answer,
            rw ends
                (record {
                  long = length_mask_of state_size end;
                  bits = λ k l. test_mask_of state_size end k l;
                  others = λ f l. run_under (domain (schema_of s)) (learned_from form s) valid bound plan grounds start under 1 end ends f (omega arith);
                }),
          )

  -- ---- orders of good form
  module _ (o : List ℕ) (m : ℕ) (ordered : order_form (schema_of s) o ≡ Good m) where
    pub proper : Grounded (domain (schema_of s)) (plan_of (schema_of s) o)
    proper = grounded (schema_of s) (right_schema form s n good).falling o m ordered

    some_starts : (1 ≤ length (start_states o)) × (length (start_states o) ≤ max_starts)
    some_starts = let h = (order_good (schema_of s) o m ordered).header in rw (length_start_states o) (h.some, h.starts)

    module _ (fit : unfit_in form s ≡ false) where
      -- only rows 19 and 20 are left
      check_starts : check form s o end_sheet_size ≡ starts_answer form s o
      unfolding check before_plan
      check_starts =
          then_by (before_plan form s o end_sheet_size) (starts_answer form s o) m
          (bind_good (learnable form s) _ n (learnable_fit form s n good fit) ∙ refuse_unmet _ 13 0 _ refl ∙ ordered)

      start_verdict : (start : State) (v : Verdict) → StartVerdict form s o start v ↔ (judged_run (goal_of o) (order_run form s o start) ≡ v)
      unfolding order_run
      start_verdict start = run_verdict start (plan_of (schema_of s) o) (goal_of o) proper fit

      run_verdicts : (starts : List State) (vs : List Verdict) → Verdicts (StartVerdict form s o) starts vs
          → map (λ start. judged_run (goal_of o) (order_run form s o start)) starts ≡ vs
      run_verdicts [] (v ∷ vs) x'' = elim x'' [ ]
      run_verdicts (start ∷ starts) [] x3 = elim x3 [ ]
      run_verdicts [] [] none = refl
      run_verdicts (start ∷ starts) (v ∷ vs) (more h each) =
          ap₂ (λ (x : Verdict) (xs : List Verdict). x ∷ xs) ((start_verdict start v).0 h) (run_verdicts starts vs each)

    -- where no model fits, the first verdict is impossible
    unfit_first : unfit_in form s ≡ true → (refusal : Answer) (starts : List State) (vs : List Verdict) → 1 ≤ length starts → Verdicts (StartVerdict form s o) starts vs
        → unpositioned refusal ≡ answer_by refusal (step_count o) 1 vs
    unfolding answer_by
    unfit_first e refusal (start ∷ starts) [] some each = elim each [ ]
    unfit_first e refusal [] vs some each = absurd (omega arith)
    unfit_first e refusal (start ∷ starts) (v ∷ vs) some (more h each) =
        ap (λ (x : Verdict). answer_by refusal (step_count o) 1 (x ∷ vs)) (unfit_verdict start (plan_of (schema_of s) o) (goal_of o) proper e v h)

    verdicts : (vs : List Verdict) → Verdicts (StartVerdict form s o) (start_states o) vs → check form s o end_sheet_size ≡ answer_by (learnable form s) (step_count o) 1 vs
    unfolding starts_answer start_answer
    verdicts vs each = go (decide (unfit_in form s))
      where
        go : (unfit_in form s ≡ true) ⊎ (unfit_in form s ≡ false) → check form s o end_sheet_size ≡ answer_by (learnable form s) (step_count o) 1 vs
        go (inl e) = unfit_check o end_sheet_size e ∙ unfit_first e (learnable form s) (start_states o) vs some_starts.0 each
        go (inr e) =
            check_starts e
            ∙ failing_by (step_count o) (goal_of o) (order_run form s o) (learnable form s) 1 (start_states o)
            ∙ ap (answer_by (learnable form s) (step_count o) 1) (run_verdicts e (start_states o) vs each)

    sheet : (start : State) → start_states o ≡ start ∷ [] → (end : State) → StartVerdict form s o start (passes end)
        → (lent : List ℕ) → length lent ≡ end_sheet_size → Shows (check_bytes form s o lent) end
    unfolding check_bytes kept end_after starts_answer start_answer is_refused unpositioned order_run domain
    sheet start one end h lent long = go (decide (unfit_in form s))
      where
        go : (unfit_in form s ≡ true) ⊎ (unfit_in form s ≡ false) → Shows (check_bytes form s o lent) end
        go (inl e) = absurd (unfit_fails start (plan_of (schema_of s) o) (goal_of o) proper e end h)
        go (inr e) =
            let few = relations_few form s n good in
            let (answer, shown) = pass_shows start (plan_of (schema_of s) o) (goal_of o) proper e (256 * (schema_of s).relations) (omega arith)
            (start_under (schema_of s) (right_schema form s n good).falling o m ordered start (rw one here)) (plan_under (schema_of s) (right_schema form s n good).falling o m ordered) (step_count o) end h in
            let whole = failing_later (start_answer form s o) (step_count o) 1 start [] (rw answer) ∙ failing_none (start_answer form s o) (step_count o) 2 in
            rw (long, check_starts e, one, whole) shown

  -- with two starts or more, success too leaves the sheet as it was
  unwritten : (o : List ℕ) (start other : State) (rest : List State) → start_states o ≡ start ∷ other ∷ rest → (lent : List ℕ) → check_bytes form s o lent ≡ lent
  unfolding check_bytes end_after
  unwritten o start other rest e lent = rw e (kept_same (check form s o (length lent)).answer lent lent refl)

pub demand3 : Demand3
demand3 form s n good =
    record {
      unfit = λ o start. (λ h. h, λ h. h);
      learning = learning form s n good;
      checking = checking form s n good;
      verdicts = verdicts form s n good;
      sheet = sheet form s n good;
      unwritten = unwritten form s n good;
      starts = some_starts form s n good;
      some = λ o m ordered start. some_verdict form s n good start (plan_of (schema_of s) o) (goal_of o) (proper form s n good o m ordered);
      one = λ o start v w. unique (domain (schema_of s)) (FitsBook form s) (plan_of (schema_of s) o) start (goal_of o) v w;
    }
