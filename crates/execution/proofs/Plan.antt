-- The plan's loop, one turn at a time: a step that is inapplicable, one that is not, none left. `i` counts the steps taken.
use Rattle.std.proofs.Common.{ℕ, zero, suc, ◌+◌, ◌-◌, ◌*◌, ◌<◌, ◌≤◌, ◌≡◌, refl, sym, ap, ◌∙◌, Bool, true, false, List, ◌∷◌, add-one, arith}
use Rattle.std.proofs.Math.Numerals.{sub-one}
use Rattle.terms.specs.declared.Step.{Step}
use Rattle.terms.specs.Schema.{Schema}
use Rattle.terms.specs.Steps.{step_at}
use Rattle.limits.specs.Limits.{step_size}
use Rattle.format.specs.Order.{plan_from}
use Rattle.statemask.specs.Statemask.{MoveRules, Executed, execute}
use Rattle.statemask.proofs.Plan.{execute_stop, execute_go}
use Rattle.stepping.specs.Stepping.{StepExecuted}
use Rattle.execution.specs.Execution.{Executable, Executes}

-- what is left of an executable plan behind its first step is executable
pub executable_next : (l o : List ℕ) (n at : ℕ) → Executable l o n at → 0 < n → Executable l o (n - 1) (at + step_size)
executable_next l o n at c some =
    record {
      end = let h = c.end in omega arith;
      within = let h = c.within in omega arith;
      steppable = λ i h.
          let on : at + step_size * suc i ≡ at + step_size + step_size * i = omega arith in
          let l : suc i < n = omega arith in
          rw on at (c.steppable (suc i) l);
    }

plan_more : (o : List ℕ) (n at : ℕ) → 0 < n → plan_from o n at ≡ step_at o at ∷ plan_from o (n - 1) (at + step_size)
unfolding plan_from
plan_more o zero at h = absurd (omega arith)
plan_more o (suc n) at h = rw sub-one

plan_left : (o : List ℕ) (n from i : ℕ) → i < n
    → plan_from o (n - i) (from + step_size * i) ≡ step_at o (from + step_size * i) ∷ plan_from o (n - (i + 1)) (from + step_size * (i + 1))
plan_left o n from i h =
    let left : n - (i + 1) ≡ n - i - 1 = omega arith in
    let at : from + step_size * (i + 1) ≡ from + step_size * i + step_size = omega arith in
    rw (left, at) (plan_more o (n - i) (from + step_size * i) (omega arith))

module _ (sch : Schema) (R : ℕ → MoveRules) (o : List ℕ) (n from : ℕ) where
  -- what the rest of the plan comes to from a state
  abbrev rest : ℕ → List ℕ → Executed
  rest i m = execute sch R (plan_from o (n - i) (from + step_size * i)) m (i + 1)

  pub execute_begin : (m : List ℕ) → rest 0 m ≡ execute sch R (plan_from o n from) m 1
  execute_begin m =
      let left : n - 0 ≡ n = omega arith in
      let at : from + step_size * 0 ≡ from = omega arith in
      rw (left, at) refl

  pub execute_end : (i : ℕ) (m : List ℕ) → n ≤ i → rest i m ≡ record { stop = 0; mask = m }
  unfolding execute plan_from
  execute_end i m h = let left : n - i ≡ 0 = omega arith in rw left refl

  module _ (i : ℕ) (some : i < n) (st : Step) (step : st ≡ step_at o (from + step_size * i)) (m m' : List ℕ) (r : Bool) (taken : StepExecuted sch R st m r m') where
    whole : rest i m ≡ execute sch R (st ∷ plan_from o (n - (i + 1)) (from + step_size * (i + 1))) m (i + 1)
    whole =
        ap (λ (p : List Step). execute sch R p m (i + 1))
        (plan_left o n from i some ∙ ap (λ (s : Step). s ∷ plan_from o (n - (i + 1)) (from + step_size * (i + 1))) (sym step))

    pub execute_here : r ≡ true → rest i m ≡ record { stop = i + 1; mask = m' }
    execute_here e =
        whole ∙ execute_stop sch R st (plan_from o (n - (i + 1)) (from + step_size * (i + 1))) m (i + 1) (sym taken.inapplicable ∙ e)
        ∙ ap (λ (w : List ℕ). record { stop = i + 1; mask = w }) (sym (taken.state ∙ rw e))

    pub execute_more : r ≡ false → rest (i + 1) m' ≡ rest i m
    execute_more e =
        sym (whole ∙ execute_go sch R st (plan_from o (n - (i + 1)) (from + step_size * (i + 1))) m (i + 1) (sym taken.inapplicable ∙ e) ∙ rw (add-one (i + 1), taken.state, e))

pub executes : (sch : Schema) (R : ℕ → MoveRules) (plan : List Step) (old : List ℕ) (number : ℕ) (new : List ℕ)
    → record { stop = number; mask = new } ≡ execute sch R plan old 1 → Executes sch R plan old number new
executes sch R plan old number new e = record { stop = ap (λ (c : Executed). c.stop) e; mask = ap (λ (c : Executed). c.mask) e }
