-- A plan over masks comes to what it comes to under the model, and so do rows 19 and 20.
use Prim.Native.Nat.{ℕ, zero, suc, ◌≤◌}
use native.Mathlib.Omega.{arith}
use mathlib.Core.Path.{◌≡◌, refl, sym, ap, subst, subst₂, ◌∙◌}
use mathlib.Core.Logic.{◌⊎◌, inl, inr}
use mathlib.Core.Bool.{Bool, true, false, not}
use mathlib.Core.List.{List, [], ◌∷◌, map}
use Rattle.truth.specs.Bools.{decide}
use Rattle.limits.specs.Limits.{state_size, max_atoms}
use Rattle.terms.specs.declared.Fact.{Fact}
use Rattle.terms.specs.declared.Step.{Step}
use Rattle.terms.specs.Schema.{Schema}
use Rattle.terms.specs.Facts.{fact_number}
use Rattle.format.specs.Order.{GoalEntry}
use Rattle.mask.specs.Sets.{mask_of}
use Rattle.quantify.specs.Quantify.{same, first, here, there}
use Rattle.model.specs.Domain.{Domain, State, GroundAction}
use Rattle.model.specs.Model.{Model, Valid, Run, stopped, ended, inapplicable, next, run}
use Rattle.model.specs.Judge.{wrong}
use Rattle.quantify.proofs.Quantify.{first_map}
use Rattle.model.proofs.Lockstep.{run_stop, run_go}
use Rattle.jobs.specs.Planning.{ground_action, goal_entry}
use Rattle.jobs.specs.Check.{run_answer, end_sheet}
use Rattle.statemask.specs.Statemask.{MoveRules, start_mask, step_inapplicable, step_next, Executed, execute, missed, misses}
use Rattle.statemask.specs.Executing.{AllInMask, Ruled, InMask, Executing, Agrees, executed_answer}
use Rattle.statemask.proofs.Masks.{test_mask, start_mask_lem}
use Rattle.statemask.proofs.Step.{next_under, inapplicable_mask, next_mask}
use Rattle.factsets.specs.Holding.{holding}

module _ (sch : Schema) (R : ℕ → MoveRules) (st : Step) (plan : List Step) (m : List ℕ) (k : ℕ) where
  pub execute_stop : step_inapplicable sch R st m ≡ true → execute sch R (st ∷ plan) m k ≡ record { stop = k; mask = m }
  unfolding execute
  execute_stop e = rw (e, execute)

  pub execute_go : step_inapplicable sch R st m ≡ false → execute sch R (st ∷ plan) m k ≡ execute sch R plan (step_next sch R st m) (suc k)
  unfolding execute
  execute_go e = rw (e, execute)

module _ (D : Domain) (M : Model) (sch : Schema) (R : ℕ → MoveRules) where
  module _ (few : D.atoms ≤ max_atoms) (valid : Valid D M) (s : Step) (fits : InMask D (ground_action sch s)) (st : State) (under : AllInMask st) where
    step_inapplicable_lem : Ruled M s.action.0 (R s.action.0) → step_inapplicable sch R s (mask_of state_size st) ≡ inapplicable D M (ground_action sch s) st
    unfolding step_inapplicable ground_action
    step_inapplicable_lem ruled = inapplicable_mask D M few valid (ground_action sch s) fits (R s.action.0) ruled st under

    step_next_lem : Ruled M s.action.0 (R s.action.0) → step_next sch R s (mask_of state_size st) ≡ mask_of state_size (next D M (ground_action sch s) st)
    unfolding step_next ground_action
    step_next_lem ruled = next_mask D M few valid (ground_action sch s) fits (R s.action.0) ruled st under

  -- The plan over the mask of a state comes to what it comes to from the state.
  pub execute_run : (plan : List Step) → Executing D M sch R plan → (st : State) → AllInMask st → (k : ℕ) → 1 ≤ k
      → Agrees (execute sch R plan (mask_of state_size st) k) (run D M (map (ground_action sch) plan) st k)
  unfolding execute run
  execute_run [] c st under k h = (refl, refl, under)
  execute_run (s ∷ plan) c st under k h =
      go (decide (inapplicable D M t st)) (execute_run plan rest (next D M t st) (next_under D M c.few c.valid t fits st under) (suc k) (omega arith))
    where
      t : GroundAction
      t = ground_action sch s

      fits : InMask D t
      fits = c.in_mask s here

      rest : Executing D M sch R plan
      rest = record { few = c.few; valid = c.valid; ruled = λ r m. c.ruled r (there m); in_mask = λ r m. c.in_mask r (there m) }

      halts : step_inapplicable sch R s (mask_of state_size st) ≡ inapplicable D M t st
      halts = step_inapplicable_lem c.few c.valid s fits st under (c.ruled s here)

      moves : step_next sch R s (mask_of state_size st) ≡ mask_of state_size (next D M t st)
      moves = step_next_lem c.few c.valid s fits st under (c.ruled s here)

      go : (inapplicable D M t st ≡ true) ⊎ (inapplicable D M t st ≡ false)
          → Agrees (execute sch R plan (mask_of state_size (next D M t st)) (suc k)) (run D M (map (ground_action sch) plan) (next D M t st) (suc k))
          → Agrees (execute sch R (s ∷ plan) (mask_of state_size st) k) (run D M (t ∷ map (ground_action sch) plan) st k)
      go (inl e) deeper =
          subst₂ Agrees (sym (execute_stop sch R s plan (mask_of state_size st) k (halts ∙ e))) (sym (run_stop D M t (map (ground_action sch) plan) st k e)) (refl, h)
      go (inr e) deeper =
          subst₂ Agrees
          (sym (execute_go sch R s plan (mask_of state_size st) k (halts ∙ e) ∙ ap (λ m. execute sch R plan m (suc k)) moves))
          (sym (run_go D M t (map (ground_action sch) plan) st k e))
          deeper

-- The first goal entry that the mask misses is the first that is wrong in the state.
pub missed_first : (end : State) → AllInMask end → (goal : List GoalEntry) → missed (mask_of state_size end) goal ≡ first (wrong end) (map goal_entry goal)
unfolding missed misses wrong goal_entry
missed_first end under goal =
    first_map _ _ goal_entry (λ e. ap (λ (t : Bool). not (same t e.wanted)) (test_mask end under (fact_number e.fact))) goal

-- ---- rows 19 and 20
-- What the check answers to a run it answers to the masks that agree with it.
pub agrees_answer : (steps : ℕ) (goal : List GoalEntry) (c : Executed) (r : Run) → Agrees c r → run_answer steps (map goal_entry goal) r ≡ executed_answer steps goal c
unfolding run_answer executed_answer
agrees_answer steps goal c (stopped zero) a = absurd (omega arith)
agrees_answer steps goal c (stopped (suc k)) a = rw a.0
agrees_answer steps goal c (ended end) a = rw (a.0, a.1, missed_first end a.2 goal)

-- Where no step stops, the end sheet is the mask.
pub agrees_sheet : (c : Executed) (r : Run) → Agrees c r → c.stop ≡ 0 → c.mask ≡ end_sheet r
unfolding end_sheet
agrees_sheet c (stopped k) a e = absurd (omega arith)
agrees_sheet c (ended end) a e = a.1

-- ---- from a start
module _ (D : Domain) (M : Model) (sch : Schema) (R : ℕ → MoveRules) (plan : List Step) (c : Executing D M sch R plan) (fs : List Fact) (under : AllInMask (holding fs)) where
  pub execute_start : Agrees (execute sch R plan (start_mask fs) 1) (run D M (map (ground_action sch) plan) (holding fs) 1)
  execute_start =
      subst (λ (m : List ℕ). Agrees (execute sch R plan m 1) (run D M (map (ground_action sch) plan) (holding fs) 1)) (sym (start_mask_lem fs))
      (execute_run D M sch R plan c (holding fs) under 1 (omega arith))

  pub execute_answer : (steps : ℕ) (goal : List GoalEntry)
      → run_answer steps (map goal_entry goal) (run D M (map (ground_action sch) plan) (holding fs) 1) ≡ executed_answer steps goal (execute sch R plan (start_mask fs) 1)
  execute_answer steps goal = agrees_answer steps goal _ _ execute_start
