-- Checking an order against two books with the same transitions: answers that are the same but for the places of 11 and 28, the same position, the
-- same end sheet.
use Prim.Native.Nat.{ℕ}
use mathlib.Core.Path.{◌≡◌, ap, ◌∙◌}
use mathlib.Core.Bool.{not}
use mathlib.Core.List.{List}
use lib.Dec.{eqb}
use lib.ListN.{length}
use Rattle.answer.specs.Answer.{refuse}
use Rattle.answer.proofs.Laws.{bind_cong}
use Rattle.limits.specs.Limits.{end_sheet_size}
use Rattle.format.specs.Form.{Form}
use Rattle.format.specs.Order.{step_count}
use Rattle.model.specs.Domain.{State}
use Rattle.model.specs.Model.{Model, Run, run}
use Rattle.jobs.specs.Planning.{domain, schema_of, start_states, plan_of, goal_of}
use Rattle.jobs.specs.Learn.{learned_from}
use Rattle.jobs.specs.Check.{plan_run, order_run, run_answer, start_answer, first_failing, starts_answer, before_plan, check, end_sheet, end_after, check_bytes}
use Rattle.wellformed.proofs.Headers.{right_schema}
use Rattle.twins.specs.Twins.{SameTransitions}
use Rattle.twins.proofs.Answers.{Twin, equal, twin_bind, twin_kept, twin_then, twin_position}
use Rattle.twins.proofs.Order.{order_form_same}
use Rattle.twins.proofs.Books.{own, learned_same, runs_same}
use Rattle.twins.proofs.Learning.{learnable_twin}

module _ (f g : Form) (s t : List ℕ) (n : ℕ) (same : SameTransitions f g s t n) (o : List ℕ) where
  -- from each start the plan comes to the same
  run_same : order_run f s o ≡ order_run g t o
  unfolding order_run plan_run
  run_same =
      λ i start.
      (runs_same f g s t n same (learned_from f s) (own f g s t n same) o start 1
      ∙ ap (λ (M : Model). run (domain (schema_of t)) M (plan_of (schema_of t) o) start 1) (learned_same f g s t n same))
      i

  starts_answer_same : starts_answer f s o ≡ starts_answer g t o
  unfolding starts_answer start_answer
  starts_answer_same =
      ap (λ (r : State → Run). first_failing (λ start. run_answer (step_count o) (goal_of o) (r start)) (step_count o) 1 (start_states o)) run_same

  before_plan_twin : (size : ℕ) → Twin (before_plan f s o size) (before_plan g t o size)
  unfolding before_plan
  before_plan_twin size =
      twin_bind _ _ _ _ (learnable_twin f g s t n same)
      (λ total.
      equal
      (bind_cong (refuse (not (eqb size end_sheet_size)) 13 0) _ _
      (λ x.
      order_form_same (schema_of s) (schema_of t) same.comparable.schema same.comparable.kinds (right_schema f s n same.comparable.good).falling (right_schema g t n same.comparable.good').falling o)))

  -- The check's answer is the same but for the places of 11 and 28,
  pub check_twin : (size : ℕ) → Twin (check f s o size).answer (check g t o size).answer
  unfolding check
  check_twin size = twin_then _ _ _ _ starts_answer_same (before_plan_twin size)

  -- its position is the same,
  pub position_same : (size : ℕ) → (check f s o size).position ≡ (check g t o size).position
  unfolding check
  position_same size = twin_position _ _ _ _ starts_answer_same (before_plan_twin size)

  -- and so is what the lent end sheet holds afterwards.
  pub check_bytes_same : (lent : List ℕ) → check_bytes f s o lent ≡ check_bytes g t o lent
  unfolding check_bytes
  check_bytes_same lent =
      twin_kept _ _ _ _ lent (check_twin (length lent))
      (ap (λ (r : State → Run). end_after (λ start. end_sheet (r start)) (start_states o) lent) run_same)
