-- The end sheet's bits are those of right facts: the start has such facts alone, the bound facts of right steps become such, and so a run keeps to them.
use Prim.Native.Nat.{ℕ, zero, suc, ◌*◌, ◌<◌}
use native.Mathlib.Decide.{dec_lt}
use native.Mathlib.Omega.{arith}
use mathlib.Core.Path.{◌≡◌, refl, sym, ◌∙◌, subst}
use mathlib.Core.Bool.{Bool, true, false, not}
use mathlib.Core.List.{List, [], ◌∷◌}
use lib.Dec.{eqb}
use lib.ListN.{length}
use Rattle.limits.specs.Limits.{state_size, end_sheet_size}
use Rattle.truth.specs.Bools.{clash, is_false}
use Rattle.answer.specs.Answer.{Answer, Good, ◌>>=◌, refuse, number, unpositioned, kept}
use Rattle.answer.proofs.Laws.{bind_good}
use Rattle.answer.proofs.Positions.{then_answer}
use Rattle.mask.specs.Bits.{test_bit}
use Rattle.mask.specs.Sets.{mask_of}
use Rattle.mask.proofs.Bytes.{test_past}
use Rattle.mask.proofs.Whole.{length_mask_of, test_mask_of}
use Rattle.format.specs.Form.{Form}
use Rattle.format.specs.LookOver.{look_over}
use Rattle.format.specs.Lists.{list_at}
use Rattle.format.specs.Order.{step_count, start_at, order_form, starts_from, starts, plan}
use Rattle.quantify.specs.Quantify.{Mem, here, first}
use Rattle.model.specs.Domain.{State, GroundAction, GoalLiteral}
use Rattle.model.specs.Model.{Run, stopped, ended}
use Rattle.model.specs.Judge.{wrong}
use Rattle.model.proofs.Impossible.{learned_valid}
use Rattle.jobs.specs.Planning.{domain, ground_action, schema_of, transitions_of, start_states, plan_of, goal_of}
use Rattle.jobs.specs.Learn.{learnable, learned_from}
use Rattle.jobs.specs.Check.{plan_run, order_run, goal_answer, run_answer, start_answer, starts_answer, check, end_sheet, end_after, check_bytes}
use Rattle.wellformed.specs.Right.{RightOrder}
use Rattle.wellformed.specs.Grounding.{fact_of}
use Rattle.wellformed.proofs.Headers.{right_schema}
use Rattle.wellformed.proofs.Formed.{formed}
use Rattle.quantify.proofs.Mapped.{mem_map_out}
use Rattle.factsets.proofs.Holding.{holding_out}
use Rattle.wellformed.proofs.Atoms.{ground_number, fact_right}
use Rattle.wellformed.proofs.Orders.{order_right}
use Rattle.wellformed.proofs.Ends.{HoldsOnly, run_holds_only}
use Rattle.wellformed.proofs.Learnable.{unfit_in, fit_clean, learnable_fit, learnable_unfit}
use Rattle.demand.specs.EndSheet.{RightNumber, RightBits, EndSheetRight}
use Rattle.demand.proofs.EachStart.{only_answer, ready, check_ready, refused_check}
use Rattle.factsets.specs.Holding.{holding}
use Rattle.answer.specs.Table.{is_impossible}
use Rattle.answer.proofs.Refusals.{impossible_refused}

-- a run whose answer has number 0 ends, and its answer is good
run_passes : (steps : ℕ) (goal : List GoalLiteral) (r : Run) → number (run_answer steps goal r) ≡ 0 → (end : State) × (r ≡ ended end) × (run_answer steps goal r ≡ Good steps)
unfolding run_answer goal_answer number
run_passes steps goal (stopped k) e = absurd (omega arith)
run_passes steps goal (ended end) e = (end, refl, go (first (wrong end) goal) e)
  where
    go : (i : ℕ) → number (goal_answer steps i) ≡ 0 → goal_answer steps i ≡ Good steps
    go zero e = refl
    go (suc i) e = absurd (omega arith)

-- row 13 is not met where the number is 0
not_refused : (b : Bool) (a : Answer) → number (refuse b 13 0 >>= λ _. a) ≡ 0 → (refuse b 13 0 >>= λ _. a) ≡ a
unfolding ◌>>=◌ refuse number
not_refused true a e = absurd (omega arith)
not_refused false a e = refl

module _ (form : Form) (s : List ℕ) (k : ℕ) (looked : look_over form s ≡ Good k) (o : List ℕ) (m : ℕ) (ordered : order_form (schema_of s) o ≡ Good m) where
  right : RightOrder (schema_of s) o
  right = order_right (schema_of s) (right_schema form s k looked).falling o m ordered

  -- ---- right facts

  start_within : (start : State) → Mem start (start_states o) → HoldsOnly (RightNumber s o) start
  unfolding start_states
  start_within start i =
      let (fs, j, q) = mem_map_out holding (starts o) i in
      subst (λ (st : State). HoldsOnly (RightNumber s o) st) q
      (λ n e.
      let (f, mem, number) = holding_out fs n e in
      (f, (right.starts fs j).suits f mem, number))

  plan_within : (t : GroundAction) → Mem t (plan_of (schema_of s) o) → (n : ℕ) → (domain (schema_of s)).atom t.action n ≡ true → RightNumber s o (t.ground n)
  unfolding plan_of ground_action domain
  plan_within t i =
      let (st, j, q) = mem_map_out (ground_action (schema_of s)) (plan o) i in
      subst (λ (u : GroundAction). (n : ℕ) → (domain (schema_of s)).atom u.action n ≡ true → RightNumber s o (u.ground n)) q
      (λ n atom. (fact_of (schema_of s) st.binding n, fact_right (schema_of s) _ st (right.steps st j) n atom, ground_number (schema_of s) st.binding n))

  -- ---- a pass

  module _ (lent : List ℕ) (pass : number (check form s o (length lent)).answer ≡ 0) where
    fit : unfit_in form s ≡ false
    unfolding unpositioned number
    fit =
        is_false _
        (λ e.
        let (num, p, q, h) = learnable_unfit form s k looked e in
        let z : num ≡ 0 = rw (refused_check form s o num p q (length lent)) at pass in
        clash (is_impossible 0) (rw z at h) impossible_refused)

    end_within : (start : State) → Mem start (start_states o) → (end : State) → order_run form s o start ≡ ended end → HoldsOnly (RightNumber s o) end
    unfolding order_run plan_run learned_from
    end_within start i end e =
        let valid = learned_valid (domain (schema_of s)) (transitions_of form s) (formed form s k looked) (fit_clean form s fit) in
        run_holds_only (domain (schema_of s)) (learned_from form s) valid (RightNumber s o) (plan_of (schema_of s) o) plan_within start (start_within start i) 1 end e

    module _ (start : State) (only : start_states o ≡ start ∷ []) where
      -- only rows 13, 19 and 20 are left
      answer_is : (check form s o (length lent)).answer ≡ (refuse (not (eqb (length lent) end_sheet_size)) 13 0 >>= λ _. start_answer form s o start)
      unfolding starts_answer
      answer_is =
          rw (check_ready form s o m (length lent) ordered, then_answer (ready form s o (length lent)) (starts_answer form s o), only, only_answer form s o start, bind_good (learnable form s) _ k (learnable_fit form s k looked fit))

      -- a run that ends leaves the mask of its end
      mask_is : (end : State) → (check form s o (length lent)).answer ≡ Good (step_count o) → order_run form s o start ≡ ended end → check_bytes form s o lent ≡ mask_of state_size end
      unfolding check_bytes kept end_after end_sheet
      mask_is end good ends = rw (good, only, ends)

      -- the sheet is the mask of a state that has right facts alone
      sheet_is : (end : State) × HoldsOnly (RightNumber s o) end × (check_bytes form s o lent ≡ mask_of state_size end)
      unfolding start_answer
      sheet_is =
          let same = answer_is ∙ not_refused (not (eqb (length lent) end_sheet_size)) (start_answer form s o start) (rw answer_is at pass) in
          let (end, ends, good) = run_passes (step_count o) (goal_of o) (order_run form s o start) (rw same at pass) in
          (end, end_within start (rw only here) end ends, mask_is end (same ∙ good) ends)

      bits : RightBits s o (check_bytes form s o lent)
      bits =
          let (end, within, is) = sheet_is in
          let set : (n : ℕ) → test_bit (check_bytes form s o lent) n ≡ true → RightNumber s o n = λ n e. go end within n (rw is at e) in
          record { set = set; others = λ n none. is_false _ (λ e. none (set n e)) }
        where
          go : (end : State) → HoldsOnly (RightNumber s o) end → (n : ℕ) → test_bit (mask_of state_size end) n ≡ true → RightNumber s o n
          go end within n e = by (dec_lt n (8 * state_size))
            where
              by : Dec (n < 8 * state_size) → RightNumber s o n
              by (yes l) = within n (sym (test_mask_of state_size end n l) ∙ e)
              by (no l) = clash _ e (test_past (mask_of state_size end) n (omega (arith, length_mask_of state_size end)))

pub end_sheet_right : EndSheetRight
unfolding start_states starts starts_from
end_sheet_right form s k looked o m ordered one lent pass = bits form s k looked o m ordered lent pass (holding (list_at o (start_at o))) (rw one)
