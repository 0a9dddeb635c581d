-- Bounds of what each call answers, whatever the bytes: so number, position and place can be packed.
use Prim.Native.Nat.{ℕ, zero, suc, ◌+◌, ◌≤◌, ◌<◌}
use mathlib.Core.Path.{◌≡◌, refl, sym, ap, subst}
use mathlib.Core.Logic.{◌⊎◌, inl, inr}
use mathlib.Core.Bool.{true, false, not}
use mathlib.Core.List.{List}
use native.Mathlib.Omega.{arith}
use lib.ListN.{length, length-map}
use borrow.Author.Tests.{ltb-false}
use Rattle.truth.specs.Bools.{clash}
use Rattle.answer.specs.Answer.{Answer, Good, Refused, Positioned, is_refused, number, unpositioned, then_at}
use Rattle.answer.proofs.Laws.{passed, parted, bind_assoc}
use Rattle.answer.proofs.Positions.{then_answer}
use Rattle.terms.specs.Schema.{Schema}
use Rattle.limits.specs.Limits.{max_length, max_moves, max_steps, max_starts, max_entries, entry_size}
use Rattle.format.specs.LookOver.{look_over}
use Rattle.format.specs.Form.{Form}
use Rattle.format.specs.Records.{steps}
use Rattle.format.specs.Order.{step_count, goal_count, goal, goal_from, order_form}
use Rattle.answer.proofs.Bounds.{Bounded, bounded_good, bounded_then, bounded_row, bounded_wider}
use Rattle.lookover.proofs.Laws.{look_over_bounded}
use Rattle.quantify.specs.Quantify.{first, least}
use Rattle.model.specs.Domain.{State, GroundAction, Transition, GoalLiteral}
use Rattle.model.specs.Model.{Run, stopped, ended}
use Rattle.model.specs.Judge.{wrong}
use Rattle.model.specs.Learned.{conflicting}
use Rattle.quantify.proofs.Quantify.{first_most, least_law}
use Rattle.model.proofs.Lockstep.{run_within}
use Rattle.jobs.specs.Planning.{domain, went_steps, failed_steps, schema_of, steps_of_book, transitions_of, start_states, goal_of, plan_of}
use Rattle.jobs.specs.Learn.{unbound_effects, conflict_answer, conflicting_move, inconsistency, refuted_steps, refutation, learnable, learn}
use Rattle.jobs.specs.Add.{add}
use Rattle.jobs.specs.Convert.{converted, convert}
use Rattle.jobs.specs.Check.{plan_run, order_run, goal_answer, run_answer, start_answer, starts_answer, before_plan, check}
use Rattle.jobs.proofs.FirstRefused.{first_refused_bounded}
use Rattle.jobs.proofs.Parted.{went_out, failed_out}
use Rattle.jobs.proofs.Starts.{failing_all, failing_some, failing_position}
use Rattle.wellformed.proofs.Headers.{moves_few}
use Rattle.wellformed.proofs.Records.{recorded_placed}
use Rattle.wellformed.proofs.Orders.{length_plan, length_start_states}
use Rattle.format.proofs.OrderForm.{order_good, order_bounded}
use Rattle.adding.proofs.Bounds.{add_bounded}
use Rattle.changeover.proofs.Laws.{Fits, fits_by}

-- ---- row 12: the move is one of the book's
conflicting_bounded : (sch : Schema) (ts : List Transition) → sch.moves ≤ max_moves → Bounded max_length (conflicting_move sch ts)
unfolding conflicting_move conflict_answer Bounded
conflicting_bounded sch ts few = go (least sch.moves (conflicting (domain sch) ts)) (least_law (conflicting (domain sch) ts) sch.moves)
  where
    go : (k : ℕ) → Rattle.quantify.proofs.Quantify.Least (conflicting (domain sch) ts) sch.moves k → Bounded max_length (conflict_answer k)
    go zero law = omega arith
    go (suc a) law = (omega arith, omega (arith, law.0))

learnable_bounded : (form : Form) (s : List ℕ) → Bounded max_length (learnable form s)
unfolding learnable inconsistency unbound_effects refutation refuted_steps
learnable_bounded form s =
    bounded_then max_length _ _ (look_over_bounded form s)
    (λ total e l.
    bounded_then max_length _ _
    (bounded_then max_length _ _
    (first_refused_bounded _ 11 _ max_length (omega arith) (went_steps (steps_of_book form s)) (λ f m. recorded_placed form s total e f (went_out (steps_of_book form s) m).0))
    (λ n i j. conflicting_bounded (schema_of s) (transitions_of form s) (moves_few form s total e)))
    (λ n i j.
    bounded_then max_length _ _
    (first_refused_bounded _ 28 _ max_length (omega arith) (failed_steps (steps_of_book form s)) (λ f m. recorded_placed form s total e f (failed_out (steps_of_book form s) m).0))
    (λ k h b. bounded_good max_length total l)))

learn_bounded : (form : Form) (s : List ℕ) (size : ℕ) → Bounded max_length (learn form s size)
unfolding learn
learn_bounded form s size =
    bounded_then max_length _ _ (learnable_bounded form s)
    (λ total e l. bounded_row max_length _ 13 0 _ (omega arith) (omega arith) (λ f. bounded_good max_length total l))

-- ---- rows 19 and 20: a step of the plan, an entry of the goal
goal_length : (o : List ℕ) (n at : ℕ) → length (goal_from o n at) ≡ n
unfolding goal_from
goal_length o zero at = refl
goal_length o (suc n) at = ap suc (goal_length o n (at + entry_size))

goal_count_lem : (o : List ℕ) → length (goal_of o) ≡ goal_count o
unfolding goal_of goal
goal_count_lem o = simp length-map (goal_length o _ _)

plan_count : (s o : List ℕ) → length (plan_of (schema_of s) o) ≡ step_count o
unfolding plan_of
plan_count s o = simp length-map (length_plan o)

-- of a plan from any start, with any goal
plan_bounded : (form : Form) (s : List ℕ) (start : State) (plan : List GroundAction) (goal : List GoalLiteral) (steps : ℕ)
    → steps ≤ max_steps → length plan ≤ max_steps → length goal ≤ max_entries → Bounded max_length (run_answer steps goal (plan_run form s start plan))
unfolding plan_run run_answer goal_answer Bounded
plan_bounded form s start plan goal steps few short least = go (plan_run form s start plan) (λ k e. (run_within _ _ plan start 1 k e).1)
  where
    go : (r : Run) → ((k : ℕ) → r ≡ stopped k → k < 1 + length plan) → Bounded max_length (run_answer steps goal r)
    go (stopped k) stop = (omega arith, let h = stop k refl in omega arith)
    go (ended end) stop = reach (first (wrong end) goal) (first_most (wrong end) goal)
      where
        reach : (i : ℕ) → i ≤ length goal → Bounded max_length (goal_answer steps i)
        reach zero h = omega arith
        reach (suc i) h = (omega arith, omega arith)

-- ---- the position: that of a start, and of a refusal by 19 or 20
start_bounded : (form : Form) (s o : List ℕ) (n : ℕ) (start : State) → order_form (schema_of s) o ≡ Good n → Bounded max_length (start_answer form s o start)
unfolding start_answer order_run
start_bounded form s o n start ordered =
    let h = (order_good (schema_of s) o n ordered).header in
    plan_bounded form s start (plan_of (schema_of s) o) (goal_of o) (step_count o) h.steps (rw (plan_count s o) h.steps) (rw (goal_count_lem o) h.entries)

-- a start fails by 19 or 20
start_row : (form : Form) (s o : List ℕ) (start : State) → is_refused (start_answer form s o start) ≡ true → (number (start_answer form s o start) ≡ 19) ⊎ (number (start_answer form s o start) ≡ 20)
unfolding start_answer run_answer goal_answer is_refused number
start_row form s o start e = go (order_run form s o start) e
  where
    go : (r : Run) → is_refused (run_answer (step_count o) (goal_of o) r) ≡ true → (number (run_answer (step_count o) (goal_of o) r) ≡ 19) ⊎ (number (run_answer (step_count o) (goal_of o) r) ≡ 20)
    go (stopped k) e = inl refl
    go (ended end) e = reach (first (wrong end) (goal_of o)) e
      where
        reach : (i : ℕ) → is_refused (goal_answer (step_count o) i) ≡ true → (number (goal_answer (step_count o) i) ≡ 19) ⊎ (number (goal_answer (step_count o) i) ≡ 20)
        reach zero e = clash false e refl
        reach (suc i) e = inr refl

starts_bounded : (form : Form) (s o : List ℕ) (n : ℕ) → order_form (schema_of s) o ≡ Good n → Bounded max_length (starts_answer form s o).answer × ((starts_answer form s o).position ≤ 1 + max_starts)
unfolding starts_answer
starts_bounded form s o n ordered =
    let h = (order_good (schema_of s) o n ordered).header in
    let w = failing_position (start_answer form s o) (step_count o) 1 (start_states o) in
    (failing_all (start_answer form s o) (step_count o) (Bounded max_length) (bounded_good max_length _ (omega (arith, h.steps))) 1 (start_states o) (λ start m. start_bounded form s o n start ordered), omega (arith, w, length_start_states o, h.starts))

starts_row : (form : Form) (s o : List ℕ) → ((starts_answer form s o).position ≡ 0) ⊎ ((number (starts_answer form s o).answer ≡ 19) ⊎ (number (starts_answer form s o).answer ≡ 20))
unfolding starts_answer
starts_row form s o = failing_some (start_answer form s o) (step_count o) (λ a. (number a ≡ 19) ⊎ (number a ≡ 20)) (start_row form s o) 1 (start_states o)

-- what rows 1 to 18 let pass has an order of good form
form_good : (form : Form) (s o : List ℕ) (size n : ℕ) → before_plan form s o size ≡ Good n → order_form (schema_of s) o ≡ Good n
unfolding before_plan
form_good form s o size n e = let (total, learns, rest) = parted (learnable form s) n _ e in (passed _ 13 0 n _ rest).1

check_bounded : (form : Form) (s o : List ℕ) (size : ℕ) → Bounded max_length (check form s o size).answer
unfolding check before_plan
check_bounded form s o size =
    subst (λ (x : Answer). Bounded max_length x) (sym (then_answer (before_plan form s o size) (starts_answer form s o)))
    (subst (λ (x : Answer). Bounded max_length x) (sym (bind_assoc (learnable form s) _ _))
    (bounded_then max_length _ _ (learnable_bounded form s)
    (λ total e l.
    subst (λ (x : Answer). Bounded max_length x) (sym (bind_assoc _ _ _))
    (bounded_row max_length _ 13 0 _ (omega arith) (omega arith)
    (λ f.
    bounded_then max_length _ _ (bounded_wider _ max_length _ (omega arith) (order_bounded (schema_of s) o))
    (λ n i j. (starts_bounded form s o n i).0))))))

abbrev Positions : Positioned → Type 0
Positions r = (r.position ≤ 1 + max_starts) × ((r.position ≡ 0) ⊎ ((number r.answer ≡ 19) ⊎ (number r.answer ≡ 20)))

-- the position of a check is small enough to be packed, and 0 unless by 19 or 20
check_position : (form : Form) (s o : List ℕ) (size : ℕ) → Positions (check form s o size)
unfolding check then_at unpositioned
check_position form s o size = go (before_plan form s o size) refl
  where
    go : (a : Answer) → before_plan form s o size ≡ a → Positions (then_at a (starts_answer form s o))
    go (Good n) e = ((starts_bounded form s o n (form_good form s o size n e)).1, starts_row form s o)
    go (Refused m p) e = (omega arith, inl refl)

pub look_over_fits : (form : Form) (s : List ℕ) → Fits (look_over form s) 0
look_over_fits form s = fits_by max_length _ 0 (look_over_bounded form s) (omega arith) (omega arith)

pub learn_fits : (form : Form) (s : List ℕ) (size : ℕ) → Fits (learn form s size) 0
learn_fits form s size = fits_by max_length _ 0 (learn_bounded form s size) (omega arith) (omega arith)

pub check_fits : (form : Form) (s o : List ℕ) (size : ℕ) → Fits (check form s o size).answer (check form s o size).position
check_fits form s o size = fits_by max_length _ _ (check_bounded form s o size) (omega arith) (omega (arith, (check_position form s o size).0))

pub check_elsewhere : (form : Form) (s o : List ℕ) (size : ℕ) → (number (check form s o size).answer ≡ 19 → ⊥) → (number (check form s o size).answer ≡ 20 → ⊥) → (check form s o size).position ≡ 0
check_elsewhere form s o size not19 not20 = go (check_position form s o size).1
  where
    go : ((check form s o size).position ≡ 0) ⊎ ((number (check form s o size).answer ≡ 19) ⊎ (number (check form s o size).answer ≡ 20)) → (check form s o size).position ≡ 0
    go (inl e) = e
    go (inr (inl e)) = absurd (not19 e)
    go (inr (inr e)) = absurd (not20 e)

pub add_fits : (form : Form) (s r : List ℕ) (size : ℕ) → Fits (add form s r size) 0
add_fits form s r size = fits_by max_length _ 0 (add_bounded form s r size) (omega arith) (omega arith)

-- rows 1 to 10 and 27, then 23 and 13
convert_bounded : (to : Form) (s : List ℕ) (size : ℕ) → Bounded max_length (convert to s size)
unfolding convert
convert_bounded to s size =
    bounded_then max_length _ _ (look_over_bounded (not to) s)
    (λ total e l.
    bounded_row max_length _ 23 0 _ (omega arith) (omega arith)
    (λ f.
    bounded_row max_length _ 13 0 _ (omega arith) (omega arith) (λ g. bounded_good max_length _ (ltb-false max_length (length (converted to s)) f))))

pub convert_fits : (to : Form) (s : List ℕ) (size : ℕ) → Fits (convert to s size) 0
convert_fits to s size = fits_by max_length _ 0 (convert_bounded to s size) (omega arith) (omega arith)
