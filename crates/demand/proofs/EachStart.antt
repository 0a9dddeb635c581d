-- "From each start alone", proved: an order with one of its starts alone is of good form and has that start, the goal and the plan; so its check says
-- what the plan comes to from that start.
use Prim.Native.Nat.{ℕ, zero, suc, ◌+◌, ◌≤◌, ◌<◌}
use mathlib.Core.Path.{◌≡◌, refl, sym, ap, ◌∙◌, subst}
use mathlib.Core.Logic.{◌⊎◌, inl, inr}
use mathlib.Core.Bool.{Bool, true, false, not}
use mathlib.Core.List.{List, [], ◌∷◌, map}
use native.Mathlib.Omega.{arith}
use lib.Dec.{eqb}
use lib.ListN.{length}
use Rattle.truth.specs.Bools.{clash, decide}
use Rattle.answer.specs.Answer.{Answer, Good, Refused, Positioned, ◌>>=◌, refuse, is_refused, unpositioned, then_at}
use Rattle.answer.proofs.Laws.{bind_good, bind_refused}
use Rattle.answer.proofs.Positions.{then_by}
use Rattle.answer.specs.Walk.{walk}
use Rattle.limits.specs.Limits.{header_size, end_sheet_size, max_facts}
use Rattle.input.specs.Bytes.{byte_at}
use Rattle.terms.specs.Schema.{Schema, typed_objects}
use Rattle.format.specs.Form.{Form}
use Rattle.format.specs.States.{state}
use Rattle.format.specs.Lists.{list_at, list_end}
use Rattle.format.specs.Order.{object_count, start_count, step_count, start_at, goal_at, order_objects, order_form, starts_from, starts, goal, plan}
use Rattle.format.proofs.States.{list_good, list_ends}
use Rattle.format.proofs.OrderForm.{OrderGood, order_good}
use Rattle.quantify.specs.Quantify.{Mem, here, there, first}
use Rattle.model.specs.Domain.{State, GoalLiteral}
use Rattle.model.specs.Model.{Run, stopped, ended}
use Rattle.model.specs.Judge.{wrong}
use Rattle.jobs.specs.Planning.{schema_of, start_states, plan_of, goal_of}
use Rattle.jobs.specs.Learn.{learnable}
use Rattle.jobs.specs.Check.{order_run, goal_answer, run_answer, start_answer, first_failing, starts_answer, before_plan, check, check_bytes}
use Rattle.jobs.specs.Alone.{alone_at, alone_from, alone}
use Rattle.jobs.proofs.Starts.{failing_none, failing_here, failing_later, failing_same, failing_map}
use Rattle.demand.specs.EachStart.{FromEachStart}
use Rattle.demand.proofs.Alone.{StartIn, start_end, objects_there}
use Rattle.demand.proofs.AloneRead.{objects_same, steps_same, starts_alone_lem, goal_same, plan_same}
use Rattle.demand.proofs.AloneGood.{alone_good}
use Rattle.factsets.specs.Holding.{holding}
use Rattle.answer.proofs.Walks.{walk_parted}
use Rattle.format.specs.Filed.{as_written}

-- ---- the starts of an order of good form

module _ (sch : Schema) (o : List ℕ) (m : ℕ) (good : OrderGood sch o m) where
  abbrev item : ℕ → Answer
  item = state as_written 16 sch (typed_objects (order_objects o) o) o (goal_at o)

  -- so many good starts, the first of which is at the offset
  abbrev GoodFrom : ℕ → ℕ → Type 0
  GoodFrom n at = (start_at o ≤ at) × (walk item n at ≡ Good (goal_at o))

  from_first : GoodFrom (start_count o) (start_at o)
  from_first = (omega arith, good.starts)

  -- the first of them is a start, and those after it are good
  start_parted : (n at : ℕ) → GoodFrom (suc n) at → StartIn o at × (item at ≡ Good (list_end o at)) × GoodFrom n (list_end o at)
  start_parted n at (low, e) =
      let (next, one, rest) = walk_parted item n at (goal_at o) e in
      let (place, within) = list_ends as_written max_facts 16 sch (typed_objects (order_objects o) o) o (goal_at o) at next one in
      let few = (list_good as_written max_facts 16 sch (typed_objects (order_objects o) o) o (goal_at o) at next one).1 in (
        record { header = good.header; low = low; high = within; few = few },
        one ∙ ap Good place,
        (omega (arith, start_end o at), subst (λ (x : ℕ). walk item n x ≡ Good (goal_at o)) place rest),
      )

  -- what holds of each start alone
  each : (P : List ℕ → Type 0) → ((at : ℕ) → StartIn o at → item at ≡ Good (list_end o at) → P (alone_at o at))
      → (n at : ℕ) → GoodFrom n at → (p : List ℕ) → Mem p (alone_from o n at) → P p
  unfolding alone_from
  each P one zero at good p x'' = elim x'' [ ]
  each P one (suc n) at good p here = let (start, right, rest) = start_parted n at good in one at start right
  each P one (suc n) at good p (there i) = let (start, right, rest) = start_parted n at good in each P one n (list_end o at) rest p i

  pub each_alone : (P : List ℕ → Type 0) → ((at : ℕ) → StartIn o at → item at ≡ Good (list_end o at) → P (alone_at o at)) → (p : List ℕ) → Mem p (alone o) → P p
  unfolding alone
  each_alone P one = each P one (start_count o) (start_at o) from_first

  one_from : (n at : ℕ) → GoodFrom n at → map starts (alone_from o n at) ≡ map (λ start. start ∷ []) (starts_from o n at)
  unfolding alone_from starts_from
  one_from zero at good = refl
  one_from (suc n) at good =
      let (start, right, rest) = start_parted n at good in
      rw (starts_alone_lem o at start, one_from n (list_end o at) rest)

  pub one_each : map starts (alone o) ≡ map (λ start. start ∷ []) (starts o)
  unfolding alone starts
  one_each = one_from (start_count o) (start_at o) from_first

-- ---- one start

-- a run that is not refused passes
run_good : (steps : ℕ) (goal : List GoalLiteral) (r : Run) → is_refused (run_answer steps goal r) ≡ false → run_answer steps goal r ≡ Good steps
unfolding run_answer goal_answer is_refused
run_good steps goal (stopped k) e = clash true refl e
run_good steps goal (ended end) e = go (first (wrong end) goal) e
  where
    go : (i : ℕ) → is_refused (goal_answer steps i) ≡ false → goal_answer steps i ≡ Good steps
    go zero e = refl
    go (suc i) e = clash true refl e

-- rows 14 to 18 that are not met change nothing, whatever they are good with
then_left : (a : Answer) (b : Bool) (n : ℕ) (r : Positioned) → then_at (a >>= λ _. refuse b 13 0 >>= λ _. Good n) r ≡ then_at (a >>= λ _. refuse b 13 0) r
unfolding ◌>>=◌ refuse then_at
then_left (Good k) true n r = refl
then_left (Good k) false n r = refl
then_left (Refused k p) b n r = refl

module _ (form : Form) (s o : List ℕ) where
  -- from one start alone, the first that fails answers as that start does
  pub only_answer : (start : State) → (first_failing (start_answer form s o) (step_count o) 1 (start ∷ [])).answer ≡ start_answer form s o start
  unfolding start_answer unpositioned
  only_answer start = go (decide (is_refused (start_answer form s o start)))
    where
      go : (is_refused (start_answer form s o start) ≡ true) ⊎ (is_refused (start_answer form s o start) ≡ false)
          → (first_failing (start_answer form s o) (step_count o) 1 (start ∷ [])).answer ≡ start_answer form s o start
      go (inl e) = rw (failing_here (start_answer form s o) (step_count o) 1 start [] e)
      go (inr e) =
          rw (failing_later (start_answer form s o) (step_count o) 1 start [] e, failing_none (start_answer form s o) (step_count o) 2)
          (sym (run_good (step_count o) (goal_of o) (order_run form s o start) e))

  -- ---- rows 1 to 18: of an order of good form only those of learning and 13 can be met

  abbrev pub ready : ℕ → Answer
  ready size = learnable form s >>= λ _. refuse (not (eqb size end_sheet_size)) 13 0

  pub check_ready : (n size : ℕ) → order_form (schema_of s) o ≡ Good n → check form s o size ≡ then_at (ready size) (starts_answer form s o)
  unfolding check before_plan
  check_ready n size e = rw e (then_left (learnable form s) (not (eqb size end_sheet_size)) n (starts_answer form s o))

  module _ (k : ℕ) (learns : learnable form s ≡ Good k) (n : ℕ) (e : order_form (schema_of s) o ≡ Good n) where
    pub check_learned : check form s o end_sheet_size ≡ starts_answer form s o
    unfolding refuse
    check_learned = check_ready n end_sheet_size e ∙ then_by (ready end_sheet_size) (starts_answer form s o) 0 (bind_good (learnable form s) _ k learns)

-- ---- the check

-- a book that is not learned is refused, whatever the order
pub refused_check : (form : Form) (s o : List ℕ) (num place : ℕ) → learnable form s ≡ Refused num place → (size : ℕ) → check form s o size ≡ unpositioned (Refused num place)
unfolding check before_plan then_at
refused_check form s o num place e size = rw (bind_refused (learnable form s) _ num place e)

module _ (form : Form) (s o : List ℕ) (m : ℕ) (ordered : order_form (schema_of s) o ≡ Good m) where
  good : OrderGood (schema_of s) o m
  good = order_good (schema_of s) o m ordered

  module _ (at : ℕ) (start : StartIn o at) where
    -- the plan comes to the same
    answer_same : (st : State) → start_answer form s (alone_at o at) st ≡ start_answer form s o st
    unfolding start_answer order_run plan_of goal_of
    answer_same st = rw (steps_same o at start, goal_same o at start, plan_same o at start)

    module _ (right : item (schema_of s) o m good at ≡ Good (list_end o at)) where
      form_good : order_form (schema_of s) (alone_at o at) ≡ Good (length (alone_at o at))
      form_good = alone_good (schema_of s) o m good at start right

      answer_alone : (k : ℕ) → learnable form s ≡ Good k → start_answer form s o (holding (list_at o at)) ≡ (check form s (alone_at o at) end_sheet_size).answer
      unfolding starts_answer start_states
      answer_alone k learns =
          rw (check_learned form s (alone_at o at) k learns _ form_good, starts_alone_lem o at start)
          (sym (only_answer form s (alone_at o at) (holding (list_at o at)) ∙ answer_same (holding (list_at o at))))

      -- where it is the only start, all of the check is the same
      module _ (one : starts o ≡ list_at o at ∷ []) where
        starts_answer_lem : starts_answer form s o ≡ starts_answer form s (alone_at o at)
        unfolding starts_answer start_states
        starts_answer_lem =
            rw (starts_alone_lem o at start, one, steps_same o at start)
            (failing_same (start_answer form s o) (start_answer form s (alone_at o at)) (step_count o) 1 (holding (list_at o at) ∷ []) (λ st i. sym (answer_same st)))

        check_same : (size : ℕ) → check form s o size ≡ check form s (alone_at o at) size
        check_same size =
            check_ready form s o m size ordered ∙ ap (then_at (ready form s o size)) starts_answer_lem
            ∙ sym (check_ready form s (alone_at o at) _ size form_good)

        bytes_same : (lent : List ℕ) → check_bytes form s o lent ≡ check_bytes form s (alone_at o at) lent
        unfolding check_bytes order_run plan_of start_states
        bytes_same lent = rw (← check_same (length lent), starts_alone_lem o at start, one, plan_same o at start)

  -- the answers of the starts are those of the checks alone
  answers_from : (k : ℕ) → learnable form s ≡ Good k → (n at : ℕ) → GoodFrom (schema_of s) o m good n at
      → map (start_answer form s o) (map holding (starts_from o n at)) ≡ map (λ p. (check form s p end_sheet_size).answer) (alone_from o n at)
  unfolding starts_from alone_from
  answers_from k learns zero at g = refl
  answers_from k learns (suc n) at g =
      let (start, right, rest) = start_parted (schema_of s) o m good n at g in
      rw (answer_alone at start right k learns, answers_from k learns n (list_end o at) rest)

  learned : (k : ℕ) → learnable form s ≡ Good k
      → check form s o end_sheet_size ≡ first_failing (λ p. (check form s p end_sheet_size).answer) (step_count o) 1 (alone o)
  unfolding starts_answer start_states starts alone
  learned k learns =
      let first : List Answer → Positioned = first_failing (λ a. a) (step_count o) 1 in
      check_learned form s o k learns m ordered
      ∙ sym (failing_map (start_answer form s o) (λ a. a) (step_count o) 1 (map holding (starts_from o (start_count o) (start_at o))))
      ∙ ap first (answers_from k learns (start_count o) (start_at o) (from_first (schema_of s) o m good))
      ∙ failing_map (λ p. (check form s p end_sheet_size).answer) (λ a. a) (step_count o) 1 (alone_from o (start_count o) (start_at o))

  only : start_count o ≡ 1 → (p : List ℕ) → Mem p (alone o) → (lent : List ℕ)
      → (check form s o (length lent) ≡ check form s p (length lent)) × (check_bytes form s o lent ≡ check_bytes form s p lent)
  unfolding alone alone_from starts starts_from
  only e = rw e (λ p i lent. go p i lent)
    where
      go : (p : List ℕ) → Mem p (alone_from o 1 (start_at o)) → (lent : List ℕ)
          → (check form s o (length lent) ≡ check form s p (length lent)) × (check_bytes form s o lent ≡ check_bytes form s p lent)
      go p (there x3) lent = elim x3 [ ]
      go p here lent =
          let (start, right, rest) = start_parted (schema_of s) o m good 0 (start_at o) (rw e at (from_first (schema_of s) o m good)) in
          (check_same (start_at o) start right (rw e) (length lent), bytes_same (start_at o) start right (rw e) lent)

pub from_each_start : FromEachStart
from_each_start form s o m ordered =
    let good = order_good (schema_of s) o m ordered in
    record {
      one = one_each (schema_of s) o m good;
      objects =
          each_alone (schema_of s) o m good (λ p. (object_count p ≡ object_count o) × ((i : ℕ) → i < object_count o → byte_at p (header_size + i) ≡ byte_at o (header_size + i)))
          (λ at start right. (objects_same o at start, (objects_there o at start).bytes));
      goals = each_alone (schema_of s) o m good (λ p. goal p ≡ goal o) (λ at start right. goal_same o at start);
      plans = each_alone (schema_of s) o m good (λ p. plan p ≡ plan o) (λ at start right. plan_same o at start);
      good = each_alone (schema_of s) o m good (λ p. order_form (schema_of s) p ≡ Good (length p)) (λ at start right. alone_good (schema_of s) o m good at start right);
      learned = learned form s o m ordered;
      unlearned = λ num place e p i size. refused_check form s o num place e size ∙ sym (refused_check form s p num place e size);
      only = only form s o m ordered;
    }
