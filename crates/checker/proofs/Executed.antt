-- For a book that learning does not refuse, a plan executed over masks by the rule sheet comes to what it comes to under the learned model: a plan of
-- any right steps, then that of an order of good form.
use Prim.Native.Nat.{ℕ, zero, suc, ◌+◌, ◌*◌, ◌≤◌, ◌<◌}
use mathlib.Core.Path.{◌≡◌}
use mathlib.Core.List.{List, map}
use native.Mathlib.Omega.{arith}
use lib.ListN.{length}
use Rattle.answer.specs.Answer.{Good}
use Rattle.terms.specs.declared.Fact.{Fact}
use Rattle.terms.specs.declared.Param.{Param}
use Rattle.terms.specs.declared.Step.{Step}
use Rattle.terms.specs.Schema.{TypedObjects}
use Rattle.terms.specs.Steps.{object_of, step_at, argument_bad}
use Rattle.limits.specs.Limits.{max_objects, step_size, rule_size}
use Rattle.format.specs.Form.{Form}
use Rattle.format.specs.LookOver.{look_over}
use Rattle.format.specs.Order.{GoalEntry, start_count, step_count, start_at, steps_at, order_form, starts, goal, plan, plan_from}
use Rattle.quantify.specs.Quantify.{Mem, here, there}
use Rattle.model.specs.Learned.{Rules, model_of, learned}
use Rattle.model.proofs.Impossible.{learned_consistent}
use Rattle.jobs.specs.Planning.{domain, schema_of, transitions_of, ground_action, goal_entry, start_states, plan_of, goal_of}
use Rattle.jobs.specs.Learn.{learnable, rules_from, learned_from, rule_sheet}
use Rattle.jobs.proofs.Sheet.{needed_set_lem, needed_not_set_lem, added_set_lem, removed_set_lem}
use Rattle.jobs.specs.Check.{plan_run, order_run, run_answer, start_answer, end_sheet}
use Rattle.wellformed.proofs.Headers.{relations_few, right_schema}
use Rattle.wellformed.proofs.Formed.{formed}
use Rattle.terms.proofs.Atoms.{atom_below}
use Rattle.wellformed.proofs.Atoms.{ground_below}
use Rattle.factsets.proofs.Suits.{object_most, move_known, argument_right}
use Rattle.quantify.proofs.Mapped.{mem_map_in}
use Rattle.wellformed.proofs.Orders.{order_right, start_under}
use Rattle.wellformed.specs.Right.{order_typed, RightOrder}
use Rattle.wellformed.proofs.Learnable.{fit_clean, learned_fit}
use Rattle.statemask.specs.Statemask.{rules_in, execute, start_mask}
use Rattle.statemask.specs.Executing.{AllInMask, Ruled, Executing, executed_answer}
use Rattle.statemask.proofs.Plan.{execute_start, execute_answer, agrees_sheet}
use Rattle.format.proofs.OrderForm.{order_good}
use Rattle.execution.specs.Execution.{Executable}
use Rattle.starts.specs.Starts.{executed_from, answer_from, StartsGood}
use Rattle.factsets.specs.Holding.{holding}
use Rattle.factsets.specs.Right.{RightStep}

-- the sets of a move on the sheet are those of the learned model
ruled : (form : Form) (s : List ℕ) (a : ℕ) → 1 ≤ a → a ≤ (schema_of s).moves → Ruled (learned_from form s) a (rules_in (rule_sheet form s) a)
unfolding rule_sheet rules_from rules_in learned_from learned model_of
ruled form s a low high =
    let R : Rules = rules_from form s in
    let moves : ℕ = (schema_of s).moves in
    record {
      needed = needed_set_lem R a moves low high;
      needed_not = needed_not_set_lem R a moves low high;
      added = added_set_lem R a moves low high;
      removed = removed_set_lem R a moves low high;
    }

-- a step of the plan is one of its members
mem_plan : (o : List ℕ) (n at i : ℕ) → i < n → Mem (step_at o (at + step_size * i)) (plan_from o n at)
unfolding plan_from
mem_plan o zero at i h = absurd (omega arith)
mem_plan o (suc n) at zero h =
    let e : at + step_size * 0 ≡ at = omega arith in
    rw e here
mem_plan o (suc n) at (suc i) h =
    let e : at + step_size * suc i ≡ at + step_size + step_size * i = omega arith in
    rw e (there (mem_plan o n (at + step_size) i (omega arith)))

module _ (form : Form) (s : List ℕ) (n m : ℕ) (good : look_over form s ≡ Good n) (learns : learnable form s ≡ Good m) where
  -- steps that are right over some objects, from any start that the mask has bits for
  module _ (ob : TypedObjects) (few : ob.count ≤ max_objects) (steps : List Step) (right : (st : Step) → Mem st steps → RightStep (schema_of s) ob st) where
    moves_known : (st : Step) → Mem st steps → (1 ≤ st.action.0) × (st.action.0 ≤ (schema_of s).moves)
    moves_known st i = move_known (schema_of s) ob st (right st i)

    objects_few : (st : Step) → Mem st steps → (p : Param) → 1 ≤ p.0 → p.0 ≤ 4 → (object_of st.binding p).0 ≤ max_objects
    unfolding argument_bad
    objects_few st i p low high =
        let most = object_most (schema_of s) ob _ (object_of st.binding p) _ (argument_right (schema_of s) ob st (right st i) p.0 low high) in
        omega arith

    executing : Executing (domain (schema_of s)) (learned_from form s) (schema_of s) (rules_in (rule_sheet form s)) steps
    unfolding learned_from domain ground_action
    executing =
        let sch = schema_of s in
        let size = relations_few form s n good in
        record {
          few = omega arith;
          valid = (learned_consistent (domain sch) (transitions_of form s) (formed form s n good) (fit_clean form s (learned_fit form s n good m learns))).valid;
          ruled = λ st i. let (a, b) = moves_known st i in ruled form s st.action.0 a b;
          in_mask =
              λ st i.
              record {
                ranged = λ j atom. atom_below sch st.action.0 j atom;
                under =
                    λ j atom.
                    let h = ground_below sch ob st (right st i) few j atom in
                    omega arith;
              };
        }

    module _ (start : List Fact) (under : AllInMask (holding start)) where
      -- rows 19 and 20, and the end sheet where no step stops
      plan_answer : (count : ℕ) (goals : List GoalEntry)
          → run_answer count (map goal_entry goals) (plan_run form s (holding start) (map (ground_action (schema_of s)) steps)) ≡ executed_answer count goals (execute (schema_of s) (rules_in (rule_sheet form s)) steps (start_mask start) 1)
      unfolding plan_run
      plan_answer count goals = execute_answer (domain (schema_of s)) (learned_from form s) (schema_of s) (rules_in (rule_sheet form s)) steps executing start under count goals

      plan_sheet : (execute (schema_of s) (rules_in (rule_sheet form s)) steps (start_mask start) 1).stop ≡ 0
          → (execute (schema_of s) (rules_in (rule_sheet form s)) steps (start_mask start) 1).mask ≡ end_sheet (plan_run form s (holding start) (map (ground_action (schema_of s)) steps))
      unfolding plan_run
      plan_sheet e = agrees_sheet _ _ (execute_start (domain (schema_of s)) (learned_from form s) (schema_of s) (rules_in (rule_sheet form s)) steps executing start under) e

  -- what an order of good form supplies
  module _ (o : List ℕ) (k : ℕ) (order : order_form (schema_of s) o ≡ Good k) where
    right : RightOrder (schema_of s) o
    right = order_right (schema_of s) (right_schema form s n good).falling o k order

    start_in_mask : (start : List Fact) → Mem start (starts o) → AllInMask (holding start)
    unfolding start_states
    start_in_mask start i f h =
        let size = relations_few form s n good in
        start_under (schema_of s) (right_schema form s n good).falling o k order (holding start) (mem_map_in holding (starts o) i) f (omega arith)

    -- the starts are good, and end within the order
    pub starts_good : StartsGood o (start_count o) (start_at o)
    unfolding steps_at
    starts_good =
        let g = order_good (schema_of s) o k order in
        record { sch = schema_of s; ob = order_typed o; good = g.starts; near = omega (arith, g.header.size, g.most); within = omega (arith, g.header.size) }

    pub executable : (l : List ℕ) → length l ≡ rule_size * (schema_of s).moves → Executable l o (step_count o) (steps_at o)
    unfolding plan
    executable l size =
        let g = order_good (schema_of s) o k order in
        let st : ℕ → Step = λ i. step_at o (steps_at o + step_size * i) in
        record {
          end = omega (arith, g.header.size, g.most);
          within = omega (arith, g.header.size);
          steppable = λ i h.
              let m = mem_plan o (step_count o) (steps_at o) i h in
              let (low, high) = moves_known (order_typed o) right.few (plan o) right.steps (st i) m in
              record { counted = low; known = omega arith; bounded = objects_few (order_typed o) right.few (plan o) right.steps (st i) m };
        }

    -- rows 19 and 20 from a start, and its end sheet where no step stops
    module _ (start : List Fact) (i : Mem start (starts o)) where
      pub start_executed : start_answer form s o (holding start) ≡ answer_from (schema_of s) (rules_in (rule_sheet form s)) o start
      unfolding start_answer order_run goal_of plan_of answer_from executed_from
      start_executed = plan_answer (order_typed o) right.few (plan o) right.steps start (start_in_mask start i) (step_count o) (goal o)

      pub start_sheet : (executed_from (schema_of s) (rules_in (rule_sheet form s)) o start).stop ≡ 0
          → (executed_from (schema_of s) (rules_in (rule_sheet form s)) o start).mask ≡ end_sheet (order_run form s o (holding start))
      unfolding order_run plan_of executed_from
      start_sheet = plan_sheet (order_typed o) right.few (plan o) right.steps start (start_in_mask start i)
