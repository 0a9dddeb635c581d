-- An order of good form: its starts, goal facts and steps are right over its own objects, and its plan meets the hypotheses of `model`.
use Prim.Native.Nat.{ℕ, zero, suc, ◌+◌, ◌*◌, ◌≤◌, ◌<◌}
use mathlib.Core.Path.{◌≡◌, refl, ap, subst}
use mathlib.Core.Bool.{true, false}
use mathlib.Core.List.{List, map}
use lib.ListN.{length, length-map}
use Rattle.answer.specs.Answer.{Good}
use Rattle.truth.specs.Bools.{neither}
use Rattle.answer.specs.Walk.{walk}
use Rattle.answer.proofs.Entries.{item_good}
use Rattle.terms.specs.declared.Fact.{Fact}
use Rattle.terms.specs.declared.Step.{Step}
use Rattle.terms.specs.Schema.{Schema, TypedObjects, typed_objects}
use Rattle.terms.specs.Typing.{Falling, RightObjects}
use Rattle.terms.specs.Facts.{fact_at, fact_bad, no_fact}
use Rattle.terms.specs.Steps.{step_at, step_bad, repeats, is_atom}
use Rattle.limits.specs.Limits.{max_objects, max_facts, entry_size, step_size}
use Rattle.format.specs.Filed.{as_written}
use Rattle.format.specs.States.{state}
use Rattle.format.specs.Lists.{list_end}
use Rattle.format.specs.Order.{GoalEntry, start_count, goal_count, step_count, start_at, goal_at, steps_at, order_objects, entries, plan_step, order_form, starts_from, starts, goal_from, goal, plan_from, plan, entry_at, plan_step_bad}
use Rattle.format.proofs.Chains.{chain_parted}
use Rattle.format.proofs.States.{list_ends}
use Rattle.format.proofs.Orders.{plan_step_entry, goal_chain, goal_entry_suits}
use Rattle.format.proofs.Typing.{order_objects_known}
use Rattle.format.proofs.OrderForm.{order_good}
use Rattle.quantify.specs.Quantify.{Mem, here, there}
use Rattle.model.specs.Formed.{Proper, Grounded}
use Rattle.jobs.specs.Planning.{domain, ground_action, start_states, plan_of}
use Rattle.model.specs.Domain.{State, GroundAction}
use Rattle.wellformed.specs.Right.{order_typed, RightOrder}
use Rattle.factsets.proofs.States.{state_right}
use Rattle.factsets.proofs.Holding.{holding_below}
use Rattle.wellformed.proofs.Atoms.{step_proper, ground_below}
use Rattle.quantify.proofs.Mapped.{mem_map_out}
use Rattle.factsets.specs.Holding.{holding}
use Rattle.factsets.specs.Right.{RightStep, RightState}
use Rattle.answer.proofs.Walks.{walk_parted}

module _ (sch : Schema) (ob : TypedObjects) (typed : RightObjects sch ob) (o : List ℕ) where
  -- the first of a number of good steps is right, and the others are good
  plan_parted : (n at last : ℕ) → walk (plan_step sch ob o) (suc n) at ≡ Good last → RightStep sch ob (step_at o at) × (walk (plan_step sch ob o) n (at + step_size) ≡ Good last)
  unfolding plan_step_bad
  plan_parted n at last e =
      let (next, good, rest) = walk_parted (plan_step sch ob o) n at last e in
      let (test, place) = item_good _ _ 18 step_size (plan_step_entry sch ob o) at next good in
      let (bad, twice) = neither (step_bad sch ob (step_at o at)) (repeats (step_at o at)) test in
      (record { typed = typed; suits = bad; different = twice }, subst (λ (x : ℕ). walk (plan_step sch ob o) n x ≡ Good last) place rest)

  -- the steps of a good plan are right
  plan_right : (n at last : ℕ) → walk (plan_step sch ob o) n at ≡ Good last → (st : Step) → Mem st (plan_from o n at) → RightStep sch ob st
  unfolding plan_from
  plan_right zero at last e st x'' = elim x'' [ ]
  plan_right (suc n) at last e st here = (plan_parted n at last e).0
  plan_right (suc n) at last e st (there m) = plan_right n (at + step_size) last (plan_parted n at last e).1 st m

  -- good starts are right
  starts_right : (end n at last : ℕ) → walk (state as_written 16 sch ob o end) n at ≡ Good last → (fs : List Fact) → Mem fs (starts_from o n at) → RightState sch ob fs
  unfolding starts_from
  starts_right end zero at last e fs x'' = elim x'' [ ]
  starts_right end (suc n) at last e fs here =
      let (next, good, rest) = walk_parted (state as_written 16 sch ob o end) n at last e in
      state_right 16 sch ob o end at next good
  starts_right end (suc n) at last e fs (there m) =
      let (next, good, rest) = walk_parted (state as_written 16 sch ob o end) n at last e in
      let place = (list_ends _ max_facts 16 sch ob o end at next good).0 in
      starts_right end n (list_end o at) last (subst (λ (x : ℕ). walk (state as_written 16 sch ob o end) n x ≡ Good last) place rest) fs m

  -- the facts of good goal entries suit
  goal_right : (n : ℕ) (last : Fact) (at next : ℕ) → entries sch ob o n last at ≡ Good next
      → (e : GoalEntry) → Mem e (goal_from o n at) → fact_bad sch ob e.fact ≡ false
  unfolding goal_from entry_at
  goal_right zero last at next good e x'' = elim x'' [ ]
  goal_right (suc n) last at next good e here = goal_entry_suits sch ob o last at (chain_parted (goal_chain sch ob o) n last at next good).0
  goal_right (suc n) last at next good e (there m) =
      goal_right n (fact_at o (at + 1)) (at + entry_size) next (chain_parted (goal_chain sch ob o) n last at next good).1 e m

length_plan_from : (o : List ℕ) (n at : ℕ) → length (plan_from o n at) ≡ n
unfolding plan_from
length_plan_from o zero at = refl
length_plan_from o (suc n) at = ap suc (length_plan_from o n (at + step_size))

-- the plan has as many steps as the header says
pub length_plan : (o : List ℕ) → length (plan o) ≡ step_count o
unfolding plan
length_plan o = length_plan_from o (step_count o) (steps_at o)

length_starts_from : (o : List ℕ) (n at : ℕ) → length (starts_from o n at) ≡ n
unfolding starts_from
length_starts_from o zero at = refl
length_starts_from o (suc n) at = ap suc (length_starts_from o n (list_end o at))

-- and it has as many starts
pub length_starts : (o : List ℕ) → length (starts o) ≡ start_count o
unfolding starts
length_starts o = length_starts_from o (start_count o) (start_at o)

pub length_start_states : (o : List ℕ) → length (start_states o) ≡ start_count o
unfolding start_states
length_start_states o = simp length-map (length_starts o)

-- An order of good form is right in all its parts.
pub order_right : (sch : Schema) → Falling sch → (o : List ℕ) (n : ℕ) → order_form sch o ≡ Good n → RightOrder sch o
unfolding typed_objects order_objects starts goal plan
order_right sch fall o n e =
    let ob : TypedObjects = order_typed o in
    let g = order_good sch o n e in
    let typed : RightObjects sch ob = record { falling = fall; known = λ x low high. order_objects_known o sch.kinds _ _ _ g.objects x.0 low high } in
    record {
      few = g.header.objects;
      starts = starts_right sch ob typed o (goal_at o) (start_count o) (start_at o) (goal_at o) g.starts;
      goals = goal_right sch ob typed o (goal_count o) no_fact (goal_at o) (steps_at o) g.goal;
      steps = plan_right sch ob typed o (step_count o) (steps_at o) (length o) g.plan;
    }

-- Steps that are right over some objects, wherever they stand, meet the hypothesis of `model`,
module _ (sch : Schema) (ob : TypedObjects) (few : ob.count ≤ max_objects) (steps : List Step) (right : (st : Step) → Mem st steps → RightStep sch ob st) where
  pub steps_grounded : Grounded (domain sch) (map (ground_action sch) steps)
  steps_grounded t m =
      let (st, k, q) = mem_map_out (ground_action sch) steps m in
      subst (λ (u : GroundAction). Proper (domain sch) u) q (step_proper sch ob st (right st k) few)

  -- and their atoms become facts that the domain counts.
  pub steps_under : (t : GroundAction) → Mem t (map (ground_action sch) steps) → (k : ℕ) → is_atom sch t.action k ≡ true → t.ground k < 256 * sch.relations
  unfolding ground_action
  steps_under t m =
      let (st, k, q) = mem_map_out (ground_action sch) steps m in
      subst (λ (u : GroundAction). (k : ℕ) → is_atom sch u.action k ≡ true → u.ground k < 256 * sch.relations) q (ground_below sch ob st (right st k) few)

-- So does the plan of an order of good form,
module _ (sch : Schema) (fall : Falling sch) (o : List ℕ) (n : ℕ) (e : order_form sch o ≡ Good n) where
  pub grounded : Grounded (domain sch) (plan_of sch o)
  unfolding plan_of
  grounded = let right = order_right sch fall o n e in steps_grounded sch (order_typed o) right.few (plan o) right.steps

  pub plan_under : (t : GroundAction) → Mem t (plan_of sch o) → (k : ℕ) → is_atom sch t.action k ≡ true → t.ground k < 256 * sch.relations
  unfolding plan_of
  plan_under = let right = order_right sch fall o n e in steps_under sch (order_typed o) right.few (plan o) right.steps

  -- and the facts of its starts are counted too.
  pub start_under : (start : State) → Mem start (start_states o) → (k : ℕ) → 256 * sch.relations ≤ k → start k ≡ false
  unfolding start_states
  start_under start m k l =
      let right = order_right sch fall o n e in
      let (fs, i, q) = mem_map_out holding (starts o) m in
      subst (λ (st : State). st k ≡ false) q (holding_below sch (order_typed o) right.few fs (right.starts fs i) k l)
