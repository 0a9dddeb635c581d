-- An order with one of its starts alone has a good header, and reads as the order does but for the starts.
use Prim.Native.Nat.{ℕ, zero, suc, ◌+◌, ◌*◌, ◌≤◌}
use mathlib.Core.Path.{◌≡◌, refl, sym, ◌∙◌}
use mathlib.Core.List.{List, [], ◌∷◌}
use native.Mathlib.Omega.{arith}
use lib.ListN.{length}
use Rattle.limits.specs.Limits.{entry_size, step_size}
use Rattle.format.specs.Lists.{list_at}
use Rattle.format.specs.Order.{object_count, goal_count, step_count, start_at, goal_at, steps_at, starts_from, starts, entry_at, goal_from, goal, plan_from, plan}
use Rattle.format.proofs.Orders.{OrderHeaderGood, start_at_is, steps_at_is}
use Rattle.format.proofs.Reading.{Copied, Facing, facing_on, byte_copied, fact_copied, step_copied, list_copied}
use Rattle.jobs.specs.Alone.{goal_alone, alone_at}
use Rattle.demand.proofs.Alone.{StartIn, start_end, goal_alone_is, length_alone, starts_one, goal_at_lem, steps_told, number_kept, start_there, rest_there}

-- goal entries and steps that stand elsewhere
module _ {o p : List ℕ} {at at' size : ℕ} (c : Copied o at p at' size) where
  goal_copied : (n a b : ℕ) → Facing at at' a b → a + entry_size * n ≤ at + size → goal_from p n b ≡ goal_from o n a
  unfolding goal_from entry_at
  goal_copied zero a b f l = refl
  goal_copied (suc n) a b f l =
      rw (
        byte_copied c a b f (omega arith),
        fact_copied c (a + 1) (b + 1) (facing_on f 1) (omega arith),
        goal_copied n (a + entry_size) (b + entry_size) (facing_on f entry_size) (omega arith),
      )

  plan_copied : (n a b : ℕ) → Facing at at' a b → a + step_size * n ≤ at + size → plan_from p n b ≡ plan_from o n a
  unfolding plan_from
  plan_copied zero a b f l = refl
  plan_copied (suc n) a b f l =
      rw (step_copied c a b f (omega arith), plan_copied n (a + step_size) (b + step_size) (facing_on f step_size) (omega arith))

module _ (o : List ℕ) (at : ℕ) (start : StartIn o at) where
  abbrev p : List ℕ
  p = alone_at o at

  pub objects_same : object_count p ≡ object_count o
  unfolding object_count
  objects_same = number_kept o at start 0 (omega arith) (λ e. omega arith, λ e. omega arith) (λ e. omega arith, λ e. omega arith)

  pub goals_same : goal_count p ≡ goal_count o
  unfolding goal_count
  goals_same = number_kept o at start 4 (omega arith) (λ e. omega arith, λ e. omega arith) (λ e. omega arith, λ e. omega arith)

  pub steps_same : step_count p ≡ step_count o
  unfolding step_count
  steps_same = number_kept o at start 6 (omega arith) (λ e. omega arith, λ e. omega arith) (λ e. omega arith, λ e. omega arith)

  pub start_at_lem : start_at p ≡ start_at o
  start_at_lem = omega (arith, start_at_is o, start_at_is p, objects_same)

  pub steps_at_lem : steps_at p ≡ goal_alone o at + entry_size * goal_count o
  steps_at_lem = omega (arith, steps_at_is p, goal_at_lem o at start, goals_same)

  -- the order's own end, by its sections
  pub end_is : length o ≡ goal_at o + entry_size * goal_count o + step_size * step_count o
  end_is = omega (arith, start.header.size, steps_at_is o)

  pub header : OrderHeaderGood p
  header =
      let h = start.header in
      record {
        least = omega (arith, length_alone o at start, goal_alone_is o at start, start_at_is o);
        objects = omega (arith, objects_same, h.objects);
        some = omega (arith, starts_one o at start);
        starts = omega (arith, starts_one o at start);
        entries = omega (arith, goals_same, h.entries);
        steps = omega (arith, steps_same, h.steps);
        objects_told = number_kept o at start 8 (omega arith) (λ e. omega arith, λ e. omega arith) (λ e. omega arith, λ e. omega arith) ∙ h.objects_told;
        start_told = number_kept o at start 10 (omega arith) (λ e. omega arith, λ e. omega arith) (λ e. omega arith, λ e. omega arith) ∙ h.start_told ∙ sym start_at_lem;
        touch = omega (arith, start_at_lem, goal_at_lem o at start, goal_alone_is o at start);
        steps_told = steps_told o at start ∙ sym steps_at_lem;
        size = omega (arith, length_alone o at start, steps_at_lem, steps_same, end_is);
      }

  -- what it holds: this start alone, the goal and the plan
  pub starts_alone_lem : starts p ≡ list_at o at ∷ []
  unfolding starts starts_from
  starts_alone_lem =
      let face : Facing at (start_at o) at (start_at p) = record { low = omega arith; level = omega (arith, start_at_lem) } in
      rw (starts_one o at start, list_copied (start_there o at start) at (start_at p) face (omega (arith, start_end o at)))

  pub goal_same : goal p ≡ goal o
  unfolding goal
  goal_same =
      let face : Facing (goal_at o) (goal_alone o at) (goal_at o) (goal_at p) = record { low = omega arith; level = omega (arith, goal_at_lem o at start) } in
      rw goals_same (goal_copied (rest_there o at start) (goal_count o) (goal_at o) (goal_at p) face (omega (arith, end_is)))

  pub plan_same : plan p ≡ plan o
  unfolding plan
  plan_same =
      let face : Facing (goal_at o) (goal_alone o at) (steps_at o) (steps_at p) = record { low = omega (arith, steps_at_is o); level = omega (arith, steps_at_lem, steps_at_is o) } in
      rw steps_same (plan_copied (rest_there o at start) (step_count o) (steps_at o) (steps_at p) face (omega (arith, end_is, steps_at_is o)))
