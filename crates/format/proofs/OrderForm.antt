-- Rows 14 to 18 together: what an order that passes them has, and where they refuse one that does not.
use Prim.Native.Nat.{ℕ, ◌+◌, ◌*◌, ◌≤◌}
use mathlib.Core.Path.{◌≡◌, refl, sym, ap, ◌∙◌}
use mathlib.Core.List.{List}
use native.Mathlib.Omega.{arith}
use borrow.Author.Tests.{ltb-false, le-ltb}
use lib.Dec.{ltb}
use lib.ListN.{length}
use Rattle.answer.specs.Answer.{Answer, Good, Refused, max_number}
use Rattle.answer.proofs.Laws.{good_refused, passed, parted, bind_good, refuse_unmet}
use Rattle.answer.specs.Walk.{walk}
use Rattle.answer.proofs.Turns.{walk_within}
use Rattle.answer.proofs.Items.{items_end, items_place}
use Rattle.answer.specs.Table.{table, row_from, row, up_to, Between, MetFrom}
use Rattle.answer.proofs.Refusals.{refused_cases, row_cases, between_at}
use Rattle.answer.proofs.Entries.{entries_end, entries_place}
use Rattle.answer.proofs.Bounds.{Bounded, bounded_of}
use Rattle.terms.specs.Schema.{Schema, TypedObjects, typed_objects, out_of_range}
use Rattle.terms.specs.Facts.{no_fact}
use Rattle.limits.specs.Limits.{header_size, max_starts, max_facts, entry_size, step_size}
use Rattle.format.specs.Filed.{as_written}
use Rattle.format.specs.States.{state}
use Rattle.format.specs.Order.{object_count, start_count, goal_count, step_count, start_at, goal_at, steps_at, starts_form, from_start, from_goal, order_counts_bad, order_offsets_bad, order_header}
use Rattle.format.specs.Order.{order_objects, order_object, entries, plan_step, order_form}
use Rattle.format.proofs.Chains.{chain_end, chain_place}
use Rattle.format.proofs.States.{longest_state, list_within, state_reach, state_place}
use Rattle.format.proofs.Orders.{max_order, OrderHeaderGood, order_header_good, order_header_in, start_at_is, steps_at_is}
use Rattle.format.proofs.Orders.{order_object_entry, plan_step_entry, goal_chain}

-- rows 14 to 18 are not met: each section is good and ends where the next one starts, and the order ends at n
pub record OrderGood (sch : Schema) (o : List ℕ) (n : ℕ) : Type 0 where
  pub header : OrderHeaderGood o
  pub objects : walk (order_object sch.kinds o) (object_count o) header_size ≡ Good (start_at o)
  pub starts : walk (state as_written 16 sch (typed_objects (order_objects o) o) o (goal_at o)) (start_count o) (start_at o) ≡ Good (goal_at o)
  pub goal : entries sch (typed_objects (order_objects o) o) o (goal_count o) no_fact (goal_at o) ≡ Good (steps_at o)
  pub plan : walk (plan_step sch (typed_objects (order_objects o) o) o) (step_count o) (steps_at o) ≡ Good (length o)
  pub end : n ≡ length o
  pub most : length o ≤ max_order

-- a good answer with another name for its number
good_at : (a : Answer) (n m : ℕ) → a ≡ Good n → n ≡ m → a ≡ Good m
good_at a n m e p = rw (← p) e

module _ (sch : Schema) (ob : TypedObjects) (o : List ℕ) where
  abbrev start : ℕ → Answer
  start = state as_written 16 sch ob o (goal_at o)

  -- row 16: the starts are good, and end where the goal entries begin; so these do not begin far behind
  starts_good : (m : ℕ) → starts_form sch ob o ≡ Good m → start_at o ≤ goal_at o
      → (walk start (start_count o) (start_at o) ≡ Good (goal_at o)) × (goal_at o ≤ start_at o + longest_state * start_count o)
  unfolding starts_form
  starts_good m e touch =
      let (last, good, rest) = parted (walk start (start_count o) (start_at o)) m _ e in
      let within = walk_within start (goal_at o) (list_within as_written max_facts 16 sch ob o (goal_at o)) (start_count o) (start_at o) last touch good in
      let reach = items_end start 16 longest_state (state_reach as_written 16 sch ob o (goal_at o)) (state_place as_written 16 sch ob o (goal_at o)) (start_count o) (start_at o) last good in
      let whole = ltb-false last (goal_at o) (passed (ltb last (goal_at o)) 16 last m _ rest).0 in
      (good_at _ last (goal_at o) good (omega arith), omega arith)

  starts_place : (k p : ℕ) → starts_form sch ob o ≡ Refused k p → (k ≡ 16) × (p ≤ start_at o + longest_state * start_count o)
  unfolding starts_form
  starts_place k p e =
      refused_cases (walk start (start_count o) (start_at o)) _ k p e
      (items_place start 16 longest_state (state_reach as_written 16 sch ob o (goal_at o)) (state_place as_written 16 sch ob o (goal_at o)) (start_count o) (start_at o) k p)
      (λ last good f.
      let reach = items_end start 16 longest_state (state_reach as_written 16 sch ob o (goal_at o)) (state_place as_written 16 sch ob o (goal_at o)) (start_count o) (start_at o) last good in
      row_cases (ltb last (goal_at o)) 16 last _ k p f (λ x y. (x, omega arith)) (λ unmet g. good_refused (goal_at o) k p g))

-- with counts in their limits, and the goal entries after starts of at most the longest state, no section ends past the longest order
section_ends : (o : List ℕ) → OrderHeaderGood o
    → (start_at o + longest_state * start_count o ≤ max_order)
    × (goal_at o ≤ start_at o + longest_state * start_count o → (goal_at o + entry_size * goal_count o ≤ max_order) × (steps_at o + step_size * step_count o ≤ max_order))
unfolding steps_at start_at
section_ends o g = (omega (arith, g.objects, g.starts), λ l. (omega (arith, g.objects, g.starts, g.entries), omega (arith, g.objects, g.starts, g.entries, g.steps)))

pub order_good : (sch : Schema) (o : List ℕ) (n : ℕ) → order_form sch o ≡ Good n → OrderGood sch o n
unfolding order_form from_start from_goal
order_good sch o n e =
    let ob = typed_objects (order_objects o) o in
    let a = parted (order_header o) n _ e in
    let b = parted (walk (order_object sch.kinds o) (object_count o) header_size) n _ a.2 in
    let c = parted (starts_form sch ob o) n _ b.2 in
    let d = parted (entries sch ob o (goal_count o) no_fact (goal_at o)) n _ c.2 in
    let g = order_header_good o a.0 a.1 in
    let t = starts_good sch ob o c.0 c.1 g.touch in
    let last = entries_end _ _ 18 step_size (plan_step_entry sch ob o) _ _ n d.2 ∙ sym g.size in
    record {
      header = g;
      objects = good_at _ b.0 (start_at o) b.1 (omega (arith, entries_end _ _ 15 1 (order_object_entry sch.kinds o) _ _ b.0 b.1, start_at_is o));
      starts = t.0;
      goal = good_at _ d.0 (steps_at o) d.1 (chain_end (goal_chain sch ob o) _ _ _ d.0 d.1 ∙ steps_at_is o);
      plan = good_at _ n (length o) d.2 last;
      end = last;
      most = omega (arith, g.size, ((section_ends o g).1 t.1).1);
    }

-- and the other way round
pub order_in : (sch : Schema) (o : List ℕ) (n : ℕ) → OrderGood sch o n → order_form sch o ≡ Good n
unfolding order_form from_start from_goal starts_form
order_in sch o n g =
    bind_good _ _ _ (order_header_in o g.header)
    ∙ bind_good _ _ _ g.objects
    ∙ bind_good _ _ _ (bind_good _ _ _ g.starts ∙ refuse_unmet _ _ _ _ (le-ltb (goal_at o) (goal_at o) (omega arith)))
    ∙ bind_good _ _ _ g.goal
    ∙ g.plan
    ∙ ap Good (sym g.end)

-- rows 14 and 22 stand at the order's beginning
header_place : (o : List ℕ) (k p : ℕ) → order_header o ≡ Refused k p → Between 14 18 k × (k ≤ max_number) × (p ≤ max_order)
unfolding order_header table row_from row up_to
header_place o k p e =
    row_cases (order_counts_bad o) 14 0 _ k p e (λ x y. (between_at 14 18 k 14 x (refl, refl), omega arith, omega arith))
    (λ unmet f.
    row_cases (out_of_range max_starts (start_count o)) 22 0 _ k p f (λ x y. (between_at 14 18 k 22 x (refl, refl), omega arith, omega arith))
    (λ unmet g.
    row_cases (order_offsets_bad o) 14 0 _ k p g (λ x y. (between_at 14 18 k 14 x (refl, refl), omega arith, omega arith))
    (λ unmet h. good_refused header_size k p h)))

-- a refusal has the number of a row from 14 to 18, and stands within the longest order
pub order_place : (sch : Schema) (o : List ℕ) (k p : ℕ) → order_form sch o ≡ Refused k p → Between 14 18 k × (k ≤ max_number) × (p ≤ max_order)
unfolding order_form from_start from_goal table row_from row up_to
order_place sch o k p e =
    let ob = typed_objects (order_objects o) o in
    refused_cases (order_header o) _ k p e (header_place o k p)
    (λ n head e₁.
    let h = order_header_good o n head in
    let ends = section_ends o h in
    refused_cases (walk (order_object sch.kinds o) (object_count o) header_size) _ k p e₁
    (λ f.
    let w = entries_place _ _ 15 1 (order_object_entry sch.kinds o) _ _ k p f in
    (between_at 14 18 k 15 w.0 (refl, refl), omega arith, omega (arith, w.1, h.objects)))
    (λ a good e₂.
    refused_cases (starts_form sch ob o) _ k p e₂
    (λ f.
    let w = starts_place sch ob o k p f in
    (between_at 14 18 k 16 w.0 (refl, refl), omega arith, omega (arith, w.1, ends.0)))
    (λ b good₂ e₃.
    let near = ends.1 (starts_good sch ob o b good₂ h.touch).1 in
    refused_cases (entries sch ob o (goal_count o) no_fact (goal_at o)) _ k p e₃
    (λ f.
    let w = chain_place (goal_chain sch ob o) _ _ _ k p f in
    (between_at 14 18 k 17 w.0 (refl, refl), omega arith, omega (arith, w.1, near.0)))
    (λ c good₃ f.
    let w = entries_place _ _ 18 step_size (plan_step_entry sch ob o) _ _ k p f in
    (between_at 14 18 k 18 w.0 (refl, refl), omega arith, omega (arith, w.1, near.1))))))

pub order_met : (sch : Schema) (o : List ℕ) → MetFrom 14 (order_form sch o)
order_met sch o num p e = (order_place sch o num p e).0.0

-- bounds of every answer, as a caller needs them to pack one
pub order_bounded : (sch : Schema) (o : List ℕ) → Bounded max_order (order_form sch o)
order_bounded sch o =
    bounded_of max_order _
    (λ n e.
    let g = order_good sch o n e in
    omega (arith, g.end, g.most))
    (λ k p e.
    let w = order_place sch o k p e in
    (w.1, w.2))
