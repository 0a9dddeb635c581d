-- An order of good form with one of its starts alone is of good form.
use Prim.Native.Nat.{ℕ, ◌+◌, ◌-◌, ◌*◌, ◌≤◌, ◌<◌}
use mathlib.Core.Path.{◌≡◌, refl, sym, ap, ◌∙◌}
use mathlib.Core.Logic.{◌⊎◌, inl, inr}
use mathlib.Core.Bool.{Bool, true, false}
use mathlib.Core.List.{List}
use native.Mathlib.Omega.{arith}
use lib.Dec.{leb}
use lib.ListN.{length}
use borrow.Author.Tests.{le-ltb}
use Rattle.truth.specs.Bools.{decide}
use Rattle.answer.specs.Answer.{Good}
use Rattle.answer.proofs.Laws.{refuse_unmet}
use Rattle.answer.specs.Walk.{walk}
use Rattle.answer.proofs.Entries.{entries_right, entries_all}
use Rattle.limits.specs.Limits.{header_size, count_size, fact_size, entry_size, step_size, max_facts}
use Rattle.input.specs.Bytes.{two}
use Rattle.terms.specs.declared.Object.{Object}
use Rattle.terms.specs.declared.Fact.{Fact}
use Rattle.terms.specs.declared.Step.{Step}
use Rattle.terms.specs.Schema.{Schema, TypedObjects, typed_objects, out_of_range, object_bad}
use Rattle.terms.specs.Facts.{fact_at, fact_bad, no_fact}
use Rattle.terms.specs.Steps.{step_at, argument_bad, step_bad}
use Rattle.terms.proofs.Atoms.{range_out}
use Rattle.format.specs.States.{cut, count_bad, fact_refused, list, state}
use Rattle.format.specs.Lists.{list_end}
use Rattle.format.specs.Order.{object_count, start_count, goal_count, step_count, start_at, goal_at, steps_at, order_objects, order_object, entry_bad, entries, plan_step_bad, plan_step, order_form}
use Rattle.format.proofs.Chains.{chain_beside}
use Rattle.format.proofs.States.{fact_good, facts_chain, list_good}
use Rattle.format.proofs.Orders.{start_at_is, steps_at_is, order_object_entry, plan_step_entry, goal_chain}
use Rattle.format.proofs.OrderForm.{OrderGood, order_in}
use Rattle.format.proofs.Reading.{Facing, facing_on, byte_copied, two_copied, fact_copied, step_copied}
use Rattle.jobs.specs.Alone.{start_size, goal_alone, alone_at}
use Rattle.demand.proofs.Alone.{StartIn, start_end, goal_alone_is, length_alone, starts_one, goal_at_lem, objects_there, start_there, rest_there}
use Rattle.demand.proofs.AloneRead.{objects_same, goals_same, steps_same, start_at_lem, steps_at_lem, end_is, header}
use Rattle.answer.proofs.Walks.{walk_none, walk_last}
use Rattle.format.specs.Filed.{as_written}

-- ---- facts and steps over objects that are as many and of the same kinds

module _ (sch : Schema) (H K : TypedObjects) (count : K.count ≡ H.count) (kind : (x : Object) → 1 ≤ x.0 → x.0 ≤ H.count → K.kind x ≡ H.kind x) where
  object_same : (used : Bool) (named : ℕ) (x : Object) → object_bad sch K used named x ≡ object_bad sch H used named x
  unfolding object_bad
  object_same used named x = go (decide (out_of_range H.count x.0))
    where
      go : (out_of_range H.count x.0 ≡ true) ⊎ (out_of_range H.count x.0 ≡ false) → object_bad sch K used named x ≡ object_bad sch H used named x
      go (inl e) = rw (count, e)
      go (inr e) = let (low, high) = range_out H.count x.0 e in rw (count, kind x low high)

  pub fact_same : (f : Fact) → fact_bad sch K f ≡ fact_bad sch H f
  unfolding fact_bad
  fact_same f =
      rw (
        object_same (leb 1 (sch.places f.relation)) (sch.place_kind f.relation 1) f.first,
        object_same (leb 2 (sch.places f.relation)) (sch.place_kind f.relation 2) f.second,
      )

  argument_same : (st : Step) (i : ℕ) → argument_bad sch K st i ≡ argument_bad sch H st i
  unfolding argument_bad
  argument_same st i = object_same _ _ _

  pub step_same : (st : Step) → step_bad sch K st ≡ step_bad sch H st
  unfolding step_bad
  step_same st = rw (argument_same st 1, argument_same st 2, argument_same st 3, argument_same st 4)

-- ---- the order

module _ (sch : Schema) (o : List ℕ) (n : ℕ) (good : OrderGood sch o n) (at : ℕ) (start : StartIn o at) where
  abbrev p : List ℕ
  p = alone_at o at

  -- the objects of both
  abbrev H : TypedObjects
  H = typed_objects (order_objects o) o

  abbrev K : TypedObjects
  K = typed_objects (order_objects p) p

  count_same : K.count ≡ H.count
  unfolding typed_objects order_objects
  count_same = objects_same o at start

  kind_same : (x : Object) → 1 ≤ x.0 → x.0 ≤ H.count → K.kind x ≡ H.kind x
  unfolding typed_objects order_objects
  kind_same x low high =
      byte_copied (objects_there o at start) (header_size + (x.0 - 1)) (header_size + (x.0 - 1)) (record { low = omega arith; level = omega arith }) (omega arith)

  objects_good : walk (order_object sch.kinds p) (object_count p) header_size ≡ Good (start_at p)
  objects_good =
      rw (objects_same o at start)
      (entries_all _ _ 15 1 (order_object_entry sch.kinds p) (object_count o) header_size
      (λ i l.
      let face : Facing header_size header_size (header_size + 1 * i) (header_size + 1 * i) = record { low = omega arith; level = omega arith } in
      rw (byte_copied (objects_there o at start) (header_size + 1 * i) (header_size + 1 * i) face (omega arith))
      (entries_right _ _ 15 1 (order_object_entry sch.kinds o) (object_count o) header_size (start_at o) good.objects i l))
      ∙ ap Good (omega (arith, start_at_lem o at start, start_at_is o)))

  -- ---- the start

  module _ (right : state as_written 16 sch H o (goal_at o) at ≡ Good (list_end o at)) where
    -- it stands where the starts do
    face : Facing at (start_at o) at (start_at p)
    face = record { low = omega arith; level = omega (arith, start_at_lem o at start) }

    count_there : two p (start_at p) ≡ two o at
    unfolding start_size
    count_there = two_copied (start_there o at start) at (start_at p) face (omega arith)

    size_is : start_size o at ≡ count_size + fact_size * two o at
    unfolding start_size
    size_is = refl

    ends : goal_at p ≡ start_at p + count_size + fact_size * two o at
    ends = omega (arith, goal_at_lem o at start, goal_alone_is o at start, start_at_lem o at start, size_is)

    fact_there : (i : ℕ) → i < two o at → fact_at p (start_at p + count_size + fact_size * i) ≡ fact_at o (at + count_size + fact_size * i)
    fact_there i l =
        fact_copied (start_there o at start) (at + count_size + fact_size * i) (start_at p + count_size + fact_size * i) (facing_on (facing_on face count_size) (fact_size * i))
        (omega (arith, size_is))

    fact_kept : (i : ℕ) → i < two o at → (last : Fact) → fact_refused as_written sch H o (goal_at o) last (at + count_size + fact_size * i) ≡ false
        → fact_refused as_written sch K p (goal_at p) last (start_at p + count_size + fact_size * i) ≡ false
    unfolding fact_refused cut
    fact_kept i l last e =
        let (reach, suits, order) = fact_good as_written sch H o (goal_at o) last (at + count_size + fact_size * i) e in
        rw (
          fact_there i l,
          le-ltb (goal_at p) (start_at p + count_size + fact_size * i + fact_size) (omega (arith, ends)),
          fact_same sch H K count_same kind_same (fact_at o (at + count_size + fact_size * i)),
          suits,
          order,
        )

    count_kept : count_bad max_facts p (goal_at p) (start_at p) ≡ false
    unfolding count_bad cut
    count_kept =
        rw (count_there, le-ltb (goal_at p) (start_at p + count_size) (omega (arith, ends)), le-ltb max_facts (two o at) start.few)

    start_good : state as_written 16 sch K p (goal_at p) (start_at p) ≡ Good (goal_at p)
    unfolding list
    start_good =
        let (reach, few, facts) = list_good as_written max_facts 16 sch H o (goal_at o) at (list_end o at) right in
        refuse_unmet _ _ _ _ count_kept
        ∙ rw count_there
        (chain_beside (facts_chain as_written 16 sch H o (goal_at o)) (facts_chain as_written 16 sch K p (goal_at p)) (two o at) no_fact (at + count_size) (start_at p + count_size) (list_end o at) fact_kept fact_there facts)
        ∙ ap Good (sym ends)

    starts_good : walk (state as_written 16 sch K p (goal_at p)) (start_count p) (start_at p) ≡ Good (goal_at p)
    starts_good =
        let item = state as_written 16 sch K p (goal_at p) in
        rw (starts_one o at start) (walk_last item 0 (start_at p) (start_at p) (walk_none item 0 (start_at p) refl) ∙ start_good)

    -- ---- goal entries and steps

    entry_face : (i : ℕ) → Facing (goal_at o) (goal_alone o at) (goal_at o + entry_size * i) (goal_at p + entry_size * i)
    entry_face i = record { low = omega arith; level = omega (arith, goal_at_lem o at start) }

    entry_there : (i : ℕ) → i < goal_count o → fact_at p (goal_at p + entry_size * i + 1) ≡ fact_at o (goal_at o + entry_size * i + 1)
    entry_there i l =
        fact_copied (rest_there o at start) (goal_at o + entry_size * i + 1) (goal_at p + entry_size * i + 1) (facing_on (entry_face i) 1) (omega (arith, end_is o at start))

    entry_kept : (i : ℕ) → i < goal_count o → (last : Fact) → entry_bad sch H o last (goal_at o + entry_size * i) ≡ false
        → entry_bad sch K p last (goal_at p + entry_size * i) ≡ false
    unfolding entry_bad
    entry_kept i l last e =
        rw (
          byte_copied (rest_there o at start) (goal_at o + entry_size * i) (goal_at p + entry_size * i) (entry_face i) (omega (arith, end_is o at start)),
          entry_there i l,
          fact_same sch H K count_same kind_same (fact_at o (goal_at o + entry_size * i + 1)),
        )
        e

    goal_good : entries sch K p (goal_count p) no_fact (goal_at p) ≡ Good (steps_at p)
    goal_good =
        rw (goals_same o at start)
        (chain_beside (goal_chain sch H o) (goal_chain sch K p) (goal_count o) no_fact (goal_at o) (goal_at p) (steps_at o) entry_kept entry_there good.goal
        ∙ ap Good (omega (arith, goal_at_lem o at start, steps_at_lem o at start)))

    step_kept : (i : ℕ) → i < step_count o → plan_step_bad sch H o (steps_at o + step_size * i) ≡ false → plan_step_bad sch K p (steps_at p + step_size * i) ≡ false
    unfolding plan_step_bad
    step_kept i l e =
        let face : Facing (goal_at o) (goal_alone o at) (steps_at o + step_size * i) (steps_at p + step_size * i) =
        record { low = omega (arith, steps_at_is o); level = omega (arith, steps_at_lem o at start, steps_at_is o) } in
        rw (
          step_copied (rest_there o at start) (steps_at o + step_size * i) (steps_at p + step_size * i) face (omega (arith, end_is o at start, steps_at_is o)),
          step_same sch H K count_same kind_same (step_at o (steps_at o + step_size * i)),
        )
        e

    plan_good : walk (plan_step sch K p) (step_count p) (steps_at p) ≡ Good (length p)
    plan_good =
        rw (steps_same o at start)
        (entries_all _ _ 18 step_size (plan_step_entry sch K p) (step_count o) (steps_at p)
        (λ i l. step_kept i l (entries_right _ _ 18 step_size (plan_step_entry sch H o) (step_count o) (steps_at o) (length o) good.plan i l))
        ∙ ap Good (omega (arith, length_alone o at start, steps_at_lem o at start, end_is o at start)))

    -- An order of good form with one of its starts alone is of good form.
    pub alone_good : order_form sch p ≡ Good (length p)
    alone_good =
        order_in sch p (length p)
        (record {
          header = header o at start;
          objects = objects_good;
          starts = starts_good;
          goal = goal_good;
          plan = plan_good;
          end = refl;
          most = omega (arith, good.most, length_alone o at start, goal_alone_is o at start, start.low, start.high, start_end o at, end_is o at start);
        })
