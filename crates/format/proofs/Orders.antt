-- Rows 14 and 22, and the parts of rows 15 to 18: what an order's header has, objects and plan steps as entries of one size, goal entries in order.
use Prim.Native.Nat.{ℕ, ◌+◌, ◌*◌, ◌≤◌}
use mathlib.Core.Path.{◌≡◌, refl, ◌∙◌}
use mathlib.Core.Bool.{false, ◌||◌, not}
use mathlib.Core.List.{List}
use borrow.Author.Tests.{ltb-false, le-ltb, eqb-true, eq-eqb, not-false}
use lib.Dec.{eqb, ltb}
use lib.ListN.{length}
use Rattle.truth.specs.Bools.{neither}
use Rattle.answer.specs.Answer.{Good}
use Rattle.answer.proofs.Laws.{none_over, refuse_unmet, passed}
use Rattle.answer.proofs.Entries.{Entry}
use Rattle.input.specs.Bytes.{byte_at, two}
use Rattle.terms.specs.declared.Fact.{Fact}
use Rattle.terms.specs.Schema.{Schema, TypedObjects, out_of_range}
use Rattle.terms.specs.Facts.{fact_at, fact_bad, precedes}
use Rattle.limits.specs.Limits.{header_size, max_objects, max_starts, max_entries, max_steps, entry_size, step_size}
use Rattle.format.specs.Order.{object_count, start_count, goal_count, step_count, start_at, goal_at, steps_at, order_counts_bad, order_offsets_bad, order_header, order_object, entry_bad, entries, plan_step, plan_step_bad}
use Rattle.format.proofs.Chains.{Chain}

-- the longest order of good form: all counts at their limits, and 256 facts in each start
abbrev pub max_order : ℕ
max_order = 12928

-- rows 14 and 22 are not met
pub record OrderHeaderGood (o : List ℕ) : Type 0 where
  pub least : header_size ≤ length o
  pub objects : object_count o ≤ max_objects
  pub some : 1 ≤ start_count o
  pub starts : start_count o ≤ max_starts
  pub entries : goal_count o ≤ max_entries
  pub steps : step_count o ≤ max_steps
  pub objects_told : two o 8 ≡ header_size
  pub start_told : two o 10 ≡ start_at o
  pub touch : start_at o ≤ goal_at o
  pub steps_told : two o 14 ≡ steps_at o
  pub size : length o ≡ steps_at o + step_size * step_count o

-- the offsets' tests
order_offsets : (o : List ℕ) → order_offsets_bad o ≡ false
    → (two o 8 ≡ header_size) × (two o 10 ≡ start_at o) × (start_at o ≤ goal_at o) × (two o 14 ≡ steps_at o) × (length o ≡ steps_at o + step_size * step_count o)
unfolding order_offsets_bad
order_offsets o e =
    let front = not (eqb (two o 8) header_size) || not (eqb (two o 10) (start_at o)) in
    let middle = front || ltb (goal_at o) (start_at o) in
    let last = neither (middle || not (eqb (two o 14) (steps_at o))) _ e in
    let fourth = neither middle _ last.0 in
    let third = neither front _ fourth.0 in
    let second = neither (not (eqb (two o 8) header_size)) _ third.0 in (
      eqb-true (two o 8) header_size (not-false _ second.0),
      eqb-true (two o 10) (start_at o) (not-false _ second.1),
      ltb-false _ _ third.1,
      eqb-true (two o 14) (steps_at o) (not-false _ fourth.1),
      eqb-true (length o) (steps_at o + step_size * step_count o) (not-false _ last.1),
    )

pub order_header_good : (o : List ℕ) (n : ℕ) → order_header o ≡ Good n → OrderHeaderGood o
unfolding order_header order_counts_bad out_of_range
order_header_good o n e =
    let a = passed (order_counts_bad o) 14 0 n _ e in
    let b = passed (out_of_range max_starts (start_count o)) 22 0 n _ a.1 in
    let c = passed (order_offsets_bad o) 14 0 n _ b.1 in
    let w = none_over _ _ _ _ _ _ _ _ a.0 in
    let x = neither _ _ b.0 in
    let t = order_offsets o c.0 in
    record {
      least = w.0;
      objects = w.1;
      some = ltb-false _ _ x.0;
      starts = ltb-false _ _ x.1;
      entries = w.2;
      steps = w.3;
      objects_told = t.0;
      start_told = t.1;
      touch = t.2;
      steps_told = t.3;
      size = t.4;
    }

-- and the other way round
pub order_header_in : (o : List ℕ) → OrderHeaderGood o → order_header o ≡ Good header_size
unfolding order_header order_counts_bad out_of_range order_offsets_bad
order_header_in o g =
    refuse_unmet _ _ _ _ (rw (le-ltb (length o) header_size g.least, le-ltb max_objects (object_count o) g.objects, le-ltb max_entries (goal_count o) g.entries, le-ltb max_steps (step_count o) g.steps))
    ∙ refuse_unmet _ _ _ _ (rw (le-ltb (start_count o) 1 g.some, le-ltb max_starts (start_count o) g.starts))
    ∙ refuse_unmet _ _ _ _
    (rw (
      eq-eqb (two o 8) header_size g.objects_told,
      eq-eqb (two o 10) (start_at o) g.start_told,
      le-ltb (goal_at o) (start_at o) g.touch,
      eq-eqb (two o 14) (steps_at o) g.steps_told,
      eq-eqb (length o) (steps_at o + step_size * step_count o) g.size,
    ))

-- where each section starts: the end of the one before it
pub start_at_is : (o : List ℕ) → header_size + object_count o ≡ start_at o
unfolding start_at
start_at_is o = refl

pub steps_at_is : (o : List ℕ) → goal_at o + entry_size * goal_count o ≡ steps_at o
unfolding steps_at
steps_at_is o = refl

-- answer/specs/Entries has the laws of a walk over entries
pub order_object_entry : (kinds : ℕ) (o : List ℕ) → Entry (order_object kinds o) (λ at. out_of_range kinds (byte_at o at)) 15 1
unfolding order_object
order_object_entry kinds o at = refl

module _ (sch : Schema) (ob : TypedObjects) (o : List ℕ) where
  pub plan_step_entry : Entry (plan_step sch ob o) (plan_step_bad sch ob o) 18 step_size
  unfolding plan_step
  plan_step_entry at = refl

  -- the fact of a goal entry that is not refused suits
  pub goal_entry_suits : (last : Fact) (at : ℕ) → entry_bad sch ob o last at ≡ false → fact_bad sch ob (fact_at o (at + 1)) ≡ false
  unfolding entry_bad
  goal_entry_suits last at e =
      let f : Fact = fact_at o (at + 1) in
      (neither (ltb 1 (byte_at o at)) _ (neither (ltb 1 (byte_at o at) || fact_bad sch ob f) (not (precedes last f)) e).0).1

  -- goal entries stand in order: Chains has their laws
  pub goal_chain : Chain (entries sch ob o) (entry_bad sch ob o) (λ at. fact_at o (at + 1)) 17 entry_size
  unfolding entries
  goal_chain = record { none = λ last at. refl; more = λ n last at. refl }
