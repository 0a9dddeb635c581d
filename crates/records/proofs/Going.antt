-- The loop over the steps of a record: its invariant, that it holds before the first step, and that each step keeps it.
use Prim.Native.Nat.{ℕ, ◌+◌, ◌-◌, ◌≤◌, ◌<◌}
use native.Mathlib.Omega.{arith}
use mathlib.Core.Path.{◌≡◌, refl, sym, ◌∙◌, subst}
use mathlib.Core.Bool.{Bool, true, false}
use mathlib.Core.List.{List, []}
use lib.Dec.{ltb}
use lib.ListN.{length}
use Rattle.limits.specs.Limits.{max_length, max_facts, step_size, state_size, near_ceiling}
use Rattle.answer.specs.Answer.{Answer, Good, Refused, is_refused}
use Rattle.mask.specs.Sets.{empty, cardinality}
use Rattle.terms.specs.declared.Fact.{Fact}
use Rattle.terms.specs.Schema.{schema, typed_objects}
use Rattle.format.specs.Filed.{filed_fact}
use Rattle.format.specs.Lists.{list_at, list_end}
use Rattle.format.specs.Form.{Form, most_listed, state_after}
use Rattle.format.specs.States.{list, state}
use Rattle.format.specs.Records.{failed_changes, steps}
use Rattle.format.proofs.States.{list_within, list_ends, next_in_lem}
use Rattle.factsets.specs.Right.{RightState}
use Rattle.factsets.proofs.States.{state_right, next_right, list_suits, list_increasing, list_few, after_none}
use Rattle.factsets.proofs.Sorted.{mem_none}
use Rattle.turning.specs.Turning.{Turnable, Carried, Carries}
use Rattle.turning.proofs.Carrying.{carries_none, carries_count, carried_on, carried_many, list_turnable}
use Rattle.records.specs.declared.Scope.{Scope}
use Rattle.records.specs.Readable.{schema_in, typed_in, Readable, step_listed}
use Rattle.records.specs.Rows.{changes_listed, StepsListed, step_after}
use Rattle.records.proofs.Failed.{changes_by_lists}
use Rattle.records.proofs.Parts.{after_good, listed_good, steps_none, steps_refused, steps_stop, steps_on}

-- the steps that are left, from the facts that hold before them, answer as all of them do; in a full book these facts are the list at `pre`; their state
-- is carried
pub record Going (s : List ℕ) (c : Scope) (first from : ℕ) (before : List Fact) (m : List ℕ) (count left pre at : ℕ) : Type 0 where
  pub near : at ≤ max_length
  pub listed : c.short ≡ false → (list_at s pre ≡ before) × (pre ≤ max_length) × (list_end s pre ≤ length s)
  pub long : length m ≡ state_size
  pub right : RightState (schema_in s c) (typed_in s c) before
  pub carries : Carries c.short before m count
  pub rest : steps c.short (schema_in s c) (typed_in s c) s c.end left before at ≡ steps c.short (schema_in s c) (typed_in s c) s c.end c.steps (list_at s first) from

-- in a full book the facts after a step are the list behind it
after_full : (form : Form) (s : List ℕ) (before : List Fact) (at : ℕ) → form ≡ false → list_at s at ≡ state_after form s before at
unfolding state_after
after_full form s before at full = rw full

module _ (s : List ℕ) (c : Scope) (ks t : List ℕ) (readable : Readable s c ks t) where
  known : (schema_in s c).relations ≤ 16
  unfolding schema
  known = readable.known

  few : (typed_in s c).count ≤ 16
  unfolding typed_objects
  few = readable.few

  -- a good list of the record stands within the book, at an offset that can be added to
  list_placed : (read : Fact → Fact) (most at next : ℕ) → list read 8 most (schema_in s c) (typed_in s c) s c.end at ≡ Good next → (at ≤ max_length) × (list_end s at ≤ length s)
  unfolding list_end
  list_placed read most at next good =
      let (same, ends) = list_ends read most 8 (schema_in s c) (typed_in s c) s c.end at next good in
      (omega (arith, ends, readable.near), omega (arith, ends, readable.within))

  -- ---- the first state

  module _ (first from : ℕ) (near : first ≤ near_ceiling) (good : state (filed_fact c.short) 8 (schema_in s c) (typed_in s c) s c.end first ≡ Good from) where
    pub first_turnable : Turnable s first
    unfolding filed_fact
    first_turnable = list_turnable max_facts 8 (schema_in s c) (typed_in s c) few known s c.end first from good readable.within near

    pub going_first : (m m' : List ℕ) (count : ℕ) → m ≡ empty state_size → length m' ≡ state_size → Carried c.short s first m m' count → Going s c first from (list_at s first) m' count c.steps first from
    unfolding filed_fact
    going_first m m' count e long carried =
        let order = list_increasing max_facts 8 (schema_in s c) (typed_in s c) s c.end first from good in
        record {
          near = omega (arith, list_within _ max_facts 8 (schema_in s c) (typed_in s c) s c.end first from good, readable.near);
          listed = λ full. let (near, within) = list_placed _ max_facts first from good in (refl, near, within);
          long = long;
          right = state_right 8 (schema_in s c) (typed_in s c) s c.end first from good;
          carries = subst (λ (fs : List Fact). Carries c.short fs m' count) (after_none c.short s first order)
              (carried_on (schema_in s c) (typed_in s c) few known c.short [] (empty state_size) 0 (λ f m. absurd (mem_none m)) tt (carries_none c.short) s first
              (list_suits max_facts 8 (schema_in s c) (typed_in s c) s c.end first from good) order m' count (rw e at carried));
          rest = refl;
        }

  -- ---- one step on

  module _ (first from : ℕ) (before : List Fact) (m : List ℕ) (count left pre at : ℕ) (going : Going s c first from before m count left pre at) where
    pub going_count : c.short ≡ true → count ≡ cardinality m
    going_count = carries_count (schema_in s c) (typed_in s c) few known c.short before m count going.right.suits going.right.increasing going.carries

    module _ (some : 0 < left) (a : Answer) (listed : a ≡ step_listed c.short (schema_in s c) (typed_in s c) s c.end at) where
      pub going_refused : (k p : ℕ) → a ≡ Refused k p → Refused k p ≡ steps c.short (schema_in s c) (typed_in s c) s c.end c.steps (list_at s first) from
      going_refused k p e = steps_refused c.short (schema_in s c) (typed_in s c) s c.end _ left at before going.rest some a listed k p e

      module _ (next : ℕ) (good : a ≡ Good next) where
        behind : (at + step_size ≤ c.end) × (list (filed_fact c.short) 8 (most_listed c.short) (schema_in s c) (typed_in s c) s c.end (at + step_size) ≡ Good next)
        behind = listed_good c.short (schema_in s c) (typed_in s c) s c.end at next (sym listed ∙ good)

        pub going_turnable : Turnable s (at + step_size)
        unfolding filed_fact
        going_turnable =
            list_turnable (most_listed c.short) 8 (schema_in s c) (typed_in s c) few known s c.end (at + step_size) next behind.1 readable.within (omega (arith, behind.0, readable.near))

        pub going_listed : StepsListed s c.short pre at
        going_listed =
            record {
              before = λ full. ((going.listed full).1, (going.listed full).2);
              behind = (list_placed _ (most_listed c.short) (at + step_size) next behind.1).1;
              near = going.near;
            }

        changes : changes_listed c.short s pre at ≡ failed_changes c.short s before at
        unfolding filed_fact
        changes =
            changes_by_lists c.short s before pre at going.right.increasing (λ full. (going.listed full).0)
            (λ short. list_increasing (most_listed c.short) 8 _ _ s c.end _ next behind.1)

        module _ (m' : List ℕ) (count' : ℕ) (carried : Carried c.short s (at + step_size) m m' count') where
          many : ltb max_facts count' ≡ ltb max_facts (length (state_after c.short s before (at + step_size)))
          unfolding filed_fact
          many =
              carried_many (schema_in s c) (typed_in s c) few known c.short before m count going.right.suits going.right.increasing going.carries s (at + step_size)
              (list_suits (most_listed c.short) 8 _ _ s c.end _ next behind.1) (list_increasing (most_listed c.short) 8 _ _ s c.end _ next behind.1) m' count' carried
              (list_few (most_listed c.short) 8 _ _ s c.end _ next behind.1)

          module _ (r : Answer) (after : r ≡ step_after at count' (changes_listed c.short s pre at) next) (b : Bool) (refused : b ≡ is_refused r) where
            counted : r ≡ step_after at (length (state_after c.short s before (at + step_size))) (failed_changes c.short s before at) next
            unfolding step_after
            counted = rw (← many, ← changes) after

            pub going_stops : b ≡ true → r ≡ steps c.short (schema_in s c) (typed_in s c) s c.end c.steps (list_at s first) from
            going_stops e = steps_stop c.short (schema_in s c) (typed_in s c) s c.end _ left at before going.rest some a listed next good r counted b refused e

            pub going_on_lem : length m' ≡ state_size → b ≡ false → Going s c first from (state_after c.short s before (at + step_size)) m' count' (left - 1) (at + step_size) next
            unfolding filed_fact
            going_on_lem long e =
                let size = (after_good at (length (state_after c.short s before (at + step_size))) _ next r b counted refused e).0 in
                record {
                  near = omega (arith, list_within _ (most_listed c.short) 8 _ _ s c.end _ next behind.1, readable.near);
                  listed = λ full. let (near, within) = list_placed _ (most_listed c.short) (at + step_size) next behind.1 in (after_full c.short s before (at + step_size) full, near, within);
                  long = long;
                  right = next_right c.short _ _ s c.end before (at + step_size) next going.right (next_in_lem c.short _ _ s c.end before (at + step_size) next behind.1 size);
                  carries = carried_on (schema_in s c) (typed_in s c) few known c.short before m count going.right.suits going.right.increasing going.carries s (at + step_size)
                      (list_suits (most_listed c.short) 8 _ _ s c.end _ next behind.1) (list_increasing (most_listed c.short) 8 _ _ s c.end _ next behind.1) m' count' carried;
                  rest = steps_on c.short (schema_in s c) (typed_in s c) s c.end _ left at before going.rest some a listed next good r counted b refused e;
                }

    pub going_none : left ≡ 0 → Good at ≡ steps c.short (schema_in s c) (typed_in s c) s c.end c.steps (list_at s first) from
    going_none e = steps_none c.short (schema_in s c) (typed_in s c) s c.end _ left at before going.rest e
