-- The loop over the steps of a record: its invariant, that it holds before the first step, and that each step keeps it.
use Prim.Native.Nat.{ℕ, suc, ◌+◌, ◌-◌, ◌≤◌, ◌<◌}
use native.Mathlib.Omega.{arith}
use mathlib.Core.Path.{◌≡◌, refl, sym, ap, ◌∙◌, subst}
use mathlib.Core.Logic.{◌⊎◌, inl, inr}
use mathlib.Core.Bool.{Bool, true, false, ◌&&◌, not}
use mathlib.Core.List.{List, [], ◌∷◌}
use lib.ListN.{length}
use Rattle.truth.specs.Bools.{decide}
use Rattle.limits.specs.Limits.{max_length, max_facts, step_size, state_size}
use Rattle.answer.specs.Answer.{Answer, Good, Refused, ◌>>=◌, refuse}
use Rattle.answer.proofs.Laws.{bind_good, bind_refused}
use Rattle.mask.specs.Sets.{empty, cardinality, mask_of}
use Rattle.terms.specs.declared.Fact.{Fact}
use Rattle.terms.specs.declared.Sections.{Sections}
use Rattle.terms.specs.Schema.{Schema, TypedObjects, schema}
use Rattle.format.specs.Filed.{went_at, filed_fact}
use Rattle.format.specs.Lists.{list_at, list_end}
use Rattle.format.specs.Form.{Form, most_listed, state_after}
use Rattle.format.specs.States.{list, next_state}
use Rattle.format.specs.Records.{step, steps}
use Rattle.format.specs.Decode.{RecordedStep, recorded_step, recorded_steps_at}
use Rattle.format.proofs.States.{list_ends, next_good}
use Rattle.format.proofs.Records.{step_good, step_reach, step_ends, steps_parted}
use Rattle.factsets.specs.Holding.{holding}
use Rattle.factsets.specs.Right.{RightState}
use Rattle.factsets.proofs.States.{state_right, next_right, list_suits, list_increasing, after_none}
use Rattle.factsets.proofs.Sorted.{mem_none}
use Rattle.turning.specs.Turning.{Turnable, Carried, Carries}
use Rattle.turning.proofs.Carrying.{carries_none, carries_count, carried_on, list_turnable}
use Rattle.wellformed.proofs.Records.{step_right}
use Rattle.quantify.specs.Quantify.{any}
use Rattle.observed.specs.Rules.{met_before, refuted_observed}
use Rattle.observed.proofs.Refuted.{refuted_here, refuted_later, refuted_none}
use Rattle.failedsteps.specs.Met.{mask_before, refuted_at}
use Rattle.failedsteps.specs.Asked.{BookAsked, StepAsked, ListAsked, StepsAsked}
use Rattle.failedsteps.proofs.State.{book_known, met_facts, mask_short, mask_full}

-- ---- the first of some steps, and the others

refuted_cons : (l : List ℕ) (x : RecordedStep) (xs : List RecordedStep)
    → refuted_observed l (x ∷ xs) ≡ (refuse (not x.went && met_before l x) 28 x.place >>= λ _. refuted_observed l xs)
unfolding refuse ◌>>=◌
refuted_cons l x xs = go (decide (not x.went && met_before l x))
  where
    go : ((not x.went && met_before l x) ≡ true) ⊎ ((not x.went && met_before l x) ≡ false) → refuted_observed l (x ∷ xs) ≡ (refuse (not x.went && met_before l x) 28 x.place >>= λ _. refuted_observed l xs)
    go (inl e) = rw e (refuted_here l x xs e)
    go (inr e) = rw e (refuted_later l x xs e)

module _ (form : Form) (s : List ℕ) where
  answered_none : (l : List ℕ) (k : ℕ) (before : List Fact) (at : ℕ) → k ≡ 0 → refuted_observed l (recorded_steps_at form s k before at) ≡ Good 0
  unfolding recorded_steps_at any
  answered_none l k before at e = rw e (refuted_none l [] refl)

-- ---- the loop

module _ (form : Form) (h : Sections) (s masks : List ℕ) (n first : ℕ) (book : BookAsked h s masks) (ask : StepsAsked form h s n first) where
  abbrev sch : Schema
  sch = schema h s

  abbrev ob : TypedObjects
  ob = ask.ob

  abbrev end : ℕ
  end = ask.end

  -- what row 28 answers of a number of steps from an offset on
  abbrev answered : ℕ → List Fact → ℕ → Answer
  answered k before at = refuted_observed masks (recorded_steps_at form s k before at)

  -- `before` are the facts behind the steps that are done: the list at `pre` in a full book, carried in the mask m in a short one. The steps that are left
  -- are of good form, and answer as all of them do
  pub record Going (before : List Fact) (m : List ℕ) (count done pre at : ℕ) : Type 0 where
    pub long : length m ≡ state_size
    pub right : RightState sch ob before
    pub carries : Carries form before m count
    pub listed : (form ≡ false → list_at s pre ≡ before) × Turnable s pre
    pub good : steps form sch ob s end (n - done) before at ≡ Good ask.last
    pub rest : answered (n - done) before at ≡ answered n (list_at s first) (list_end s first)

  -- ---- the first state

  first_reach : list_end s first ≤ end
  first_reach = (list_ends _ max_facts 8 sch ob s end first _ ask.start).1

  pub first_near : first ≤ max_length
  unfolding list_end
  first_near = omega (arith, first_reach, ask.within, book.size)

  pub first_turnable : Turnable s first
  unfolding filed_fact
  first_turnable =
      list_turnable max_facts 8 sch ob ask.few (book_known h s masks book) s end first _ ask.start ask.within (omega (arith, first_near))

  pub going_first : (m m' : List ℕ) (count at : ℕ) → m ≡ empty state_size → length m' ≡ state_size → Carried form s first m m' count → at ≡ list_end s first
      → Going (list_at s first) m' count 0 first at
  unfolding filed_fact
  going_first m m' count at e long carried place =
      let all : n - 0 ≡ n = omega arith in
      let order = list_increasing max_facts 8 sch ob s end first _ ask.start in
      record {
        long = long;
        right = state_right 8 sch ob s end first _ ask.start;
        carries = subst (λ (fs : List Fact). Carries form fs m' count) (after_none form s first order)
            (carried_on sch ob ask.few (book_known h s masks book) form [] (empty state_size) 0 (λ f k. absurd (mem_none k)) tt (carries_none form) s first
            (list_suits max_facts 8 sch ob s end first _ ask.start) order m' count (rw e at carried));
        listed = (λ full. refl, first_turnable);
        good = rw (place, all) ask.good;
        rest = rw (place, all) refl;
      }

  -- ---- one step on

  module _ (before : List Fact) (m : List ℕ) (count done pre at : ℕ) (going : Going before m count done pre at) where
    pub going_none : n ≤ done → Good 0 ≡ answered n (list_at s first) (list_end s first)
    going_none h = sym (answered_none form s masks (n - done) before at (omega arith)) ∙ going.rest

    module _ (some : done < n) where
      -- how many are left behind the next one
      abbrev k : ℕ
      k = n - (done + 1)

      more : n - done ≡ suc k
      more = omega arith

      abbrev x : RecordedStep
      x = recorded_step form s before at

      abbrev after : List Fact
      after = state_after form s before (at + step_size)

      parted : (step form sch ob s end before at ≡ Good (list_end s (at + step_size))) × (steps form sch ob s end k after (list_end s (at + step_size)) ≡ Good ask.last)
      parted = steps_parted form sch ob s end k before at ask.last (rw more at going.good)

      next : next_state form sch ob s end before (at + step_size) ≡ Good (list_end s (at + step_size))
      next = (step_good form sch ob s end before at _ parted.0).2

      behind : list (filed_fact form) 8 (most_listed form) sch ob s end (at + step_size) ≡ Good (list_end s (at + step_size))
      behind = (next_good form sch ob s end before (at + step_size) _ next).0

      reach : (at + step_size ≤ end) × (list_end s (at + step_size) ≤ end)
      reach = (step_reach form sch ob s end before at _ parted.0, (step_ends form sch ob s end before at _ parted.0).1)

      pub next_near : at + step_size ≤ max_length
      next_near = omega (arith, reach.0, ask.within, book.size)

      -- what is asked
      pub going_step : StepAsked h s at masks
      unfolding recorded_step
      going_step =
          record {
            book = book;
            ob = ob;
            few = ask.few;
            right = (step_right form sch ob ask.typed s end before at _ parted.0 going.right).step;
            within = omega (arith, reach.0, ask.within);
          }

      pub going_list : form ≡ false → ListAsked h s pre
      going_list e =
          record { ob = ob; few = ask.few; right = subst (RightState sch ob) (sym (going.listed.0 e)) going.right; turnable = going.listed.1 }

      pub going_count : form ≡ true → count ≡ cardinality m
      going_count = carries_count sch ob ask.few (book_known h s masks book) form before m count going.right.suits going.right.increasing going.carries

      pub next_turnable : Turnable s (at + step_size)
      unfolding filed_fact
      next_turnable =
          list_turnable (most_listed form) 8 sch ob ask.few (book_known h s masks book) s end (at + step_size) _ behind ask.within (omega (arith, next_near))

      -- the state before the step, as the code has it
      mask_is : mask_before form s pre m ≡ mask_of state_size (holding before)
      mask_is = go (decide form)
        where
          go : (form ≡ true) ⊎ (form ≡ false) → mask_before form s pre m ≡ mask_of state_size (holding before)
          go (inl e) = mask_short form s pre m e ∙ going.carries.mask e
          go (inr e) = mask_full form s pre m e ∙ ap (λ (fs : List Fact). mask_of state_size (holding fs)) (going.listed.0 e)

      refuted_is : refuted_at form sch s pre at m masks ≡ (not x.went && met_before masks x)
      unfolding refuted_at recorded_step going_step
      refuted_is = ap (λ (b : Bool). not (went_at s at) && b) (met_facts h s at masks going_step form before (mask_before form s pre m) going.right mask_is)

      -- in a full book the list behind the step is the state after it
      listed_next : form ≡ false → list_at s (at + step_size) ≡ after
      unfolding state_after
      listed_next e = rw e

      -- row 28 of the next step, and then of the others, is that of all
      turn : (refuse (refuted_at form sch s pre at m masks) 28 at >>= λ _. answered k after (list_end s (at + step_size))) ≡ answered n (list_at s first) (list_end s first)
      unfolding recorded_steps_at recorded_step
      turn = ap (λ (b : Bool). refuse b 28 at >>= λ _. answered k after (list_end s (at + step_size))) refuted_is ∙ sym (refuted_cons masks x _)
          ∙ ap (λ (j : ℕ). answered j before at) (sym more) ∙ going.rest

      pub going_refuted : {num p : ℕ} → Refused num p ≡ refuse (refuted_at form sch s pre at m masks) 28 at → Refused num p ≡ answered n (list_at s first) (list_end s first)
      going_refuted is = sym (bind_refused _ _ _ _ (sym is)) ∙ turn

      pub going_on_lem : Good 0 ≡ refuse (refuted_at form sch s pre at m masks) 28 at → (m' : List ℕ) (count' at' : ℕ) → length m' ≡ state_size → Carried form s (at + step_size) m m' count' → at' ≡ list_end s (at + step_size)
          → Going after m' count' (done + 1) (at + step_size) at'
      unfolding filed_fact
      going_on_lem is m' count' at' long carried place =
          record {
            long = long;
            right = next_right form sch ob s end before (at + step_size) _ going.right next;
            carries = carried_on sch ob ask.few (book_known h s masks book) form before m count going.right.suits going.right.increasing going.carries s (at + step_size)
                (list_suits (most_listed form) 8 sch ob s end (at + step_size) _ behind) (list_increasing (most_listed form) 8 sch ob s end (at + step_size) _ behind) m' count' carried;
            listed = (listed_next, next_turnable);
            good = rw place parted.1;
            rest = rw place (sym (bind_good _ _ _ (sym is)) ∙ turn);
          }
