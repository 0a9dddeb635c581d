-- The starts of an order one by one, as the code walks them, and the only start of an order.
use Prim.Native.Nat.{ℕ, zero, suc, ◌+◌, ◌-◌, ◌≤◌, ◌<◌}
use mathlib.Core.Path.{◌≡◌, refl, sym, ap, ◌∙◌, subst}
use mathlib.Core.Bool.{true, false}
use mathlib.Core.Logic.{◌⊎◌, inl, inr}
use mathlib.Core.List.{List, [], ◌∷◌}
use native.Mathlib.Numerals.{sub-one}
use native.Mathlib.Omega.{arith}
use lib.ListN.{length}
use Rattle.answer.specs.Answer.{Answer, Good, Positioned, is_refused, unpositioned, kept}
use Rattle.std.proofs.Common.{Result, Ok, Err}
use Rattle.answer.specs.declared.Refusal.{Refusal}
use Rattle.answer.specs.Refusal.{refused_by, answer_of}
use Rattle.answer.proofs.Results.{err_is, ok_is}
use Rattle.truth.specs.Bools.{clash, decide}
use Rattle.answer.proofs.Laws.{kept_same, refused_good}
use Rattle.answer.proofs.Turns.{is_good}
use Rattle.answer.specs.Walk.{walk}
use Rattle.limits.specs.Limits.{max_length, max_facts}
use Rattle.terms.specs.declared.Fact.{Fact}
use Rattle.terms.specs.Schema.{Schema}
use Rattle.format.specs.Filed.{as_written}
use Rattle.format.specs.States.{state}
use Rattle.format.specs.Lists.{list_at, list_end}
use Rattle.format.specs.Order.{goal_at, start_count, start_at, step_count, starts_from, starts, goal, plan}
use Rattle.format.proofs.States.{list_ends}
use Rattle.jobs.specs.Check.{first_failing, end_after}
use Rattle.jobs.proofs.Starts.{failing_none, failing_here, failing_later, end_several}
use Rattle.statemask.specs.Statemask.{MoveRules, execute, start_mask}
use Rattle.wellformed.proofs.Orders.{length_starts}
use Rattle.starts.specs.Starts.{PlanExecuted, executed_from, answer_from, StartsGood, answer_each, StartsOutcome}
use Rattle.starts.proofs.Laws.{executed_ends}
use Rattle.answer.proofs.Walks.{walk_parted}

-- ---- a start, and those after it
starts_more : (o : List ℕ) (n at : ℕ) → 0 < n → starts_from o n at ≡ list_at o at ∷ starts_from o (n - 1) (list_end o at)
unfolding starts_from
starts_more o zero at h = absurd (omega arith)
starts_more o (suc n) at h = rw sub-one

starts_none : (o : List ℕ) (n at : ℕ) → n ≡ 0 → starts_from o n at ≡ []
unfolding starts_from
starts_none o n at e = rw e

-- the first of some good starts ends before the goal entries, and those after it are good
pub next_start : (o : List ℕ) (n at : ℕ) → StartsGood o n at → 0 < n
    → (list_end o at ≤ max_length) × (list_end o at ≤ length o) × StartsGood o (n - 1) (list_end o at)
next_start o zero at g h = absurd (omega arith)
next_start o (suc n) at g h =
    let (next, good, rest) = walk_parted (state as_written 16 g.sch g.ob o (goal_at o)) n at (goal_at o) g.good in
    let (place, end) = list_ends _ max_facts 16 g.sch g.ob o (goal_at o) at next good in (
      omega (arith, g.near),
      omega (arith, g.within),
      record {
        sch = g.sch;
        ob = g.ob;
        good = rw sub-one (subst (λ (x : ℕ). walk (state as_written 16 g.sch g.ob o (goal_at o)) n x ≡ Good (goal_at o)) place rest);
        near = g.near;
        within = g.within;
      },
    )

-- ---- a turn of the loop over the starts: those behind the first `i` answer as all of them do
module _ (sch : Schema) (R : ℕ → MoveRules) (o : List ℕ) where
  abbrev each : ℕ → List (List Fact) → Positioned
  each = first_failing (answer_from sch R o) (step_count o)

  pub each_begins : (at : ℕ) → at ≡ start_at o → each 1 (starts_from o (start_count o - 0) at) ≡ answer_each sch R o
  unfolding answer_each starts
  each_begins at q = let left : start_count o - 0 ≡ start_count o = omega arith in rw (left, q) refl

  module _ (i at : ℕ) (left : each (i + 1) (starts_from o (start_count o - i) at) ≡ answer_each sch R o) where
    pub each_ends : (steps : ℕ) → start_count o ≤ i → steps ≡ step_count o → ◌≡◌ {A = Positioned} (record { answer = Good steps; position = 0 }) (answer_each sch R o)
    unfolding unpositioned
    each_ends steps none p =
        ap (λ (x : ℕ). unpositioned (Good x)) p ∙ sym (failing_none (answer_from sch R o) (step_count o) (i + 1)) ∙ sym (ap (each (i + 1)) (starts_none o (start_count o - i) at (omega arith)))
        ∙ left

    -- what the next start comes to
    module _ (some : i < start_count o) (r : Result ℕ Refusal) (says : answer_of r ≡ answer_from sch R o (list_at o at)) where
      more : starts_from o (start_count o - i) at ≡ list_at o at ∷ starts_from o (start_count o - (i + 1)) (list_end o at)
      more =
          let next : start_count o - (i + 1) ≡ start_count o - i - 1 = omega arith in
          rw next (starts_more o (start_count o - i) at (omega arith))

      pub each_fails : (e : Refusal) → r ≡ Err e → ◌≡◌ {A = Positioned} (record { answer = refused_by e; position = i + 1 }) (answer_each sch R o)
      unfolding is_refused
      each_fails e p =
          let fails = err_is _ r says e p in
          rw (sym fails)
          (sym (failing_here (answer_from sch R o) (step_count o) (i + 1) (list_at o at) (starts_from o (start_count o - (i + 1)) (list_end o at)) (ap is_refused fails)))
          ∙ sym (ap (each (i + 1)) more)
          ∙ left

      pub each_goes : (n : ℕ) → r ≡ Ok n → each (i + 1 + 1) (starts_from o (start_count o - (i + 1)) (list_end o at)) ≡ answer_each sch R o
      unfolding is_refused
      each_goes n p =
          let up : i + 1 + 1 ≡ suc (i + 1) = omega arith in
          rw up (sym (failing_later (answer_from sch R o) (step_count o) (i + 1) (list_at o at) (starts_from o (start_count o - (i + 1)) (list_end o at)) (ap is_refused (ok_is _ r says n p))))
          ∙ sym (ap (each (i + 1)) more)
          ∙ left

-- ---- the only start
module _ (sch : Schema) (R : ℕ → MoveRules) (o old state new : List ℕ) (at : ℕ) (one : start_count o ≡ 1) (from : at ≡ start_at o) (start : state ≡ start_mask (list_at o at)) where
  only : starts o ≡ list_at o at ∷ []
  unfolding starts starts_from
  only = rw (one, from)

  own_out : (r : Answer) → PlanExecuted (execute sch R (plan o) state 1) (step_count o) (goal o) new r → PlanExecuted (executed_from sch R o (list_at o at)) (step_count o) (goal o) new r
  unfolding executed_from
  own_out r out = rw start at out

  pub only_fails : (e : Refusal) → PlanExecuted (execute sch R (plan o) state 1) (step_count o) (goal o) new (refused_by e)
      → StartsOutcome sch R o old old (record { answer = refused_by e; position = 1 })
  unfolding answer_each answer_from is_refused kept
  only_fails e out =
      let fails = (own_out _ out).says in
      record {
        says = rw only (rw fails (sym (failing_here (answer_from sch R o) (step_count o) 1 (list_at o at) [] (ap is_refused (sym fails)))));
        bytes = refl;
      }

  -- a pass: the sheet is the mask
  pub only_ends : (n : ℕ) → PlanExecuted (execute sch R (plan o) state 1) (step_count o) (goal o) new (Good n) → (sheet : List ℕ) → sheet ≡ new
      → StartsOutcome sch R o old sheet (record { answer = Good n; position = 0 })
  unfolding answer_each answer_from is_refused unpositioned kept end_after
  only_ends n out sheet f =
      let own = own_out _ out in
      let steps = (executed_ends _ (step_count o) (goal o) n (sym own.says)).1 in
      record {
        says =
            ap (λ (x : ℕ). unpositioned (Good x)) steps
            ∙ sym (ap (each sch R o 1) only ∙ failing_later (answer_from sch R o) (step_count o) 1 (list_at o at) [] (ap is_refused (sym own.says)) ∙ failing_none (answer_from sch R o) (step_count o) 2);
        bytes = rw only (f ∙ own.mask);
      }

-- one start alone whose answer is good has not stopped
pub only_goes : (sch : Schema) (R : ℕ → MoveRules) (o : List ℕ) (start : List Fact) (m : ℕ) → (first_failing (answer_from sch R o) (step_count o) 1 (start ∷ [])).answer ≡ Good m
    → (executed_from sch R o start).stop ≡ 0
unfolding answer_from
only_goes sch R o start m e = go (decide (is_refused (answer_from sch R o start)))
  where
    go : (is_refused (answer_from sch R o start) ≡ true) ⊎ (is_refused (answer_from sch R o start) ≡ false) → (executed_from sch R o start).stop ≡ 0
    go (inl r) =
        let fails = ap (λ (x : Positioned). x.answer) (failing_here (answer_from sch R o) (step_count o) 1 start [] r) in
        clash _ (sym (ap is_refused (sym fails ∙ e)) ∙ r) (refused_good m)
    go (inr r) = (executed_ends _ (step_count o) (goal o) _ (is_good (answer_from sch R o start) r)).0

-- ---- several starts
pub several_by : (sch : Schema) (R : ℕ → MoveRules) (o old : List ℕ) (n : ℕ) (r : Positioned) → n ≡ start_count o → (n ≡ 1 → ⊥) → r ≡ answer_each sch R o → StartsOutcome sch R o old old r
several_by sch R o old n r count more says =
    record { says = says; bytes = sym (kept_same r.answer _ old (end_several _ (starts o) old (λ one. more (count ∙ sym (length_starts o) ∙ one)))) }
