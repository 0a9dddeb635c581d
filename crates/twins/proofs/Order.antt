-- An order is tested the same under schemas that say the same and have as many kinds: rows 14 to 18 give one answer, refusals too. Facts and steps
-- are tested the same once the order's objects are of kinds that are there, and row 15 stands before them.
use Prim.Native.Nat.{ℕ, zero, suc, ◌+◌, ◌≤◌}
use mathlib.Core.Path.{◌≡◌, refl, ap, ap₂, ◌∙◌}
use mathlib.Core.Bool.{Bool, false, ◌||◌, not}
use mathlib.Core.List.{List}
use native.Mathlib.Omega.{arith}
use lib.Dec.{ltb}
use Rattle.answer.specs.Answer.{Answer, Good, Refused, ◌>>=◌, refuse}
use Rattle.answer.proofs.Laws.{bind_cong}
use Rattle.answer.specs.Walk.{walk}
use Rattle.input.specs.Bytes.{byte_at, two}
use Rattle.truth.specs.Bools.{clash, is_true, bool_eq}
use Rattle.limits.specs.Limits.{header_size, count_size, fact_size, entry_size, step_size}
use Rattle.terms.specs.declared.Fact.{Fact}
use Rattle.terms.specs.declared.Step.{Step}
use Rattle.terms.specs.declared.Object.{Object}
use Rattle.terms.specs.Schema.{Schema, TypedObjects, typed_objects}
use Rattle.terms.specs.Facts.{fact_at, fact_bad, precedes, no_fact}
use Rattle.terms.specs.Steps.{step_at, step_bad, repeats}
use Rattle.terms.specs.Typing.{Falling}
use Rattle.terms.specs.Agree.{SameSchema}
use Rattle.terms.proofs.Agree.{SameObjects, same_sym, fact_over, step_over}
use Rattle.format.specs.Filed.{as_written}
use Rattle.format.specs.States.{cut, fact_refused, facts, list, state}
use Rattle.format.specs.Order.{object_count, start_count, goal_count, step_count, start_at, goal_at, steps_at, order_header, order_objects, order_object, starts_form}
use Rattle.format.specs.Order.{entry_bad, entries, plan_step_bad, plan_step, from_goal, from_start, order_form}
use Rattle.format.proofs.Typing.{order_objects_known}

-- tests that fail together are equal
fails_same : (b c : Bool) → (b ≡ false → c ≡ false) → (c ≡ false → b ≡ false) → b ≡ c
fails_same b c h k = bool_eq b c (λ e. is_true c (λ f. clash b e (k f))) (λ e. is_true b (λ f. clash c e (h f)))

module _ (S T : Schema) (same : SameSchema S T) (kinds : S.kinds ≡ T.kinds) (fall : Falling S) (fall' : Falling T) where
  -- ---- over objects of kinds that are there
  module _ (ob : TypedObjects) (known : (x : Object) → 1 ≤ x.0 → x.0 ≤ ob.count → (1 ≤ ob.kind x) × (ob.kind x ≤ S.kinds)) (o : List ℕ) where
    own : SameObjects S.kinds ob ob
    own = record { count = refl; known = known; kind = λ x low high. refl }

    fact_same : (f : Fact) → fact_bad S ob f ≡ fact_bad T ob f
    fact_same f =
        fails_same _ _ (fact_over S T same fall S.kinds (omega arith) (omega (arith, kinds)) ob ob own f)
        (fact_over T S (same_sym S T same) fall' S.kinds (omega (arith, kinds)) (omega arith) ob ob own f)

    step_same : (st : Step) → step_bad S ob st ≡ step_bad T ob st
    step_same st =
        fails_same _ _ (step_over S T same fall S.kinds (omega arith) (omega (arith, kinds)) ob ob own st)
        (step_over T S (same_sym S T same) fall' S.kinds (omega (arith, kinds)) (omega arith) ob ob own st)

    -- row 16
    facts_same : (end n : ℕ) (last : Fact) (at : ℕ) → facts as_written 16 S ob o end n last at ≡ facts as_written 16 T ob o end n last at
    unfolding facts fact_refused
    facts_same end zero last at = refl
    facts_same end (suc n) last at =
        ap₂ (λ (b : Bool) (rest : Answer). refuse (cut end at fact_size || b || not (precedes last (fact_at o at))) 16 at >>= λ _. rest)
        (fact_same (fact_at o at)) (facts_same end n (fact_at o at) (at + fact_size))

    state_same : (end at : ℕ) → state as_written 16 S ob o end at ≡ state as_written 16 T ob o end at
    unfolding list
    state_same end at = bind_cong _ _ _ (λ x. facts_same end (two o at) no_fact (at + count_size))

    starts_same : starts_form S ob o ≡ starts_form T ob o
    unfolding starts_form
    starts_same =
        ap (λ (item : ℕ → Answer). walk item (start_count o) (start_at o) >>= λ last. refuse (ltb last (goal_at o)) 16 last >>= λ _. Good (goal_at o))
        (λ i at. state_same (goal_at o) at i)

    -- row 17
    entries_same : (n : ℕ) (last : Fact) (at : ℕ) → entries S ob o n last at ≡ entries T ob o n last at
    unfolding entries entry_bad
    entries_same zero last at = refl
    entries_same (suc n) last at =
        ap₂ (λ (b : Bool) (rest : Answer). refuse (ltb 1 (byte_at o at) || b || not (precedes last (fact_at o (at + 1)))) 17 at >>= λ _. rest)
        (fact_same (fact_at o (at + 1))) (entries_same n (fact_at o (at + 1)) (at + entry_size))

    -- row 18
    plan_step_same : (at : ℕ) → plan_step S ob o at ≡ plan_step T ob o at
    unfolding plan_step plan_step_bad
    plan_step_same at = ap (λ (b : Bool). refuse (b || repeats (step_at o at)) 18 at >>= λ _. Good (at + step_size)) (step_same (step_at o at))

    from_start_same : from_start S ob o ≡ from_start T ob o
    unfolding from_start from_goal
    from_start_same =
        ap₂ (λ (a b : Answer). a >>= λ _. b) starts_same
        (ap₂ (λ (a : Answer) (item : ℕ → Answer). a >>= λ _. walk item (step_count o) (steps_at o)) (entries_same (goal_count o) no_fact (goal_at o))
        (λ i at. plan_step_same at i))

  -- ---- behind row 15
  behind_objects : (o : List ℕ) (a : Answer) → walk (order_object S.kinds o) (object_count o) header_size ≡ a
      → (a >>= λ _. from_start S (typed_objects (order_objects o) o) o) ≡ (a >>= λ _. from_start T (typed_objects (order_objects o) o) o)
  unfolding ◌>>=◌ typed_objects order_objects
  behind_objects o (Good n) e =
      from_start_same (typed_objects (order_objects o) o) (λ x low high. order_objects_known o S.kinds _ _ _ e x.0 low high) o
  behind_objects o (Refused n p) e = refl

  -- Rows 14 to 18 answer the same.
  pub order_form_same : (o : List ℕ) → order_form S o ≡ order_form T o
  unfolding order_form
  order_form_same o =
      bind_cong (order_header o) _ _
      (λ x.
      behind_objects o _ refl
      ∙ ap (λ (k : ℕ). walk (order_object k o) (object_count o) header_size >>= λ _. from_start T (typed_objects (order_objects o) o) o) kinds)
