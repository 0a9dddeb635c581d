-- What is carried on over a list of good form, and that a state after a step is refused for its size by what is carried.
use Prim.Native.Nat.{ℕ, ◌≤◌}
use native.Mathlib.Omega.{arith}
use mathlib.Core.Path.{◌≡◌, refl, sym, ap, ◌∙◌}
use mathlib.Core.Logic.{◌⊎◌, inl, inr}
use mathlib.Core.Bool.{true, false}
use mathlib.Core.List.{List, [], ◌∷◌}
use lib.Dec.{ltb}
use lib.ListN.{length}
use borrow.Author.Tests.{le-ltb}
use Rattle.truth.specs.Bools.{decide}
use Rattle.limits.specs.Limits.{max_objects, max_relations, max_facts, near_ceiling, state_size}
use Rattle.mask.specs.Sets.{empty, cardinality, mask_of}
use Rattle.mask.proofs.Whole.{empty_mask_of}
use Rattle.terms.specs.declared.Fact.{Fact}
use Rattle.terms.specs.Schema.{Schema, TypedObjects}
use Rattle.terms.specs.Facts.{fact_bad, no_fact}
use Rattle.format.specs.Filed.{as_written}
use Rattle.format.specs.Lists.{list_at}
use Rattle.format.specs.Toggled.{toggle, toggled}
use Rattle.format.specs.Form.{Form, most_listed, state_after}
use Rattle.format.specs.States.{list}
use Rattle.format.proofs.States.{list_ends}
use Rattle.answer.specs.Answer.{Good}
use Rattle.quantify.specs.Quantify.{Mem, here, there, any}
use Rattle.factsets.specs.Holding.{holding}
use Rattle.factsets.specs.Right.{Increasing}
use Rattle.factsets.proofs.Numbers.{number_below}
use Rattle.factsets.proofs.States.{list_suits}
use Rattle.factsets.proofs.Toggled.{increasing_after, toggle_increasing, toggle_from, toggled_increasing, toggled_suits}
use Rattle.factsets.proofs.Turned.{flip_holding, cardinality_holding}
use Rattle.turning.specs.Turning.{flipped, Numbered, Turnable, Carried, Carries}

-- in a full book the list is the state
full_few : (form : Form) (s : List ℕ) (before : List Fact) (at : ℕ) → form ≡ false → length (list_at s at) ≤ most_listed form → length (state_after form s before at) ≤ max_facts
unfolding state_after most_listed
full_few form s before at e l = rw e (rw e at l)

module _ (sch : Schema) (ob : TypedObjects) (few : ob.count ≤ max_objects) (known : sch.relations ≤ max_relations) where
  -- facts that suit have bits
  pub suits_numbered : (fs : List Fact) → ((f : Fact) → Mem f fs → fact_bad sch ob f ≡ false) → Numbered fs
  suits_numbered fs suits f m = omega (arith, number_below sch ob few f (suits f m))

  -- The facts of a list turned in the mask of a state are the mask of the state in which they turned.
  pub flipped_holding : (fs ts : List Fact) → ((f : Fact) → Mem f fs → fact_bad sch ob f ≡ false) → Increasing no_fact fs
      → ((f : Fact) → Mem f ts → fact_bad sch ob f ≡ false) → Increasing no_fact ts
      → flipped ts (mask_of state_size (holding fs)) ≡ mask_of state_size (holding (toggled fs ts))
  unfolding flipped toggled
  flipped_holding fs [] suits order suits' order' = refl
  flipped_holding fs (t ∷ ts) suits order suits' order' =
      rw (flip_holding sch ob few no_fact t fs (suits' t here) suits order known)
      (flipped_holding (toggle t fs) ts suits'' (toggle_increasing no_fact t fs order'.0 order) (λ f m. suits' f (there m)) (increasing_after no_fact t ts order'.0 order'.1))
    where
      suits'' : (f : Fact) → Mem f (toggle t fs) → fact_bad sch ob f ≡ false
      suits'' f m = go (toggle_from t fs m)
        where
          go : (f ≡ t) ⊎ Mem f fs → fact_bad sch ob f ≡ false
          go (inl e) = rw e (suits' t here)
          go (inr k) = suits f k

  module _ (form : Form) (before : List Fact) (m : List ℕ) (count : ℕ) (suits : (f : Fact) → Mem f before → fact_bad sch ob f ≡ false) (order : Increasing no_fact before) (carries : Carries form before m count) where
    -- In a short book the number is that of the mask.
    pub carries_count : form ≡ true → count ≡ cardinality m
    carries_count e = carries.size e ∙ sym (cardinality_holding sch ob few known before suits order) ∙ ap cardinality (sym (carries.mask e))

    -- What is carried where the facts before a step hold is carried on over the list after it.
    module _ (s : List ℕ) (at : ℕ) (suits' : (f : Fact) → Mem f (list_at s at) → fact_bad sch ob f ≡ false) (order' : Increasing no_fact (list_at s at)) (m' : List ℕ) (count' : ℕ) (carried : Carried form s at m m' count') where
      after : form ≡ true → state_after form s before at ≡ toggled before (list_at s at)
      unfolding state_after
      after e = rw e

      masked : form ≡ true → m' ≡ mask_of state_size (holding (toggled before (list_at s at)))
      masked e =
          (carried.turned e).0 ∙ ap (flipped (list_at s at)) (carries.mask e)
          ∙ flipped_holding before (list_at s at) suits order suits' order'

      pub carried_on : Carries form (state_after form s before at) m' count'
      carried_on =
          record {
            mask = λ e. masked e ∙ ap (λ (fs : List Fact). mask_of state_size (holding fs)) (sym (after e));
            size = λ e.
                (carried.turned e).1 ∙ ap cardinality (masked e)
                ∙ cardinality_holding sch ob few known (toggled before (list_at s at))
                (toggled_suits sch ob before (list_at s at) suits suits')
                (toggled_increasing no_fact before (list_at s at) order order')
                ∙ ap length (sym (after e));
            nothing = λ e. (carried.nothing e).1;
          }

      -- Its number says whether the state after the step has too many facts.
      pub carried_many : length (list_at s at) ≤ most_listed form → ltb max_facts count' ≡ ltb max_facts (length (state_after form s before at))
      unfolding state_after most_listed
      carried_many size = go (decide form)
        where
          go : (form ≡ true) ⊎ (form ≡ false) → ltb max_facts count' ≡ ltb max_facts (length (state_after form s before at))
          go (inl e) = ap (ltb max_facts) (carried_on.size e)
          go (inr e) = rw (carried.nothing e).1 (sym (le-ltb max_facts (length (state_after form s before at)) (full_few form s before at e size)))

-- Nothing holds before the first state, and what is carried over its list is that state.
pub carries_none : (form : Form) → Carries form [] (empty state_size) 0
unfolding holding any
carries_none form = record { mask = λ e. empty_mask_of state_size; size = λ e. refl; nothing = λ e. refl }

-- A list of good form can be turned.
pub list_turnable : (most num : ℕ) (sch : Schema) (ob : TypedObjects) → ob.count ≤ max_objects → sch.relations ≤ max_relations
    → (s : List ℕ) (end at next : ℕ) → list as_written num most sch ob s end at ≡ Good next → end ≤ length s → at ≤ near_ceiling → Turnable s at
list_turnable most num sch ob few known s end at next good within near =
    record {
      near = near;
      within = omega (arith, (list_ends _ most num sch ob s end at next good).1);
      numbered = suits_numbered sch ob few known (list_at s at) (list_suits most num sch ob s end at next good);
    }
