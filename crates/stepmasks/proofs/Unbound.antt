-- Row 11 of two lists of facts, one fact at a time. Uses the definitions of observed.
use Prim.Native.Nat.{ℕ}
use mathlib.Core.Path.{◌≡◌, refl, sym, ap, ◌∙◌}
use mathlib.Core.Bool.{Bool, true, false, cond, ◌&&◌, ◌||◌, not}
use mathlib.Core.List.{List, [], ◌∷◌}
use borrow.Author.Tests.{not-false, not-true}
use Rattle.truth.specs.Bools.{is_true, and_out}
use Rattle.terms.specs.declared.Binding.{Binding}
use Rattle.terms.specs.declared.Fact.{Fact}
use Rattle.terms.specs.Facts.{precedes}
use Rattle.observed.specs.Inverse.{fact_bound, unbound, merge_from, in_one_alone, some_fact, unbound_changed}
use Rattle.observed.proofs.Facts.{alone_before, alone_after, alone_both}
use Rattle.factsets.proofs.Sorted.{precedes_self, precedes_neither}

module _ (atoms : List ℕ) (b : Binding) where
  -- ---- no facts before, or none after: whether any is no bound fact
  pub none_more : (g : Fact) (gs : List Fact) (t : Bool) → t ≡ not (fact_bound atoms b g) → (t || unbound_changed atoms b [] gs) ≡ unbound_changed atoms b [] (g ∷ gs)
  unfolding unbound_changed unbound in_one_alone some_fact
  none_more g gs t i = rw i (go (fact_bound atoms b g))
    where
      go : (u : Bool) → (not u || some_fact (unbound atoms b gs)) ≡ some_fact (cond u (unbound atoms b gs) (g ∷ unbound atoms b gs))
      go true = refl
      go false = refl

  pub none_after : (fs : List Fact) → unbound_changed atoms b [] fs ≡ unbound_changed atoms b fs []
  unfolding unbound_changed unbound in_one_alone merge_from
  none_after fs = go (unbound atoms b fs)
    where
      go : (gs : List Fact) → some_fact (in_one_alone [] gs) ≡ some_fact (in_one_alone gs [])
      go [] = refl
      go (g ∷ gs) = refl

  -- ---- of two lists
  pub both_more : (f : Fact) (fs gs : List Fact) → unbound_changed atoms b (f ∷ fs) (f ∷ gs) ≡ unbound_changed atoms b fs gs
  unfolding unbound_changed unbound
  both_more f fs gs = go (fact_bound atoms b f)
    where
      go : (u : Bool)
          → some_fact (in_one_alone (cond u (unbound atoms b fs) (f ∷ unbound atoms b fs)) (cond u (unbound atoms b gs) (f ∷ unbound atoms b gs))) ≡ some_fact (in_one_alone (unbound atoms b fs) (unbound atoms b gs))
      go true = refl
      go false = ap some_fact (alone_both f _ _ (precedes_self f))

  -- a bound fact before
  pub before_more : (f : Fact) (fs gs : List Fact) → fact_bound atoms b f ≡ true → unbound_changed atoms b (f ∷ fs) gs ≡ unbound_changed atoms b fs gs
  unfolding unbound_changed unbound
  before_more f fs gs e = rw e

  -- f comes next before and is no bound fact; g comes next after, t says whether it is none either, and r whether f precedes it
  module _ (f : Fact) (fs : List Fact) (g : Fact) (gs : List Fact) (r : Bool) (d : fact_bound atoms b f ≡ false) (order : r ≡ precedes f g) where
    -- f holds before the step alone
    pub first_more : (t : Bool) → t ≡ not (fact_bound atoms b g) → (t && r) ≡ true → true ≡ unbound_changed atoms b (f ∷ fs) (g ∷ gs)
    unfolding unbound_changed unbound some_fact
    first_more t i e =
        let (u, v) = and_out t r e in
        rw (d, not-true (fact_bound atoms b g) (sym i ∙ u), alone_before f (unbound atoms b fs) g (unbound atoms b gs) (sym order ∙ v))

    -- g is a bound fact, or holds after it alone
    pub second_more : (t : Bool) → t ≡ not (fact_bound atoms b g) → (t && r) ≡ false → (f ≡ g → ⊥)
        → (t || unbound_changed atoms b (f ∷ fs) gs) ≡ unbound_changed atoms b (f ∷ fs) (g ∷ gs)
    unfolding unbound_changed unbound some_fact
    second_more true i e apart =
        let u : precedes f g ≡ false = sym order ∙ e in
        let v : precedes g f ≡ true = is_true _ (λ k. apart (precedes_neither f g u k)) in
        rw (d, not-true (fact_bound atoms b g) (sym i), alone_after f (unbound atoms b fs) g (unbound atoms b gs) u v)
    second_more false i e apart = rw (not-false (fact_bound atoms b g) (sym i))
