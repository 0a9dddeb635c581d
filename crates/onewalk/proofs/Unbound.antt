-- The facts of a list that are no bound facts of a binding, in their order; and when one of them is in one of two lists alone.
use Prim.Native.Nat.{ℕ}
use mathlib.Core.Path.{◌≡◌, refl, sym, ap, ◌∙◌}
use mathlib.Core.Logic.{◌⊎◌, inl, inr, ◌↔◌}
use mathlib.Core.Bool.{Bool, true, false, cond}
use mathlib.Core.List.{List, [], ◌∷◌}
use Rattle.truth.specs.Bools.{clash}
use Rattle.terms.specs.declared.Binding.{Binding}
use Rattle.terms.specs.declared.Fact.{Fact}
use Rattle.terms.specs.Facts.{precedes, no_fact}
use Rattle.format.specs.Toggled.{toggled}
use Rattle.quantify.specs.Quantify.{Mem, here, there}
use Rattle.observed.specs.Inverse.{fact_bound, unbound, merge_from, in_one_alone, some_fact, unbound_changed}
use Rattle.observed.proofs.Facts.{alone_before, alone_after, alone_both}
use Rattle.factsets.specs.Right.{Increasing}
use Rattle.factsets.proofs.Sorted.{precedes_self, precedes_not_back, compare, mem_cons, mem_none}
use Rattle.factsets.proofs.Toggled.{increasing_after, OneOf, toggled_mem, toggled_none, merge_before, merge_after, merge_both}

-- ---- the facts in one alone of two lists

some_in : (fs : List Fact) {f : Fact} → Mem f fs → some_fact fs ≡ true
unfolding some_fact
some_in [] m = absurd (mem_none m)
some_in (g ∷ fs) m = refl

some_out : (fs : List Fact) → some_fact fs ≡ true → (f : Fact) × Mem f fs
unfolding some_fact
some_out [] e = clash false e refl
some_out (f ∷ fs) e = (f, here)

module _ (f : Fact) (fs : List Fact) (shorter : (last : Fact) (gs : List Fact) → Increasing last gs → in_one_alone fs gs ≡ toggled fs gs) where
  alone_longer : (last : Fact) (gs : List Fact) → Increasing last gs → in_one_alone (f ∷ fs) gs ≡ toggled (f ∷ fs) gs
  unfolding in_one_alone merge_from toggled
  alone_longer last [] h = refl
  alone_longer last (g ∷ gs) h = go (compare f g) (alone_longer g gs h.1)
    where
      go : (precedes f g ≡ true) ⊎ ((f ≡ g) ⊎ (precedes g f ≡ true)) → in_one_alone (f ∷ fs) gs ≡ toggled (f ∷ fs) gs → in_one_alone (f ∷ fs) (g ∷ gs) ≡ toggled (f ∷ fs) (g ∷ gs)
      go (inl e) later = alone_before f fs g gs e ∙ ap (λ (l : List Fact). f ∷ l) (shorter last (g ∷ gs) h) ∙ sym (merge_before f g fs gs e h.1)
      go (inr (inl e)) later = ap (λ (x : Fact). in_one_alone (x ∷ fs) (g ∷ gs)) e ∙ alone_both g fs gs (precedes_self g) ∙ shorter g gs h.1 ∙ sym (merge_both g fs gs) ∙ ap (λ (x : Fact). toggled (x ∷ fs) (g ∷ gs)) (sym e)
      go (inr (inr e)) later = alone_after f fs g gs (precedes_not_back g f e) e ∙ ap (λ (l : List Fact). g ∷ l) later ∙ sym (merge_after f g fs gs e h.1)

-- They are what the second list turns the first to, where it is in order.
alone_toggled : (fs : List Fact) (last : Fact) (gs : List Fact) → Increasing last gs → in_one_alone fs gs ≡ toggled fs gs
unfolding in_one_alone
alone_toggled [] last gs h = sym (toggled_none last gs h)
alone_toggled (f ∷ fs) last gs h = alone_longer f fs (alone_toggled fs) last gs h

-- ---- the facts that are no bound facts

module _ (atoms : List ℕ) (b : Binding) where
  pub unbound_in : (fs : List Fact) {f : Fact} → Mem f fs → fact_bound atoms b f ≡ false → Mem f (unbound atoms b fs)
  unfolding unbound
  unbound_in [] {f = f} x'' e = elim x'' [ ]
  unbound_in (f ∷ fs) here e = rw e here
  unbound_in (g ∷ fs) {f} (there m) e = go (fact_bound atoms b g) (unbound_in fs m e)
    where
      go : (c : Bool) → Mem f (unbound atoms b fs) → Mem f (cond c (unbound atoms b fs) (g ∷ unbound atoms b fs))
      go true k = k
      go false k = there k

  pub unbound_out : (fs : List Fact) {f : Fact} → Mem f (unbound atoms b fs) → Mem f fs × (fact_bound atoms b f ≡ false)
  unfolding unbound
  unbound_out [] {f = f} m = elim m [ ]
  unbound_out (g ∷ fs) {f} m = go (fact_bound atoms b g) refl (λ k. unbound_out fs k) m
    where
      kept : fact_bound atoms b g ≡ false → (Mem f (unbound atoms b fs) → Mem f fs × (fact_bound atoms b f ≡ false)) → (f ≡ g) ⊎ Mem f (unbound atoms b fs)
          → Mem f (g ∷ fs) × (fact_bound atoms b f ≡ false)
      kept e deeper (inl q) = rw q (here, e)
      kept e deeper (inr k) = let (l, u) = deeper k in (there l, u)

      go : (c : Bool) → fact_bound atoms b g ≡ c → (Mem f (unbound atoms b fs) → Mem f fs × (fact_bound atoms b f ≡ false)) → Mem f (cond c (unbound atoms b fs) (g ∷ unbound atoms b fs))
          → Mem f (g ∷ fs) × (fact_bound atoms b f ≡ false)
      go true e deeper k = let (l, u) = deeper k in (there l, u)
      go false e deeper k = kept e deeper (mem_cons k)

  increasing_unbound : (last : Fact) (fs : List Fact) → Increasing last fs → Increasing last (unbound atoms b fs)
  unfolding unbound
  increasing_unbound last [] h = tt
  increasing_unbound last (f ∷ fs) h =
      go (fact_bound atoms b f) (increasing_unbound last fs (increasing_after last f fs h.0 h.1)) (increasing_unbound f fs h.1)
    where
      go : (c : Bool) → Increasing last (unbound atoms b fs) → Increasing f (unbound atoms b fs) → Increasing last (cond c (unbound atoms b fs) (f ∷ unbound atoms b fs))
      go true k l = k
      go false k l = (h.0, l)

  -- ---- row 11 of two lists in order: a fact that is no bound fact is in one of them alone
  module _ (fs gs : List Fact) (order : Increasing no_fact fs) (order' : Increasing no_fact gs) where
    left_over : (f : Fact) → Mem f (in_one_alone (unbound atoms b fs) (unbound atoms b gs)) ↔ OneOf (Mem f (unbound atoms b fs)) (Mem f (unbound atoms b gs))
    left_over f =
        let h = increasing_unbound no_fact gs order' in
        rw (alone_toggled (unbound atoms b fs) no_fact (unbound atoms b gs) h) (toggled_mem no_fact (unbound atoms b fs) (unbound atoms b gs) (increasing_unbound no_fact fs order) h f)

    pub changed_in : (f : Fact) → fact_bound atoms b f ≡ false → OneOf (Mem f fs) (Mem f gs) → unbound_changed atoms b fs gs ≡ true
    unfolding unbound_changed
    changed_in f e one = some_in _ ((left_over f).1 (go one))
      where
        go : OneOf (Mem f fs) (Mem f gs) → OneOf (Mem f (unbound atoms b fs)) (Mem f (unbound atoms b gs))
        go (inl (m, a)) = inl (unbound_in fs m e, λ k. a (unbound_out gs k).0)
        go (inr (a, m)) = inr (λ k. a (unbound_out fs k).0, unbound_in gs m e)

    pub changed_out : unbound_changed atoms b fs gs ≡ true → (f : Fact) × (fact_bound atoms b f ≡ false) × OneOf (Mem f fs) (Mem f gs)
    unfolding unbound_changed
    changed_out h =
        let (f, m) = some_out _ h in
        let (e, one) = go f ((left_over f).0 m) in
        (f, e, one)
      where
        go : (f : Fact) → OneOf (Mem f (unbound atoms b fs)) (Mem f (unbound atoms b gs)) → (fact_bound atoms b f ≡ false) × OneOf (Mem f fs) (Mem f gs)
        go f (inl (m, a)) = let (k, e) = unbound_out fs m in (e, inl (k, λ l. a (unbound_in gs l e)))
        go f (inr (a, m)) = let (k, e) = unbound_out gs m in (e, inr (λ l. a (unbound_in fs l e), k))
