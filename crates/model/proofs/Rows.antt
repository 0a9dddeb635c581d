-- Rows 11, 12 and 28: one law into each and one out of it, and when none is met.
use Prim.Native.Nat.{ℕ, zero, suc, ◌≤◌, ◌<◌}
use native.Mathlib.Omega.{arith}
use mathlib.Core.Path.{◌≡◌, refl}
use mathlib.Core.Logic.{◌⊎◌, inl, inr, ◌↔◌}
use mathlib.Core.Bool.{Bool, true, false, ◌&&◌, ◌||◌, not, or-false}
use mathlib.Core.List.{List, []}
use lib.Dec.{ltb}
use borrow.Author.Tests.{not-true, not-false}
use Rattle.truth.specs.Bools.{clash, is_false, and_in, and_out, or_left, or_right, or_out, neither, not_in}
use Rattle.quantify.specs.Quantify.{same, below, any, Mem, first, least}
use Rattle.model.specs.Domain.{Domain, Transition, Failed}
use Rattle.model.specs.Model.{Model, image, inapplicable}
use Rattle.model.specs.Learned.{after, turned, learned, unbound_effect, conflicting}
use Rattle.model.specs.Check.{inconsistent, refuted, unfit}
use Rattle.quantify.proofs.Truth.{same_in, same_out}
use Rattle.quantify.proofs.Quantify.{any_in, any_out, below_in, below_out, first_none, least_none, below_least}
use Rattle.model.proofs.Stricter.{Unconflicted}

module _ (D : Domain) where
  pub unbound_in : (t : Transition) (f : ℕ) → f < D.facts → (t.pre f ≡ t.post f → ⊥) → image D (D.atom t.step.action) t.step f ≡ false → unbound_effect D t ≡ true
  unfolding unbound_effect
  unbound_in t f h turns off = below_in _ _ f h (and_in _ _ (not_in _ (is_false _ (λ e. turns (same_out _ _ e)))) (not_in _ off))

  pub unbound_out : (t : Transition) → unbound_effect D t ≡ true → (f : ℕ) × (t.pre f ≡ t.post f → ⊥) × (image D (D.atom t.step.action) t.step f ≡ false)
  unfolding unbound_effect
  unbound_out t e =
      let (f, h, p) = below_out _ _ e in
      let (l, r) = and_out (not (same (t.pre f) (t.post f))) (not (image D (D.atom t.step.action) t.step f)) p in
      (f, λ q. clash _ (same_in _ _ q) (not-true _ l), not-true _ r)

  -- Row 28 at a step that did not go, under any model: met exactly if the step is applicable.
  pub refuted_in : (M : Model) (u : Failed) → inapplicable D M u.step u.state ≡ false → refuted D M u ≡ true
  unfolding refuted
  refuted_in M u e = not_in _ e

  pub refuted_out : (M : Model) (u : Failed) → refuted D M u ≡ true → inapplicable D M u.step u.state ≡ false
  unfolding refuted
  refuted_out M u e = not-true _ e

  pub unrefuted : (M : Model) (u : Failed) → refuted D M u ≡ false → inapplicable D M u.step u.state ≡ true
  unfolding refuted
  unrefuted M u e = not-false _ e

  module _ (ts : List Transition) where
    pub conflicting_in : (a n : ℕ) → n < D.atoms → D.atom a n ≡ true → (y : Bool) → turned ts y a n ≡ true → after ts (not y) a n ≡ true → conflicting D ts a ≡ true
    unfolding conflicting
    conflicting_in a n h atom true e g = below_in _ _ n h (and_in _ _ atom (or_left _ _ (and_in _ _ e g)))
    conflicting_in a n h atom false e g = below_in _ _ n h (and_in _ _ atom (or_right (turned ts true a n && after ts false a n) _ (and_in _ _ e g)))

    pub conflicting_out : (a : ℕ) → conflicting D ts a ≡ true → (n : ℕ) × (D.atom a n ≡ true) × (Unconflicted ts a n → ⊥)
    unfolding conflicting
    conflicting_out a e =
        let (n, h, p) = below_out _ _ e in
        let (l, r) = and_out (D.atom a n) _ p in
        (n, l, λ unconflicted. go n unconflicted (or_out (turned ts true a n && after ts false a n) (turned ts false a n && after ts true a n) r))
      where
        go : (n : ℕ) → Unconflicted ts a n → ((turned ts true a n && after ts false a n) ≡ true) ⊎ ((turned ts false a n && after ts true a n) ≡ true) → ⊥
        go n unconflicted (inl e) = let (l, r) = and_out (turned ts true a n) (after ts false a n) e in unconflicted true l r
        go n unconflicted (inr e) = let (l, r) = and_out (turned ts false a n) (after ts true a n) e in unconflicted false l r

    -- some row is met: some member has an unbound effect, or some action a conflict
    pub inconsistent_out : inconsistent D ts ≡ true → ((t : Transition) × Mem t ts × (unbound_effect D t ≡ true)) ⊎ ((a : ℕ) × (conflicting D ts a ≡ true))
    unfolding inconsistent
    inconsistent_out e = go (or_out (any (unbound_effect D) ts) (below D.actions (λ a. conflicting D ts (suc a))) e)
      where
        go : (any (unbound_effect D) ts ≡ true) ⊎ (below D.actions (λ a. conflicting D ts (suc a)) ≡ true) → ((t : Transition) × Mem t ts × (unbound_effect D t ≡ true)) ⊎ ((a : ℕ) × (conflicting D ts a ≡ true))
        go (inl h) = inl (any_out (unbound_effect D) ts h)
        go (inr h) = let (a, l, p) = below_out D.actions (λ a. conflicting D ts (suc a)) h in inr (suc a, p)

    -- no row is met: no member has an unbound effect, and no action that the domain counts a conflict
    pub no_unbound : inconsistent D ts ≡ false → (t : Transition) → Mem t ts → unbound_effect D t ≡ false
    unfolding inconsistent
    no_unbound e t m = is_false _ (λ h. clash _ (or_left _ (below D.actions (λ a. conflicting D ts (suc a))) (any_in (unbound_effect D) ts m h)) e)

    pub no_conflicting : inconsistent D ts ≡ false → (a : ℕ) → 1 ≤ a → a ≤ D.actions → conflicting D ts a ≡ false
    unfolding inconsistent
    no_conflicting e zero h l = absurd (omega arith)
    no_conflicting e (suc a) h l = is_false _ (λ p. clash _ (or_right (any (unbound_effect D) ts) _ (below_in _ (λ b. conflicting D ts (suc b)) a l p)) e)

    -- A row is met exactly if 11 has a transition or 12 a smallest action.
    pub inconsistent_rows : inconsistent D ts ≡ (any (unbound_effect D) ts || ltb 0 (least D.actions (conflicting D ts)))
    unfolding inconsistent
    inconsistent_rows = rw (below_least (conflicting D ts) D.actions)

    -- No row is met exactly if 11 has no first transition and 12 no smallest action: so the two are read off in turn.
    pub clean_iff : inconsistent D ts ≡ false ↔ ((first (unbound_effect D) ts ≡ 0) × (least D.actions (conflicting D ts) ≡ 0))
    unfolding inconsistent
    clean_iff = (
      λ e. let (l, r) = neither (any (unbound_effect D) ts) (below D.actions (λ a. conflicting D ts (suc a))) e in ((first_none (unbound_effect D) ts).1 l, (least_none (conflicting D ts) D.actions).1 r),
      λ e. rw ((first_none (unbound_effect D) ts).0 e.0, (least_none (conflicting D ts) D.actions).0 e.1),
    )

    module _ (us : List Failed) where
      -- One of the three rows is met: 11 or 12 by the steps that went, or 28 by one that did not.
      pub unfit_rows : unfit D ts us ≡ (inconsistent D ts || any (refuted D (learned D ts)) us)
      unfolding unfit
      unfit_rows = refl

      pub unfit_out : unfit D ts us ≡ true → (inconsistent D ts ≡ true) ⊎ ((u : Failed) × Mem u us × (refuted D (learned D ts) u ≡ true))
      unfolding unfit
      unfit_out e = go (or_out (inconsistent D ts) (any (refuted D (learned D ts)) us) e)
        where
          go : (inconsistent D ts ≡ true) ⊎ (any (refuted D (learned D ts)) us ≡ true) → (inconsistent D ts ≡ true) ⊎ ((u : Failed) × Mem u us × (refuted D (learned D ts) u ≡ true))
          go (inl h) = inl h
          go (inr h) = inr (any_out (refuted D (learned D ts)) us h)

      -- None is met: neither 11 nor 12, and 28 by no member.
      pub fit_out : unfit D ts us ≡ false → (inconsistent D ts ≡ false) × ((u : Failed) → Mem u us → refuted D (learned D ts) u ≡ false)
      unfolding unfit
      fit_out e =
          let (l, r) = neither (inconsistent D ts) (any (refuted D (learned D ts)) us) e in
          (l, λ u m. is_false _ (λ h. clash _ (any_in (refuted D (learned D ts)) us m h) r))

      pub fit_in : inconsistent D ts ≡ false → ((u : Failed) → Mem u us → refuted D (learned D ts) u ≡ false) → unfit D ts us ≡ false
      fit_in e none = is_false _ (λ h. go (unfit_out h))
        where
          go : (inconsistent D ts ≡ true) ⊎ ((u : Failed) × Mem u us × (refuted D (learned D ts) u ≡ true)) → ⊥
          go (inl h) = clash _ h e
          go (inr (u, m, h)) = clash _ h (none u m)

      -- None is met exactly if 11 has no first transition, 12 no smallest action and 28 no first step: so the three are read off in turn.
      pub fit_rows : unfit D ts us ≡ false
          ↔ ((first (unbound_effect D) ts ≡ 0) × (least D.actions (conflicting D ts) ≡ 0) × (first (refuted D (learned D ts)) us ≡ 0))
      unfolding unfit
      fit_rows = (
        λ e.
            let (l, r) = neither (inconsistent D ts) (any (refuted D (learned D ts)) us) e in
            let (unbound, conflict) = clean_iff.0 l in
            (unbound, conflict, (first_none (refuted D (learned D ts)) us).1 r),
        λ e. rw (clean_iff.1 (e.0, e.1), (first_none (refuted D (learned D ts)) us).0 e.2),
      )

    -- Where every step went, 28 is not met.
    pub unfit_none : unfit D ts [] ≡ inconsistent D ts
    unfolding unfit any
    unfit_none = or-false (inconsistent D ts)
