-- From an object back to the parameter of a right step that has it.
use Prim.Native.Nat.{ℕ, ◌≤◌}
use native.Mathlib.Omega.{arith}
use mathlib.Core.Path.{◌≡◌, refl, sym, ◌∙◌}
use mathlib.Core.Logic.{◌⊎◌, inl, inr}
use mathlib.Core.Bool.{Bool, true, false, cond, not}
use lib.Dec.{eqb}
use borrow.Author.Tests.{eqb-true, eqb-false, eq-eqb, ne_eqb, not-true}
use Rattle.truth.specs.Bools.{clash, or_right, or_out, not_in}
use Rattle.terms.specs.declared.Object.{Object}
use Rattle.terms.specs.declared.Binding.{Binding}
use Rattle.terms.specs.declared.Step.{Step}
use Rattle.terms.specs.Schema.{Schema, TypedObjects}
use Rattle.terms.specs.Steps.{object_of}
use Rattle.observed.specs.Inverse.{gives, param_of, place_bound}
use Rattle.observed.proofs.Params.{param_out}
use Rattle.factsets.specs.Right.{RightStep}
use Rattle.terms.proofs.Atoms.{four}
use Rattle.factsets.proofs.Suits.{object_at, parameters_apart}

module _ (b : Binding) (x : Object) where
  -- an object that a parameter has is found
  param_in : 1 ≤ x.0 → (i : ℕ) → 1 ≤ i → i ≤ 4 → gives b i x ≡ true → 1 ≤ param_of b x
  unfolding param_of
  param_in some i low high e = rw (ne_eqb x.0 0 (λ e. omega arith)) (go (gives b 1 x) (gives b 2 x) (gives b 3 x) (gives b 4 x) refl refl refl refl)
    where
      go : (p q r s : Bool) → gives b 1 x ≡ p → gives b 2 x ≡ q → gives b 3 x ≡ r → gives b 4 x ≡ s → 1 ≤ cond p 1 (cond q 2 (cond r 3 (cond s 4 0)))
      go true q r s ep eq er es = omega arith
      go false true r s ep eq er es = omega arith
      go false false true s ep eq er es = omega arith
      go false false false true ep eq er es = omega arith
      go false false false false ep eq er es = clash _ e (four (λ j. gives b j x ≡ false) ep eq er es i low high)

  -- the object of an unused place is none
  pub param_none : x.0 ≡ 0 → (place_bound b x ≡ true) × (param_of b x ≡ 0)
  unfolding place_bound param_of
  param_none e = (rw (eq-eqb x.0 0 e), rw (eq-eqb x.0 0 e))

  -- A place that is bound, with an object in it, has the object of the parameter that is found.
  pub bound_out : 1 ≤ x.0 → place_bound b x ≡ true → (1 ≤ param_of b x) × ((object_of b (record { 0 = param_of b x })).0 ≡ x.0)
  unfolding place_bound gives
  bound_out some e =
      let found = go (or_out (eqb x.0 0) (not (eqb (param_of b x) 0)) e) in
      (found, eqb-true _ _ (param_out b x found).1)
    where
      go : (eqb x.0 0 ≡ true) ⊎ (not (eqb (param_of b x) 0) ≡ true) → 1 ≤ param_of b x
      go (inl h) = absurd (omega (arith, eqb-true x.0 0 h))
      go (inr h) = omega (arith, eqb-false (param_of b x) 0 (not-true _ h))

module _ (sch : Schema) (ob : TypedObjects) (st : Step) (right : RightStep sch ob st) where
  module _ (x : Object) (some : 1 ≤ x.0) where
    -- The object of a parameter is found, and no other parameter with it.
    pub bound_in : (i : ℕ) → 1 ≤ i → i ≤ 4 → (object_at st i).0 ≡ x.0 → (place_bound st.binding x ≡ true) × (param_of st.binding x ≡ i)
    unfolding place_bound gives
    bound_in i low high e =
        let found = param_in st.binding x some i low high (eq-eqb _ _ e) in
        let (most, given) = param_out st.binding x found in
        let same : (object_at st (param_of st.binding x)).0 ≡ x.0 = eqb-true _ _ given in (
          or_right (eqb x.0 0) _ (not_in _ (ne_eqb _ 0 (λ (q : param_of st.binding x ≡ 0). omega arith))),
          parameters_apart sch ob st right (param_of st.binding x) i found most low high (omega arith) (same ∙ sym e),
        )
