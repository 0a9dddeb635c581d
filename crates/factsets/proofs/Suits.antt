-- What the tests on objects, facts and steps say in plain numbers: both ways for an object, one way for a step.
-- Uses no bytes: schema, typed objects and step are any.
use Prim.Native.Nat.{ℕ, ◌≤◌, ◌<◌}
use mathlib.Core.Path.{◌≡◌, refl, sym}
use mathlib.Core.Logic.{◌⊎◌, inl, inr}
use mathlib.Core.Bool.{Bool, true, false, ◌&&◌, ◌||◌, not}
use native.Mathlib.Omega.{arith}
use lib.Dec.{eqb, ltb}
use borrow.Author.Tests.{ltb-true, ltb-false, lt-ltb, le-leb, eqb-true, eq-eqb, not-false}
use Rattle.truth.specs.Bools.{clash, and_in, decide, neither}
use Rattle.terms.specs.declared.Object.{Object}
use Rattle.terms.specs.declared.Step.{Step}
use Rattle.terms.specs.Schema.{Schema, TypedObjects, out_of_range, kind_suits, object_bad}
use Rattle.terms.specs.Steps.{object_of, argument_bad, step_bad, same_pair, repeats}
use Rattle.terms.proofs.Atoms.{range_out, range_in, four}
use Rattle.factsets.specs.Right.{RightStep}

module _ (sch : Schema) (ob : TypedObjects) (named : ℕ) (x : Object) where
  -- a used place has the number of an object of a kind that suits; an unused one has 0
  pub used_out : (used : Bool) → object_bad sch ob used named x ≡ false → used ≡ true
      → (1 ≤ x.0) × (x.0 ≤ ob.count) × (kind_suits sch named (ob.kind x) ≡ true)
  unfolding object_bad
  used_out true e u =
      let (wrong, unused) = neither (out_of_range ob.count x.0 || not (kind_suits sch named (ob.kind x))) (not true && not (eqb x.0 0)) e in
      let (number, suits) = neither (out_of_range ob.count x.0) (not (kind_suits sch named (ob.kind x))) wrong in
      let (low, high) = range_out ob.count x.0 number in
      (low, high, not-false _ suits)
  used_out false e u = clash false u refl

  pub unused_out : (used : Bool) → object_bad sch ob used named x ≡ false → used ≡ false → x.0 ≡ 0
  unfolding object_bad
  unused_out true e u = clash true refl u
  unused_out false e u = eqb-true x.0 0 (not-false _ e)

  -- in either case it counts at most as far as the objects
  pub object_most : (used : Bool) → object_bad sch ob used named x ≡ false → x.0 ≤ ob.count
  object_most true e = (used_out true e refl).1
  object_most false e = omega (arith, unused_out false e refl)

  pub used_in : (used : Bool) → used ≡ true → 1 ≤ x.0 → x.0 ≤ ob.count → kind_suits sch named (ob.kind x) ≡ true → object_bad sch ob used named x ≡ false
  unfolding object_bad
  used_in true u low high suits = rw (range_in ob.count x.0 low high, suits)
  used_in false u low high suits = clash false u refl

  pub unused_in : (used : Bool) → used ≡ false → x.0 ≡ 0 → object_bad sch ob used named x ≡ false
  unfolding object_bad
  unused_in true u none = clash true refl u
  unused_in false u none = rw (eq-eqb x.0 0 none)

-- the object of parameter i
abbrev pub object_at : Step → ℕ → Object
object_at st i = object_of st.binding (record { 0 = i })

module _ (sch : Schema) (ob : TypedObjects) (st : Step) (suits : step_bad sch ob st ≡ false) where
  -- the five parts of the test on a step
  step_parts : (out_of_range sch.moves st.action.0 ≡ false) × ((i : ℕ) → 1 ≤ i → i ≤ 4 → argument_bad sch ob st i ≡ false)
  unfolding step_bad
  step_parts =
      let nb : Bool = out_of_range sch.moves st.action.0 in
      let a1 : Bool = argument_bad sch ob st 1 in
      let a2 : Bool = argument_bad sch ob st 2 in
      let a3 : Bool = argument_bad sch ob st 3 in
      let e4 = neither (nb || a1 || a2 || a3) (argument_bad sch ob st 4) suits in
      let e3 = neither (nb || a1 || a2) a3 e4.0 in
      let e2 = neither (nb || a1) a2 e3.0 in
      let e1 = neither nb a1 e2.0 in
      (e1.0, four (λ i. argument_bad sch ob st i ≡ false) e1.1 e2.1 e3.1 e4.1)

  -- the move of a step that suits is there
  pub move_there : (1 ≤ st.action.0) × (st.action.0 ≤ sch.moves)
  move_there = range_out sch.moves st.action.0 step_parts.0

module _ (sch : Schema) (ob : TypedObjects) (st : Step) (right : RightStep sch ob st) where
  -- The move of a right step is there,
  pub move_known : (1 ≤ st.action.0) × (st.action.0 ≤ sch.moves)
  move_known = move_there sch ob st right.suits

  pub argument_right : (i : ℕ) → 1 ≤ i → i ≤ 4 → argument_bad sch ob st i ≡ false
  argument_right = (step_parts sch ob st right.suits).1

  -- its parameters have objects that suit,
  pub argument_used : (i : ℕ) → 1 ≤ i → i ≤ 4 → i ≤ sch.params st.action
      → (1 ≤ (object_at st i).0) × ((object_at st i).0 ≤ ob.count)
      × (kind_suits sch (sch.param_kind st.action (record { 0 = i })) (ob.kind (object_at st i)) ≡ true)
  unfolding argument_bad
  argument_used i low high used = used_out sch ob _ (object_at st i) _ (argument_right i low high) (le-leb i (sch.params st.action) used)

  pair_apart : (i : ℕ) → 1 ≤ i → i ≤ 4 → (j : ℕ) → 1 ≤ j → j ≤ 4 → i < j → same_pair st i j ≡ false
  unfolding repeats
  pair_apart =
      let p12 : Bool = same_pair st 1 2 in
      let p13 : Bool = same_pair st 1 3 in
      let p14 : Bool = same_pair st 1 4 in
      let p23 : Bool = same_pair st 2 3 in
      let p24 : Bool = same_pair st 2 4 in
      let e34 = neither (p12 || p13 || p14 || p23 || p24) (same_pair st 3 4) right.different in
      let e24 = neither (p12 || p13 || p14 || p23) p24 e34.0 in
      let e23 = neither (p12 || p13 || p14) p23 e24.0 in
      let e14 = neither (p12 || p13) p14 e23.0 in
      let e13 = neither p12 p13 e14.0 in
      four
      (λ i. (j : ℕ) → 1 ≤ j → j ≤ 4 → i < j → same_pair st i j ≡ false)
      (four (λ j. 1 < j → same_pair st 1 j ≡ false) (λ h. absurd (omega arith)) (λ h. e13.0) (λ h. e13.1) (λ h. e14.1))
      (four (λ j. 2 < j → same_pair st 2 j ≡ false) (λ h. absurd (omega arith)) (λ h. absurd (omega arith)) (λ h. e23.1) (λ h. e24.1))
      (four (λ j. 3 < j → same_pair st 3 j ≡ false) (λ h. absurd (omega arith)) (λ h. absurd (omega arith)) (λ h. absurd (omega arith)) (λ h. e34.1))
      (λ j low high h. absurd (omega arith))

  later_apart : (i j : ℕ) → 1 ≤ i → i < j → j ≤ 4 → 1 ≤ (object_at st j).0 → (object_at st i).0 ≡ (object_at st j).0 → ⊥
  unfolding same_pair
  later_apart i j low h high some e =
      clash _ (and_in (ltb 0 (object_at st j).0) _ (lt-ltb 0 _ some) (eq-eqb (object_at st i).0 (object_at st j).0 e)) (pair_apart i low (omega arith) j (omega arith) high h)

  -- and no object is that of two parameters.
  pub parameters_apart : (i j : ℕ) → 1 ≤ i → i ≤ 4 → 1 ≤ j → j ≤ 4 → 1 ≤ (object_at st i).0 → (object_at st i).0 ≡ (object_at st j).0 → i ≡ j
  parameters_apart i j low high low' high' some e = go (decide (ltb i j)) (decide (ltb j i))
    where
      go : (ltb i j ≡ true) ⊎ (ltb i j ≡ false) → (ltb j i ≡ true) ⊎ (ltb j i ≡ false) → i ≡ j
      go (inl h) k = absurd (later_apart i j low (ltb-true i j h) high' (omega arith) e)
      go (inr h) (inl k) = absurd (later_apart j i low' (ltb-true j i k) high some (sym e))
      go (inr h) (inr k) = omega (arith, ltb-false i j h, ltb-false j i k)
