-- The needs of a step: those of a relation from words of bits, and the loop over all relations, one turn at a time.
use Prim.Native.Nat.{ℕ, ◌+◌, ◌≤◌, ◌<◌}
use native.Mathlib.Omega.{arith}
use mathlib.Core.Path.{◌≡◌, refl, sym, ap, ap₂, ◌∙◌}
use mathlib.Core.Bool.{Bool, true, false, ◌||◌}
use mathlib.Core.List.{List}
use lib.Bits.{bit_or, or_add_and, and_le_l, and_le_r}
use Rattle.truth.specs.Bools.{neither_in}
use Rattle.mask.specs.Bits.{bit_of, test_bit}
use Rattle.mask.specs.Sets.{number}
use Rattle.mask.proofs.Numbers.{bit_number}
use Rattle.quantify.specs.Quantify.{below}
use Rattle.quantify.proofs.Quantify.{below_in, below_out, below_cong}
use Rattle.terms.specs.declared.Step.{Step}
use Rattle.terms.specs.Schema.{Schema}
use Rattle.terms.specs.Steps.{ground}
use Rattle.statemask.specs.Statemask.{MoveRules, unmet, inapplicable_in, step_inapplicable}
use Rattle.factgroups.specs.Groups.{word_unmet}
use Rattle.stepping.specs.Stepping.{relation_unmet}
use Rattle.factgroups.proofs.Needs.{none_unmet}
use Rattle.factgroups.proofs.Tests.{below_join}

module _ (sch : Schema) (R : ℕ → MoveRules) (st : Step) (m : List ℕ) (n : ℕ) (needed needed_not : ℕ)
    (is-needed : needed ≡ number (test_bit (R st.action.0).needed) n 16)
    (is-needed-not : needed_not ≡ number (test_bit (R st.action.0).needed_not) n 16) where
  -- the words say what is needed of a relation's bound facts
  pub needs_by : (g : ℕ → ℕ) → ((j : ℕ) → j < 16 → g j ≡ ground sch st.binding (n + j)) → word_unmet m g needed needed_not ≡ relation_unmet sch R st m n
  unfolding word_unmet relation_unmet unmet
  needs_by g is =
      below_cong 16 _ _
      (λ j h.
      let p : bit_of needed j ≡ test_bit (R st.action.0).needed (n + j) = ap (λ (w : ℕ). bit_of w j) is-needed ∙ bit_number _ n 16 j h in
      let q : bit_of needed_not j ≡ test_bit (R st.action.0).needed_not (n + j) = ap (λ (w : ℕ). bit_of w j) is-needed-not ∙ bit_number _ n 16 j h in
      rw (p, q, is j h))

  -- where no bound fact of the relation is needed, none is unmet, whatever holds
  pub needs_none : bit_or needed needed_not ≡ 0 → false ≡ relation_unmet sch R st m n
  needs_none e =
      let p : needed ≡ 0 = omega (arith, or_add_and needed needed_not, and_le_r needed needed_not) in
      let q : needed_not ≡ 0 = omega (arith, or_add_and needed needed_not, and_le_l needed needed_not) in
      let g : ℕ → ℕ = λ j. ground sch st.binding (n + j) in
      sym (ap₂ (word_unmet m g) p q ∙ none_unmet m g) ∙ needs_by g (λ j h. refl)

-- ---- the relations so far
module _ (sch : Schema) (R : ℕ → MoveRules) (st : Step) (m : List ℕ) where
  -- a need of a bound fact below n is unmet
  unfoldable pub unmet_below : ℕ → Bool
  unmet_below n = below n (unmet (R st.action.0) (ground sch st.binding) m)

  pub unmet_first : unmet_below 0 ≡ false
  unfolding unmet_below below
  unmet_first = refl

  unmet_join : (n : ℕ) → unmet_below (n + 16) ≡ (unmet_below n || relation_unmet sch R st m n)
  unfolding unmet_below relation_unmet
  unmet_join n = below_join n 16 _

  pub unmet_more : (n : ℕ) → unmet_below n ≡ false → relation_unmet sch R st m n ≡ false → unmet_below (n + 16) ≡ false
  unmet_more n e f = unmet_join n ∙ neither_in _ _ e f

  pub unmet_here : (n : ℕ) → n + 16 ≤ 256 → relation_unmet sch R st m n ≡ true → true ≡ step_inapplicable sch R st m
  unfolding relation_unmet step_inapplicable inapplicable_in
  unmet_here n h e =
      let (j, k, t) = below_out 16 _ e in
      sym (below_in 256 _ (n + j) (omega arith) t)

  pub unmet_last : (n : ℕ) → n ≡ 256 → unmet_below n ≡ false → false ≡ step_inapplicable sch R st m
  unfolding unmet_below step_inapplicable inapplicable_in
  unmet_last n h e = sym (rw h at e)
