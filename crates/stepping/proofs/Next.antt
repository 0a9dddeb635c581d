-- The state after the effects of a step's bound facts below n, one relation more at a time, and that it is the next state in the end.
use Prim.Native.Nat.{ℕ, ◌+◌, ◌<◌}
use native.Mathlib.Omega.{arith}
use mathlib.Core.Path.{◌≡◌, refl, sym, ap, ap₂, ◌∙◌}
use mathlib.Core.Bool.{Bool, true, false, cond, ◌&&◌, ◌||◌}
use mathlib.Core.List.{List}
use lib.Bits.{bit_or, or_add_and, and_le_l, and_le_r}
use lib.Dec.{eqb}
use lib.ListN.{length}
use borrow.Author.Tests.{eqb-true}
use Rattle.truth.specs.Bools.{clash, is_false, and_out}
use Rattle.mask.specs.Bits.{bit_of, test_bit, Bytes}
use Rattle.mask.specs.Sets.{number, mask_of}
use Rattle.mask.proofs.Numbers.{bit_none, bit_number}
use Rattle.mask.proofs.Whole.{test_mask_of, mask_of_same, mask_of_test_bit}
use Rattle.quantify.specs.Quantify.{below}
use Rattle.quantify.proofs.Quantify.{below_out, below_cong}
use Rattle.terms.specs.declared.Step.{Step}
use Rattle.terms.specs.Schema.{Schema}
use Rattle.terms.specs.Steps.{ground}
use Rattle.statemask.specs.Statemask.{MoveRules, effects, next_in, step_next, touched}
use Rattle.statemask.proofs.Masks as masks
use Rattle.factgroups.specs.Groups.{StartsRelation, put_at, in_word}
use Rattle.grounding.specs.Grounding.{Bounded}
use Rattle.stepping.specs.Stepping.{next_below}
use Rattle.factgroups.proofs.Tests.{below_join}
use Rattle.grounding.proofs.Objects.{ground_relation}
use Rattle.factgroups.proofs.Effects.{put_none, put_mask, put_length}

next_mask : (sch : Schema) (R : ℕ → MoveRules) (st : Step) (m : List ℕ) (n : ℕ) → next_below sch R st m n ≡ mask_of 512 (test_bit (next_below sch R st m n))
unfolding next_below
next_mask sch R st m n = put_mask true _ _

pub next_length : (sch : Schema) (R : ℕ → MoveRules) (st : Step) (m : List ℕ) (n : ℕ) (new : List ℕ) → new ≡ next_below sch R st m n → length new ≡ 512
unfolding next_below
next_length sch R st m n new e = put_length true _ _ new e

-- one relation more
module _ (sch : Schema) (R : ℕ → MoveRules) (st : Step) (m : List ℕ) (n : ℕ) (first : StartsRelation n) (bounded : Bounded st.binding) (g : ℕ → ℕ)
    (is : (j : ℕ) → j < 16 → g j ≡ ground sch st.binding (n + j)) where
  -- the facts of a relation's bound facts in a set
  word_touched : (s : List ℕ) (bits f : ℕ) → bits ≡ number (test_bit s) n 16
      → touched s (ground sch st.binding) (n + 16) f ≡ (touched s (ground sch st.binding) n f || in_word g bits f)
  unfolding touched in_word
  word_touched s bits f e =
      let at : (j : ℕ) → ℕ = ground sch st.binding in
      below_join n 16 (λ j. test_bit s j && eqb (at j) f)
      ∙ ap (λ (t : Bool). below n (λ j. test_bit s j && eqb (at j) f) || t)
      (sym (below_cong 16 _ _
      (λ j h.
      let b : bit_of bits j ≡ test_bit s (n + j) = ap (λ (w : ℕ). bit_of w j) e ∙ bit_number (test_bit s) n 16 j h in
      rw (b, is j h))))

  -- a fact of the relation is none of a relation before it
  apart : (set : List ℕ) (bits f : ℕ) → in_word g bits f ≡ true → touched set (ground sch st.binding) n f ≡ true → ⊥
  unfolding touched in_word
  apart set bits f here there =
      let (j, h, a) = below_out 16 _ here in
      let (i, k, b) = below_out n _ there in
      let e : ground sch st.binding (n + j) ≡ f = sym (is j h) ∙ eqb-true (g j) f (and_out (bit_of bits j) (eqb (g j) f) a).1 in
      let d : ground sch st.binding i ≡ f = eqb-true (ground sch st.binding i) f (and_out (test_bit set i) (eqb (ground sch st.binding i) f) b).1 in
      let w = first.whole in
      omega (arith, ground_relation st.binding sch bounded (n + j), ground_relation st.binding sch bounded i)

  -- All removed facts before all added ones, or relation by relation: the same, where no fact removed here was added before.
  mixed : (ha hd ta td x : Bool) → (hd ≡ true → ta ≡ true → ⊥)
      → cond ha true (cond hd false (cond ta true (cond td false x))) ≡ cond (ta || ha) true (cond (td || hd) false x)
  mixed true hd true td x no' = refl
  mixed true hd false td x no' = refl
  mixed false true true td x no' = absurd (no' refl refl)
  mixed false true false true x no' = refl
  mixed false true false false x no' = refl
  mixed false false true td x no' = refl
  mixed false false false true x no' = refl
  mixed false false false false x no' = refl

  pub next_more : (removed' added' : ℕ) (old mid new : List ℕ)
      → removed' ≡ number (test_bit (R st.action.0).removed) n 16
      → added' ≡ number (test_bit (R st.action.0).added) n 16
      → old ≡ next_below sch R st m n
      → mid ≡ put_at false (in_word g removed') old
      → new ≡ put_at true (in_word g added') mid
      → new ≡ next_below sch R st m (n + 16)
  unfolding next_below put_at
  next_more removed' added' old mid new d a e p q =
      rw (q, p, e)
      (mask_of_same 512 _ _
      (λ f h.
      ap (cond (in_word g added' f) true)
      (test_mask_of 512 _ f h ∙ ap (cond (in_word g removed' f) false)
      (test_mask_of 512 _ f h ∙ ap (cond (touched (R st.action.0).added (ground sch st.binding) n f) true) (test_mask_of 512 _ f h)))
      ∙ mixed (in_word g added' f) (in_word g removed' f) (touched (R st.action.0).added (ground sch st.binding) n f)
      (touched (R st.action.0).removed (ground sch st.binding) n f) (test_bit m f) (apart (R st.action.0).added removed' f)
      ∙ sym (ap₂ (λ (x y : Bool). cond x true y) (word_touched (R st.action.0).added added' f a)
      (test_mask_of 512 _ f h ∙ ap (λ (x : Bool). cond x false (test_bit m f)) (word_touched (R st.action.0).removed removed' f d)))))

  none_in : (bits f : ℕ) → bits ≡ 0 → in_word g bits f ≡ false
  unfolding in_word
  none_in bits f e = rw e (is_false _ (λ t. let (j, h, some) = below_out 16 _ t in clash _ (and_out (bit_of 0 j) _ some).0 (bit_none j)))

  -- where a relation has no effects, nothing changes
  pub next_none : (removed' added' : ℕ) (old : List ℕ)
      → removed' ≡ number (test_bit (R st.action.0).removed) n 16
      → added' ≡ number (test_bit (R st.action.0).added) n 16
      → bit_or removed' added' ≡ 0
      → old ≡ next_below sch R st m n
      → old ≡ next_below sch R st m (n + 16)
  next_none removed' added' old d a none e =
      let is_mask : old ≡ mask_of 512 (test_bit old) = masked old e in
      let p : removed' ≡ 0 = omega (arith, or_add_and removed' added', and_le_r removed' added') in
      let q : added' ≡ 0 = omega (arith, or_add_and removed' added', and_le_l removed' added') in
      next_more removed' added' old old old d a e (put_none false _ old (λ f. none_in removed' f p) is_mask) (put_none true _ old (λ f. none_in added' f q) is_mask)
    where
      masked : (o : List ℕ) → o ≡ next_below sch R st m n → o ≡ mask_of 512 (test_bit o)
      masked o e = rw e (next_mask sch R st m n)

module _ (sch : Schema) (R : ℕ → MoveRules) (st : Step) (m : List ℕ) (len : length m ≡ 512) (fits : Bytes m) where
  is_mask : m ≡ mask_of 512 (test_bit m)
  is_mask = rw len at (mask_of_test_bit m fits)

  pub next_first : m ≡ next_below sch R st m 0
  unfolding next_below touched below
  next_first =
      let none : m ≡ put_at false (λ f. false) m = put_none false (λ f. false) m (λ f. refl) is_mask in
      none ∙ put_none true (λ f. false) (put_at false (λ f. false) m) (λ f. refl) (put_mask false (λ f. false) m)

  pub next_last : (n : ℕ) → n ≡ 256 → next_below sch R st m n ≡ step_next sch R st m
  unfolding next_below touched put_at step_next next_in
  next_last n e =
      let gone : List ℕ = (R st.action.0).removed in
      let come : List ℕ = (R st.action.0).added in
      let g : ℕ → ℕ = ground sch st.binding in
      let first : effects false gone g m 256 ≡ _ = ap (λ (o : List ℕ). effects false gone g o 256) is_mask ∙ masks.effects_mask false gone g 512 (test_bit m) 256 in
      let second = ap (λ (o : List ℕ). effects true come g o 256) first ∙ masks.effects_mask true come g 512 _ 256 in
      rw e (sym (second ∙ mask_of_same 512 _ _ (λ f h. ap (cond (touched come g 256 f) true) (sym (test_mask_of 512 _ f h)))))
