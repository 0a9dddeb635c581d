-- Masks of states, whatever the model: what is in one, the facts put into it, and the effects of a step's bound facts laid down one by one.
use Prim.Native.Nat.{ℕ, zero, suc, ◌<◌}
use native.Mathlib.Decide.{dec_lt}
use native.Mathlib.Omega.{arith}
use mathlib.Core.Path.{◌≡◌, refl, sym, ap, ◌∙◌}
use mathlib.Core.Bool.{Bool, true, false, cond, ◌&&◌, ◌||◌, or-false, or_assoc}
use mathlib.Core.List.{List, [], ◌∷◌}
use borrow.Author.Tests.{eqb-true}
use lib.Dec.{eqb}
use Rattle.limits.specs.Limits.{state_size, max_fact_numbers}
use Rattle.terms.specs.declared.Fact.{Fact}
use Rattle.terms.specs.Facts.{fact_number}
use Rattle.mask.specs.Bits.{test_bit, put_bit}
use Rattle.mask.specs.Sets.{mask_of}
use Rattle.mask.proofs.Bytes.{test_past}
use Rattle.mask.proofs.Whole.{length_mask_of, test_mask_of, mask_of_same, empty_mask_of, set_bit_mask_of, put_bit_mask_of}
use Rattle.quantify.specs.Quantify.{any, below, Mem}
use Rattle.model.specs.Domain.{State}
use Rattle.truth.specs.Bools.{is_false}
use Rattle.quantify.proofs.Quantify.{any_out}
use Rattle.factsets.specs.Holding.{holding}
use Rattle.statemask.specs.Statemask.{with_facts, start_mask, effects, touched}
use Rattle.statemask.specs.Executing.{AllInMask}

-- ---- what is in a mask, whatever number is asked for
pub test_mask : (st : State) → AllInMask st → (f : ℕ) → test_bit (mask_of state_size st) f ≡ st f
test_mask st under f = go (dec_lt f max_fact_numbers)
  where
    go : Dec (f < max_fact_numbers) → test_bit (mask_of state_size st) f ≡ st f
    go (yes h) = test_mask_of state_size st f h
    go (no d) = test_past (mask_of state_size st) f (omega (arith, length_mask_of state_size st)) ∙ sym (under f (omega arith))

-- ---- facts put in
facts_mask : (len : ℕ) (fs : List Fact) (p : State) → with_facts fs (mask_of len p) ≡ mask_of len (λ n. p n || holding fs n)
unfolding with_facts holding any
facts_mask len [] p = mask_of_same len p (λ n. p n || false) (λ n h. sym (or-false (p n)))
facts_mask len (f ∷ fs) p =
    ap (with_facts fs) (set_bit_mask_of len p (fact_number f))
    ∙ facts_mask len fs (λ n. p n || eqb (fact_number f) n)
    ∙ mask_of_same len _ _ (λ n h. or_assoc (p n) (eqb (fact_number f) n) (holding fs n))

-- The start mask is that of the state in which the facts hold.
pub start_mask_lem : (fs : List Fact) → start_mask fs ≡ mask_of state_size (holding fs)
unfolding start_mask
start_mask_lem fs = ap (with_facts fs) (empty_mask_of state_size) ∙ facts_mask state_size fs (λ n. false)

pub start_under : (fs : List Fact) → ((f : Fact) → Mem f fs → fact_number f < max_fact_numbers) → AllInMask (holding fs)
unfolding holding
start_under fs small n h =
    is_false
    _
    (λ e.
    let (f, m, q) = any_out (λ f. eqb (fact_number f) n) fs e in
    omega (arith, small f m, eqb-true (fact_number f) n q))

-- ---- effects laid down
module _ (value : Bool) (set : List ℕ) (g : ℕ → ℕ) (len : ℕ) (p : State) where
  -- Whichever value is put, a fact that is touched has it, and every other is as it was.
  pub effects_mask : (n : ℕ) → effects value set g (mask_of len p) n ≡ mask_of len (λ f. cond (touched set g n f) value (p f))
  unfolding effects touched below
  effects_mask zero = refl
  effects_mask (suc n) = go (test_bit set n) (effects value set g (mask_of len p) n) (effects_mask n)
    where
      twice : (x y z : Bool) → cond y value (cond x value z) ≡ cond (x || y) value z
      twice true true z = refl
      twice true false z = refl
      twice false y z = refl

      go : (b : Bool) (m : List ℕ) → m ≡ mask_of len (λ f. cond (touched set g n f) value (p f))
          → cond b (put_bit value m (g n)) m ≡ mask_of len (λ f. cond (touched set g n f || b && eqb (g n) f) value (p f))
      go true m e =
          ap (λ l. put_bit value l (g n)) e
          ∙ put_bit_mask_of len (λ f. cond (touched set g n f) value (p f)) value (g n)
          ∙ mask_of_same len _ _ (λ f h. twice (touched set g n f) (eqb (g n) f) (p f))
      go false m e = e ∙ mask_of_same len _ _ (λ f h. ap (λ t. cond t value (p f)) (sym (or-false (touched set g n f))))
