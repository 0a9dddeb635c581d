-- Right states in which facts turn, as sets of numbers: which facts hold afterwards, in a mask too, and how many do.
-- For code that turns the bits of a mask. Uses Toggled.antt for lists of facts and Numbers.antt for their numbers.
use Prim.Native.Nat.{ℕ, zero, suc, ◌*◌, ◌≤◌, ◌<◌}
use native.Mathlib.Omega.{arith}
use mathlib.Core.Path.{◌≡◌, refl, sym, ap, ◌∙◌}
use mathlib.Core.Logic.{◌⊎◌, inl, inr}
use mathlib.Core.Bool.{true, false, cond, not}
use mathlib.Core.List.{List, [], ◌∷◌}
use lib.Dec.{eqb}
use lib.ListN.{length}
use borrow.Author.Tests.{eqb-true, eqb-false, ne_eqb}
use Rattle.truth.specs.Bools.{decide, is_false, bool_eq}
use Rattle.mask.specs.Bits.{flip_bit}
use Rattle.mask.specs.Sets.{cardinality, digit, count_below, mask_of}
use Rattle.mask.proofs.Whole.{mask_of_same, cardinality_mask_of}
use Rattle.mask.proofs.Flips.{flip_bit_mask_of, count_more}
use Rattle.terms.specs.declared.Fact.{Fact}
use Rattle.terms.specs.Schema.{Schema, TypedObjects}
use Rattle.terms.specs.Facts.{fact_bad, fact_number, no_fact}
use Rattle.limits.specs.Limits.{max_relations, max_objects, state_size}
use Rattle.format.specs.Toggled.{toggle}
use Rattle.quantify.specs.Quantify.{any, Mem, here, there}
use Rattle.factsets.specs.Holding.{holding}
use Rattle.factsets.specs.Right.{Increasing}
use Rattle.factsets.proofs.Numbers.{number_below, number_injective}
use Rattle.factsets.proofs.Holding.{holding_in, holding_out}
use Rattle.factsets.proofs.Sorted.{mem_decide}
use Rattle.factsets.proofs.Toggled.{toggle_from, toggle_kept, toggle_new, toggle_gone, increasing_once}

-- a fact of another number does not matter
holding_skip : (f : Fact) (fs : List Fact) (n : ℕ) → (fact_number f ≡ n → ⊥) → holding (f ∷ fs) n ≡ holding fs n
unfolding holding any
holding_skip f fs n d = rw (ne_eqb (fact_number f) n d)

count_none : (n : ℕ) → count_below n (holding []) ≡ 0
unfolding count_below digit holding any
count_none zero = refl
count_none (suc n) = omega (arith, count_none n)

module _ (sch : Schema) (ob : TypedObjects) (few : ob.count ≤ max_objects) where
  -- a right fact that is not in a right state does not hold in it
  pub holding_absent : (fs : List Fact) → ((f : Fact) → Mem f fs → fact_bad sch ob f ≡ false) → (t : Fact) → fact_bad sch ob t ≡ false → (Mem t fs → ⊥)
      → holding fs (fact_number t) ≡ false
  holding_absent fs suits t good a =
      is_false _
      (λ e.
      let (f, m, q) = holding_out fs (fact_number t) e in
      let d : f ≡ t = number_injective sch ob few f t (suits f m) good q in
      a (rw d at m))

  module _ (last t : Fact) (fs : List Fact) (good : fact_bad sch ob t ≡ false) (suits : (f : Fact) → Mem f fs → fact_bad sch ob f ≡ false) (h : Increasing last fs) where
    toggle_suits : (f : Fact) → Mem f (toggle t fs) → fact_bad sch ob f ≡ false
    toggle_suits f m = go (toggle_from t fs m)
      where
        go : (f ≡ t) ⊎ Mem f fs → fact_bad sch ob f ≡ false
        go (inl d) = rw d good
        go (inr k) = suits f k

    -- of the fact turned
    here_turned : Dec (Mem t fs) → holding (toggle t fs) (fact_number t) ≡ not (holding fs (fact_number t))
    here_turned (yes m) =
        holding_absent (toggle t fs) toggle_suits t good (toggle_gone last t fs h m) ∙ sym (ap not (holding_in fs m))
    here_turned (no a) = holding_in (toggle t fs) (toggle_new t fs a) ∙ sym (ap not (holding_absent fs suits t good a))

    -- of every other number
    there_kept : (n : ℕ) → (fact_number t ≡ n → ⊥) → holding (toggle t fs) n ≡ holding fs n
    there_kept n d = bool_eq _ _ into out
      where
        rest : (f : Fact) → fact_number f ≡ n → (f ≡ t) ⊎ Mem f fs → Mem f fs
        rest f e (inl q) = absurd (d (sym (ap fact_number q) ∙ e))
        rest f e (inr m) = m

        into : holding (toggle t fs) n ≡ true → holding fs n ≡ true
        into w =
            let (f, m, e) = holding_out (toggle t fs) n w in
            rw e at (holding_in fs (rest f e (toggle_from t fs m)))

        out : holding fs n ≡ true → holding (toggle t fs) n ≡ true
        out w =
            let (f, m, e) = holding_out fs n w in
            rw e at (holding_in (toggle t fs) (toggle_kept t fs m (λ q. d (sym (ap fact_number q) ∙ e))))

    -- The fact turned holds if it did not, and every other fact as before.
    pub holding_toggle : (n : ℕ) → holding (toggle t fs) n ≡ cond (eqb (fact_number t) n) (not (holding fs n)) (holding fs n)
    holding_toggle n = go (decide (eqb (fact_number t) n))
      where
        go : (eqb (fact_number t) n ≡ true) ⊎ (eqb (fact_number t) n ≡ false) → holding (toggle t fs) n ≡ cond (eqb (fact_number t) n) (not (holding fs n)) (holding fs n)
        go (inl e) = rw e (rw (eqb-true (fact_number t) n e) at (here_turned (mem_decide t fs)))
        go (inr e) = rw e (there_kept n (eqb-false (fact_number t) n e))

    -- A mask's bit flipped is the fact turned.
    pub flip_holding : sch.relations ≤ max_relations → flip_bit (mask_of state_size (holding fs)) (fact_number t) ≡ mask_of state_size (holding (toggle t fs))
    flip_holding relations =
        flip_bit_mask_of state_size (holding fs) (fact_number t) (omega (arith, number_below sch ob few t good))
        ∙ mask_of_same state_size _ _ (λ n l. sym (holding_toggle n))

  -- ---- how many hold
  -- each fact of a list in order is counted once
  count_holding : (k : ℕ) (last : Fact) (fs : List Fact) → ((f : Fact) → Mem f fs → fact_bad sch ob f ≡ false) → ((f : Fact) → Mem f fs → fact_number f < k)
      → Increasing last fs → count_below k (holding fs) ≡ length fs
  count_holding k last [] suits short h = count_none k
  count_holding k last (f ∷ fs) suits short h =
      count_more k (fact_number f) (holding (f ∷ fs)) (holding fs) (short f here) (holding_in (f ∷ fs) here)
      (holding_absent fs (λ g m. suits g (there m)) f (suits f here) (increasing_once f fs h.1))
      (holding_skip f fs)
      ∙ ap suc (count_holding k f fs (λ g m. suits g (there m)) (λ g m. short g (there m)) h.1)

  -- A right state has as many facts as its mask has bits.
  pub cardinality_holding : sch.relations ≤ max_relations → (fs : List Fact) → ((f : Fact) → Mem f fs → fact_bad sch ob f ≡ false) → Increasing no_fact fs
      → cardinality (mask_of state_size (holding fs)) ≡ length fs
  cardinality_holding relations fs suits h =
      cardinality_mask_of state_size (holding fs)
      ∙ count_holding (8 * state_size) no_fact fs suits (λ f m. omega (arith, number_below sch ob few f (suits f m))) h
