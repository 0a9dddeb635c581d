-- A bit flipped: what that does to the elements of a mask, to its length, to the mask of a predicate, and to its size.
-- For masks from which numbers are taken out and into which they are put one after the other. Uses Bytes.antt and Whole.antt.
use mathlib.Core.Bool.{Bool, true, false, cond, not, beq}
use mathlib.Core.List.{List}
use mathlib.Core.Path.{◌≡◌, refl, sym, ap, ◌∙◌}
use Prim.Native.Nat.{ℕ, zero, suc, ◌+◌, ◌*◌, ◌/◌, ◌%◌, ◌^◌, ◌≤◌, ◌<◌}
use native.Mathlib.Nat.{zero-add}
use native.Mathlib.Decide.{ℕ_discrete}
use native.Mathlib.Omega.{arith}
use borrow.Author.Tests.{eq-eqb, ne_eqb}
use lib.Bits.{bit_xor}
use lib.Count.{ones}
use lib.Dec.{eqb}
use lib.ListN.{length, get_or, length-set}
use Rattle.mask.specs.Bits.{test_bit, flip_bit, Bytes}
use Rattle.mask.specs.Sets.{empty, cardinality, digit, count_below, mask_of}
use Rattle.mask.proofs.Bytes.{bytes_stored, test_stored}
use Rattle.mask.proofs.Laws.{power_byte}
use Rattle.mask.proofs.Numbers.{bit_xor_lem, xor_byte, count_same}
use Rattle.mask.proofs.Whole.{length_mask_of, test_mask_of, bytes_mask_of, is_mask_of, cardinality_count}

-- ---- elements, length, bytes
xor_none : (b : Bool) → not (beq b false) ≡ b
xor_none true = refl
xor_none false = refl

turned : (b t : Bool) → not (beq b t) ≡ cond t (not b) b
turned true true = refl
turned true false = refl
turned false true = refl
turned false false = refl

-- n turns, and every other number is as it was
pub test_flip : (m : List ℕ) (n j : ℕ) → n < 8 * length m → test_bit (flip_bit m n) j ≡ cond (eqb n j) (not (test_bit m j)) (test_bit m j)
unfolding flip_bit
test_flip m n j h =
    test_stored bit_xor (λ a b. not (beq a b)) bit_xor_lem xor_none m n j (λ o. absurd (omega arith)) ∙ turned (test_bit m j) (eqb n j)

pub length_flip_bit : (m : List ℕ) (n : ℕ) → length (flip_bit m n) ≡ length m
unfolding flip_bit
length_flip_bit m n = length-set m (n / 8) (bit_xor (get_or m (n / 8) 0) (2 ^ (n % 8)))

pub bytes_flip_bit : (m : List ℕ) (n : ℕ) → Bytes m → Bytes (flip_bit m n)
unfolding flip_bit
bytes_flip_bit m n h =
    let x = get_or m (n / 8) 0 in
    bytes_stored m (n / 8) (bit_xor x (2 ^ (n % 8))) h (xor_byte x (2 ^ (n % 8)) (h (n / 8)) (power_byte n))

pub flip_bit_mask_of : (len : ℕ) (p : ℕ → Bool) (n : ℕ) → n < 8 * len → flip_bit (mask_of len p) n ≡ mask_of len (λ j. cond (eqb n j) (not (p j)) (p j))
flip_bit_mask_of len p n h =
    is_mask_of (flip_bit (mask_of len p) n) len (λ j. cond (eqb n j) (not (p j)) (p j))
    (length_flip_bit (mask_of len p) n ∙ length_mask_of len p)
    (bytes_flip_bit (mask_of len p) n (bytes_mask_of len p))
    (λ j l.
    test_flip (mask_of len p) n j (omega (arith, length_mask_of len p))
    ∙ ap (λ (t : Bool). cond (eqb n j) (not t) t) (test_mask_of len p j l))

-- ---- size
-- two properties that differ in n alone, which the first has
pub count_more : (k n : ℕ) (p q : ℕ → Bool) → n < k → p n ≡ true → q n ≡ false → ((j : ℕ) → (n ≡ j → ⊥) → p j ≡ q j) → count_below k p ≡ suc (count_below k q)
unfolding count_below digit
count_more zero n p q h e f same = absurd (omega arith)
count_more (suc k) n p q h e f same = go (ℕ_discrete n k) (λ l. count_more k n p q l e f same)
  where
    go : Dec (n ≡ k) → (n < k → count_below k p ≡ suc (count_below k q)) → count_below k p + digit (p k) ≡ suc (count_below k q + digit (q k))
    go (yes d) deeper =
        let s : count_below k p ≡ count_below k q = count_same k p q (λ j l. same j (λ (z : n ≡ j). omega arith)) in
        let a : digit (p k) ≡ 1 = ap digit (ap p (sym d) ∙ e) in
        let b : digit (q k) ≡ 0 = ap digit (ap q (sym d) ∙ f) in
        omega arith
    go (no d) deeper =
        let s : count_below k p ≡ suc (count_below k q) = deeper (omega arith) in
        let a : digit (p k) ≡ digit (q k) = ap digit (same k d) in
        omega arith

module _ (m : List ℕ) (n : ℕ) (bytes : Bytes m) (h : n < 8 * length m) where
  size_flipped : cardinality (flip_bit m n) ≡ count_below (8 * length m) (test_bit (flip_bit m n))
  size_flipped =
      cardinality_count (flip_bit m n) (bytes_flip_bit m n bytes) ∙ ap (λ (k : ℕ). count_below (8 * k) (test_bit (flip_bit m n))) (length_flip_bit m n)

  flipped_here : test_bit (flip_bit m n) n ≡ not (test_bit m n)
  flipped_here = test_flip m n n h ∙ ap (λ (t : Bool). cond t (not (test_bit m n)) (test_bit m n)) (eq-eqb n n refl)

  flipped_there : (j : ℕ) → (n ≡ j → ⊥) → test_bit (flip_bit m n) j ≡ test_bit m j
  flipped_there j d = test_flip m n j h ∙ ap (λ (t : Bool). cond t (not (test_bit m j)) (test_bit m j)) (ne_eqb n j d)

  -- one fewer where n was in
  pub cardinality_flip_in : test_bit m n ≡ true → suc (cardinality (flip_bit m n)) ≡ cardinality m
  cardinality_flip_in e =
      ap suc size_flipped
      ∙ sym (count_more (8 * length m) n (test_bit m) (test_bit (flip_bit m n)) h e (flipped_here ∙ ap not e) (λ j d. sym (flipped_there j d)))
      ∙ sym (cardinality_count m bytes)

  -- one more where it was not
  pub cardinality_flip_out : test_bit m n ≡ false → cardinality (flip_bit m n) ≡ suc (cardinality m)
  cardinality_flip_out e =
      size_flipped ∙ count_more (8 * length m) n (test_bit (flip_bit m n)) (test_bit m) h (flipped_here ∙ ap not e) e flipped_there
      ∙ ap suc (sym (cardinality_count m bytes))

pub cardinality_empty : (len : ℕ) → cardinality (empty len) ≡ 0
unfolding cardinality empty ones
cardinality_empty zero = refl
cardinality_empty (suc len) = zero-add (cardinality (empty len)) ∙ cardinality_empty len

-- a mask has no more numbers than bits
count_most : (n : ℕ) (p : ℕ → Bool) → count_below n p ≤ n
unfolding count_below digit
count_most zero p = omega arith
count_most (suc n) p = go (p n) (count_most n p)
  where
    go : (b : Bool) → count_below n p ≤ n → count_below n p + digit b ≤ suc n
    go true l = omega arith
    go false l = omega arith

pub cardinality_most : (m : List ℕ) → Bytes m → cardinality m ≤ 8 * length m
cardinality_most m b = omega (arith, cardinality_count m b, count_most (8 * length m) (test_bit m))
