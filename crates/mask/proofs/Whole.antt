-- A mask is its elements: two with the same elements are equal, each is the mask of a predicate, and its size is the count of its elements.
-- For proofs that turn a mask in memory into a set, `mask_of`, whole or one number after the other. Uses Laws.antt for the elements of each operation.
use mathlib.Core.Bool.{Bool, true, false, cond, not, ◌&&◌, ◌||◌, and-true, and-false, or-true, or-false}
use mathlib.Core.List.{List, [], ◌∷◌}
use mathlib.Core.Path.{◌≡◌, refl, sym, ap, ap₂, ◌∙◌}
use Prim.Native.Nat.{ℕ, zero, suc, ◌+◌, ◌*◌, ◌/◌, ◌%◌, ◌<◌, ◌≤◌}
use native.Mathlib.Nat.{zero-add}
use native.Mathlib.Decide.{ℕ_discrete, dec_lt}
use native.Mathlib.Omega.{arith}
use borrow.Author.Tests.{lt-ltb, le-ltb, eq-eqb, ne_eqb}
use lib.Dec.{eqb, ltb}
use lib.ListN.{length, get_or, get_or-eq_default}
use lib.Seq.{ext_get_or}
use Rattle.mask.specs.Bits.{bit_of, test_bit, set_bit, clear_bit, put_bit, Bytes}
use Rattle.mask.specs.Sets.{bytewise, intersection, union, difference, empty, cardinality, count_below, number, bytes_from, mask_of}
use Rattle.mask.proofs.Laws.{test_empty, length_empty, bytes_empty, test_set_below, length_set_bit, bytes_set_bit, test_clear, length_clear_bit, bytes_clear_bit}
use Rattle.mask.proofs.Laws.{test_intersection, length_intersection, bytes_intersection, test_union_below, length_union, bytes_union, test_difference, length_difference, bytes_difference}
use Rattle.mask.proofs.Numbers.{bits_ext, number_lt, bit_number, count_same, count_split, ones_bits}

-- element 8 * i + j is bit j of byte i
pub test_at : (m : List ℕ) (i j : ℕ) → j < 8 → test_bit m (8 * i + j) ≡ bit_of (get_or m i 0) j
unfolding test_bit
test_at m i j h =
    let d : (8 * i + j) / 8 ≡ i = omega arith in
    let r : (8 * i + j) % 8 ≡ j = omega arith in
    ap₂ (λ (x y : ℕ). bit_of (get_or m x 0) y) d r

-- Two masks of one length, of bytes, with the same elements, are the same bytes.
pub mask_ext : (a b : List ℕ) → length a ≡ length b → Bytes a → Bytes b → ((n : ℕ) → n < 8 * length a → test_bit a n ≡ test_bit b n) → a ≡ b
mask_ext a b e ha hb same =
    ext_get_or 0 a b e
    (λ i l. bits_ext 8 (get_or a i 0) (get_or b i 0) (ha i) (hb i) (λ j k. sym (test_at a i j k) ∙ same (8 * i + j) (omega arith) ∙ test_at b i j k))

-- ---- the mask of a predicate
length_from : (p : ℕ → Bool) (at len : ℕ) → length (bytes_from p at len) ≡ len
unfolding bytes_from
length_from p at zero = refl
length_from p at (suc len) = ap suc (length_from p (at + 8) len)

byte_from : (p : ℕ → Bool) (at len i : ℕ) → i < len → get_or (bytes_from p at len) i 0 ≡ number p (at + 8 * i) 8
unfolding bytes_from
byte_from p at zero i h = absurd (omega arith)
byte_from p at (suc len) zero h =
    let e : at ≡ at + 8 * 0 = omega arith in
    ap (λ (x : ℕ). number p x 8) e
byte_from p at (suc len) (suc i) h =
    let e : at + 8 + 8 * i ≡ at + 8 * suc i = omega arith in
    byte_from p (at + 8) len i (omega arith) ∙ ap (λ (x : ℕ). number p x 8) e

pub length_mask_of : (len : ℕ) (p : ℕ → Bool) → length (mask_of len p) ≡ len
unfolding mask_of
length_mask_of len p = length_from p 0 len

pub test_mask_of : (len : ℕ) (p : ℕ → Bool) (n : ℕ) → n < 8 * len → test_bit (mask_of len p) n ≡ p n
unfolding test_bit mask_of
test_mask_of len p n h =
    let e : 0 + 8 * (n / 8) + n % 8 ≡ n = omega arith in
    ap (λ (x : ℕ). bit_of x (n % 8)) (byte_from p 0 len (n / 8) (omega arith)) ∙ bit_number p (0 + 8 * (n / 8)) 8 (n % 8) (omega arith) ∙ ap p e

pub bytes_mask_of : (len : ℕ) (p : ℕ → Bool) → Bytes (mask_of len p)
unfolding mask_of
bytes_mask_of len p i = go (dec_lt i len)
  where
    go : Dec (i < len) → get_or (bytes_from p 0 len) i 0 < 256
    go (yes l) = omega (arith, byte_from p 0 len i l, number_lt p (0 + 8 * i) 8)
    go (no d) =
        let h : length (bytes_from p 0 len) ≤ i = omega (arith, length_from p 0 len) in
        omega (arith, get_or-eq_default (bytes_from p 0 len) 0 h)

-- a mask of len bytes in which n lies exactly if p holds of it
pub is_mask_of : (m : List ℕ) (len : ℕ) (p : ℕ → Bool) → length m ≡ len → Bytes m → ((n : ℕ) → n < 8 * len → test_bit m n ≡ p n) → m ≡ mask_of len p
is_mask_of m len p e h same =
    mask_ext m (mask_of len p) (e ∙ sym (length_mask_of len p)) h (bytes_mask_of len p)
    (λ n l. let k : n < 8 * len = omega arith in same n k ∙ sym (test_mask_of len p n k))

pub mask_of_test_bit : (m : List ℕ) → Bytes m → m ≡ mask_of (length m) (test_bit m)
mask_of_test_bit m h = is_mask_of m (length m) (test_bit m) refl h (λ n l. refl)

pub mask_of_same : (len : ℕ) (p q : ℕ → Bool) → ((n : ℕ) → n < 8 * len → p n ≡ q n) → mask_of len p ≡ mask_of len q
mask_of_same len p q same =
    is_mask_of (mask_of len p) len q (length_mask_of len p) (bytes_mask_of len p) (λ n l. test_mask_of len p n l ∙ same n l)

-- ---- each operation on masks of predicates is that of the predicates
pub empty_mask_of : (len : ℕ) → empty len ≡ mask_of len (λ n. false)
empty_mask_of len = is_mask_of (empty len) len (λ n. false) (length_empty len) (bytes_empty len) (λ n l. test_empty len n)

module _ (len : ℕ) (p : ℕ → Bool) where
  -- what an operation g on each element makes of p's mask
  changed : (m : List ℕ) (g : ℕ → Bool → Bool) → length m ≡ length (mask_of len p) → Bytes m
      → ((n : ℕ) → n < 8 * len → n < 8 * length (mask_of len p) → test_bit m n ≡ g n (test_bit (mask_of len p) n)) → m ≡ mask_of len (λ n. g n (p n))
  changed m g e h same =
      is_mask_of m len (λ n. g n (p n)) (e ∙ length_mask_of len p) h
      (λ n l. same n l (omega (arith, length_mask_of len p)) ∙ ap (g n) (test_mask_of len p n l))

  pub set_bit_mask_of : (n : ℕ) → set_bit (mask_of len p) n ≡ mask_of len (λ j. p j || eqb n j)
  set_bit_mask_of n =
      changed (set_bit (mask_of len p) n) (λ j t. t || eqb n j) (length_set_bit (mask_of len p) n) (bytes_set_bit (mask_of len p) n (bytes_mask_of len p))
      (λ j l k. test_set_below (mask_of len p) n j k)

  pub clear_bit_mask_of : (n : ℕ) → clear_bit (mask_of len p) n ≡ mask_of len (λ j. p j && not (eqb n j))
  clear_bit_mask_of n =
      changed (clear_bit (mask_of len p) n) (λ j t. t && not (eqb n j)) (length_clear_bit (mask_of len p) n) (bytes_clear_bit (mask_of len p) n (bytes_mask_of len p))
      (λ j l k. test_clear (mask_of len p) n j)

  -- Whichever value is put, n has it after, and every other number is as it was.
  pub put_bit_mask_of : (value : Bool) (n : ℕ) → put_bit value (mask_of len p) n ≡ mask_of len (λ j. cond (eqb n j) value (p j))
  unfolding put_bit
  put_bit_mask_of true n = set_bit_mask_of n ∙ mask_of_same len _ _ (λ j l. put (p j) (eqb n j))
    where
      put : (x y : Bool) → (x || y) ≡ cond y true x
      put x true = or-true x
      put x false = or-false x
  put_bit_mask_of false n = clear_bit_mask_of n ∙ mask_of_same len _ _ (λ j l. taken (p j) (eqb n j))
    where
      taken : (x y : Bool) → (x && not y) ≡ cond y false x
      taken x true = and-false x
      taken x false = and-true x

  pub intersection_mask_of : (q : ℕ → Bool) → intersection (mask_of len p) (mask_of len q) ≡ mask_of len (λ n. p n && q n)
  intersection_mask_of q =
      changed (intersection (mask_of len p) (mask_of len q)) (λ n t. t && q n) (length_intersection (mask_of len p) (mask_of len q))
      (bytes_intersection (mask_of len p) (mask_of len q) (bytes_mask_of len p))
      (λ n l k. test_intersection (mask_of len p) (mask_of len q) n ∙ ap (λ (t : Bool). test_bit (mask_of len p) n && t) (test_mask_of len q n l))

  pub union_mask_of : (q : ℕ → Bool) → union (mask_of len p) (mask_of len q) ≡ mask_of len (λ n. p n || q n)
  union_mask_of q =
      changed (union (mask_of len p) (mask_of len q)) (λ n t. t || q n) (length_union (mask_of len p) (mask_of len q))
      (bytes_union (mask_of len p) (mask_of len q) (bytes_mask_of len p) (bytes_mask_of len q))
      (λ n l k. test_union_below (mask_of len p) (mask_of len q) n k ∙ ap (λ (t : Bool). test_bit (mask_of len p) n || t) (test_mask_of len q n l))

  pub difference_mask_of : (q : ℕ → Bool) → difference (mask_of len p) (mask_of len q) ≡ mask_of len (λ n. p n && not (q n))
  difference_mask_of q =
      changed (difference (mask_of len p) (mask_of len q)) (λ n t. t && not (q n)) (length_difference (mask_of len p) (mask_of len q))
      (bytes_difference (mask_of len p) (mask_of len q) (bytes_mask_of len p))
      (λ n l k. test_difference (mask_of len p) (mask_of len q) n ∙ ap (λ (t : Bool). test_bit (mask_of len p) n && not t) (test_mask_of len q n l))

-- ---- the mask of the numbers below an end, one number after the other
-- a number other than n is below n + 1 exactly if it is below n
pub ltb_next : (n j : ℕ) → (n ≡ j → ⊥) → ltb j (n + 1) ≡ ltb j n
ltb_next n j d = go (dec_lt j n)
  where
    go : Dec (j < n) → ltb j (n + 1) ≡ ltb j n
    go (yes h) = lt-ltb j (n + 1) (omega arith) ∙ sym (lt-ltb j n h)
    go (no h) =
        let k : n + 1 ≤ j = omega arith in
        le-ltb j (n + 1) k ∙ sym (le-ltb j n (omega arith))

module _ (len : ℕ) (p : ℕ → Bool) where
  pub below_none : empty len ≡ mask_of len (λ j. ltb j 0 && p j)
  below_none = empty_mask_of len ∙ mask_of_same len (λ j. false) (λ j. ltb j 0 && p j) (λ j l. rw (le-ltb j 0 (omega arith)))

  pub below_put : (n : ℕ) → p n ≡ true → set_bit (mask_of len (λ j. ltb j n && p j)) n ≡ mask_of len (λ j. ltb j (n + 1) && p j)
  below_put n e = set_bit_mask_of len (λ j. ltb j n && p j) n ∙ mask_of_same len _ _ (λ j l. go j (ℕ_discrete n j))
    where
      go : (j : ℕ) → Dec (n ≡ j) → (ltb j n && p j || eqb n j) ≡ (ltb j (n + 1) && p j)
      go j (yes q) = rw (← q, le-ltb n n (omega arith), eq-eqb n n refl, lt-ltb n (n + 1) (omega arith), e)
      go j (no d) = rw (ne_eqb n j d, or-false, ltb_next n j d)

  -- a later end, where there is none between the two
  pub below_skip : (n m : ℕ) → n ≤ m → ((j : ℕ) → n ≤ j → j < m → p j ≡ false) → mask_of len (λ j. ltb j n && p j) ≡ mask_of len (λ j. ltb j m && p j)
  below_skip n m w none = mask_of_same len _ _ (λ j l. go j (dec_lt j n) (dec_lt j m))
    where
      go : (j : ℕ) → Dec (j < n) → Dec (j < m) → (ltb j n && p j) ≡ (ltb j m && p j)
      go j (yes h) k = rw (lt-ltb j n h, lt-ltb j m (omega arith))
      go j (no h) (yes k) = rw (none j (omega arith) k) (and-false (ltb j n) ∙ sym (and-false (ltb j m)))
      go j (no h) (no k) = rw (le-ltb j n (omega arith), le-ltb j m (omega arith))

  pub below_end : (n : ℕ) → ((j : ℕ) → n ≤ j → j < 8 * len → p j ≡ false) → mask_of len (λ j. ltb j n && p j) ≡ mask_of len p
  below_end n none = mask_of_same len _ _ (λ j l. go j l (dec_lt j n))
    where
      go : (j : ℕ) → j < 8 * len → Dec (j < n) → (ltb j n && p j) ≡ p j
      go j l (yes h) = rw (lt-ltb j n h)
      go j l (no h) = rw (none j (omega arith) l, and-false)

-- ---- a mask laid over the empty one
pub union_empty : (len : ℕ) (m : List ℕ) → length m ≡ len → union (empty len) m ≡ m
unfolding union empty bytewise
union_empty zero [] e = refl
union_empty zero (x ∷ m) e = absurd (omega arith)
union_empty (suc len) [] e = absurd (omega arith)
union_empty (suc len) (x ∷ m) e = ap (λ (l : List ℕ). x ∷ l) (union_empty len m (omega arith))

-- ---- size
count_head : (x : ℕ) (m : List ℕ) → count_below 8 (bit_of x) ≡ count_below 8 (test_bit (x ∷ m))
count_head x m =
    count_same 8 (bit_of x) (test_bit (x ∷ m)) (λ j l. sym (test_at (x ∷ m) 0 j l) ∙ ap (test_bit (x ∷ m)) (zero-add j))

count_tail : (x : ℕ) (m : List ℕ) (n : ℕ) → count_below n (test_bit m) ≡ count_below n (λ j. test_bit (x ∷ m) (8 + j))
unfolding test_bit
count_tail x m n = count_same n (test_bit m) (λ j. test_bit (x ∷ m) (8 + j)) (λ j l. next j)
  where
    next : (j : ℕ) → test_bit m j ≡ test_bit (x ∷ m) (8 + j)
    next j =
        let d : suc (j / 8) ≡ (8 + j) / 8 = omega arith in
        let r : j % 8 ≡ (8 + j) % 8 = omega arith in
        ap₂ (λ (a b : ℕ). bit_of (get_or (x ∷ m) a 0) b) d r

-- The count of ones is the number of elements.
pub cardinality_count : (m : List ℕ) → Bytes m → cardinality m ≡ count_below (8 * length m) (test_bit m)
unfolding cardinality count_below
cardinality_count [] h = refl
cardinality_count (x ∷ m) h =
    let low = ones_bits 8 x (h 0) ∙ count_head x m in
    let up = cardinality_count m (λ i. h (suc i)) ∙ count_tail x m (8 * length m) in
    let e : 8 + 8 * length m ≡ 8 * suc (length m) = omega arith in
    ap₂ (λ (a b : ℕ). a + b) low up ∙ sym (count_split 8 (8 * length m) (test_bit (x ∷ m)))
    ∙ ap (λ (n : ℕ). count_below n (test_bit (x ∷ m))) e

pub cardinality_mask_of : (len : ℕ) (p : ℕ → Bool) → cardinality (mask_of len p) ≡ count_below (8 * len) p
cardinality_mask_of len p =
    cardinality_count (mask_of len p) (bytes_mask_of len p) ∙ ap (λ (k : ℕ). count_below (8 * k) (test_bit (mask_of len p))) (length_mask_of len p)
    ∙ count_same (8 * len) (test_bit (mask_of len p)) p (test_mask_of len p)
