-- What each operation does to a mask: to its elements (`test-`), to its length (`length-`), and that bytes stay bytes (`bytes-`).
-- Each holds for masks of any length. For whoever reasons on sets and not on bytes. Uses Bytes.antt, which has each argument once.
use mathlib.Core.Bool.{Bool, false, not, ◌&&◌, ◌||◌, or-false, and-true}
use mathlib.Core.List.{List}
use mathlib.Core.Path.{◌≡◌, sym, ap, ◌∙◌}
use Prim.Native.Nat.{ℕ, ◌*◌, ◌/◌, ◌%◌, ◌^◌, ◌<◌, ◌≤◌}
use native.Mathlib.Decide.{ℕ_discrete}
use native.Mathlib.Omega.{arith}
use borrow.Author.Tests.{ne_eqb}
use lib.Bits.{bit_and, bit_or, and_zero_l, bit_xor}
use lib.Dec.{eqb}
use lib.ListN.{length, get_or, length-set, length-replicate, get_or-eq_default}
use lib.Pow.{pow-lt}
use Rattle.mask.specs.Bits.{bit_of, test_bit, set_bit, clear_bit, without, Bytes}
use Rattle.mask.specs.Sets.{intersection, union, difference, empty}
use Rattle.mask.proofs.Bytes.{zeros, test_past, length_bytewise, bytes_bytewise, bytes_stored, test_bytewise, test_stored}
use Rattle.mask.proofs.Numbers.{bit_and_lem, bit_or_lem, bit_without, bit_none, or_byte, and_byte, without_byte}

-- ---- the empty mask
pub test_empty : (len n : ℕ) → test_bit (empty len) n ≡ false
unfolding test_bit empty
test_empty len n = ap (λ (x : ℕ). bit_of x (n % 8)) (zeros len (n / 8)) ∙ bit_none (n % 8)

pub length_empty : (len : ℕ) → length (empty len) ≡ len
unfolding empty
length_empty len = length-replicate len 0

pub bytes_empty : (len : ℕ) → Bytes (empty len)
unfolding empty
bytes_empty len i = omega (arith, zeros len i)

-- ---- an element put in
-- A number past the end cannot be put in: either that one, or the one asked for, has to lie within.
pub test_set : (m : List ℕ) (n j : ℕ) → n < 8 * length m → test_bit (set_bit m n) j ≡ (test_bit m j || eqb n j)
unfolding set_bit
test_set m n j h = test_stored bit_or (λ a b. a || b) bit_or_lem or-false m n j (λ o. absurd (omega arith))

pub test_set_below : (m : List ℕ) (n j : ℕ) → j < 8 * length m → test_bit (set_bit m n) j ≡ (test_bit m j || eqb n j)
unfolding set_bit
test_set_below m n j h =
    test_stored bit_or (λ a b. a || b) bit_or_lem or-false m n j
    (λ o. ap (λ (t : Bool). test_bit m j || t) (ne_eqb n j (λ (e : n ≡ j). omega arith)) ∙ or-false (test_bit m j))

pub length_set_bit : (m : List ℕ) (n : ℕ) → length (set_bit m n) ≡ length m
unfolding set_bit
length_set_bit m n = length-set m (n / 8) (bit_or (get_or m (n / 8) 0) (2 ^ (n % 8)))

pub power_byte : (n : ℕ) → 2 ^ (n % 8) < 256
power_byte n = pow-lt {j = 8} (omega arith)

pub bytes_set_bit : (m : List ℕ) (n : ℕ) → Bytes m → Bytes (set_bit m n)
unfolding set_bit
bytes_set_bit m n h =
    let x = get_or m (n / 8) 0 in
    bytes_stored m (n / 8) (bit_or x (2 ^ (n % 8))) h (or_byte x (2 ^ (n % 8)) (h (n / 8)) (power_byte n))

-- ---- an element taken out
pub test_clear : (m : List ℕ) (n j : ℕ) → test_bit (clear_bit m n) j ≡ (test_bit m j && not (eqb n j))
unfolding clear_bit
test_clear m n j = test_stored without (λ a b. a && not b) bit_without and-true m n j (λ o. out o (ℕ_discrete n j))
  where
    out : 8 * length m ≤ n → Dec (n ≡ j) → (test_bit m j && not (eqb n j)) ≡ test_bit m j
    out o (yes e) =
        let f = test_past m j (omega arith) in
        ap (λ (t : Bool). t && not (eqb n j)) f ∙ sym f
    out o (no d) = ap (λ (t : Bool). test_bit m j && not t) (ne_eqb n j d) ∙ and-true (test_bit m j)

pub length_clear_bit : (m : List ℕ) (n : ℕ) → length (clear_bit m n) ≡ length m
unfolding clear_bit
length_clear_bit m n = length-set m (n / 8) (without (get_or m (n / 8) 0) (2 ^ (n % 8)))

pub bytes_clear_bit : (m : List ℕ) (n : ℕ) → Bytes m → Bytes (clear_bit m n)
unfolding clear_bit
bytes_clear_bit m n h =
    let x = get_or m (n / 8) 0 in
    bytes_stored m (n / 8) (without x (2 ^ (n % 8))) h (without_byte x (2 ^ (n % 8)) (h (n / 8)))

-- ---- intersection
pub test_intersection : (a b : List ℕ) (n : ℕ) → test_bit (intersection a b) n ≡ (test_bit a n && test_bit b n)
unfolding intersection
test_intersection a b n = test_bytewise bit_and (λ x y. x && y) bit_and_lem a b n (λ o. and_zero_l (get_or b (n / 8) 0))

pub length_intersection : (a b : List ℕ) → length (intersection a b) ≡ length a
unfolding intersection
length_intersection a b = length_bytewise bit_and a b

pub bytes_intersection : (a b : List ℕ) → Bytes a → Bytes (intersection a b)
unfolding intersection
bytes_intersection a b h = bytes_bytewise bit_and a b (λ i. and_byte (get_or a i 0) (get_or b i 0) (h i))

-- ---- union
-- It is as long as its first mask: either the second is no longer, or the number asked for lies within.
pub test_union : (a b : List ℕ) (n : ℕ) → length b ≤ length a → test_bit (union a b) n ≡ (test_bit a n || test_bit b n)
unfolding union
test_union a b n h =
    test_bytewise bit_or (λ x y. x || y) bit_or_lem a b n
    (λ o. ap (bit_or 0) (get_or-eq_default b 0 {n = n / 8} (omega arith)))

pub test_union_below : (a b : List ℕ) (n : ℕ) → n < 8 * length a → test_bit (union a b) n ≡ (test_bit a n || test_bit b n)
unfolding union
test_union_below a b n h = test_bytewise bit_or (λ x y. x || y) bit_or_lem a b n (λ o. absurd (omega arith))

pub length_union : (a b : List ℕ) → length (union a b) ≡ length a
unfolding union
length_union a b = length_bytewise bit_or a b

pub bytes_union : (a b : List ℕ) → Bytes a → Bytes b → Bytes (union a b)
unfolding union
bytes_union a b h k = bytes_bytewise bit_or a b (λ i. or_byte (get_or a i 0) (get_or b i 0) (h i) (k i))

-- ---- difference
pub without_none : (y : ℕ) → without 0 y ≡ 0
unfolding without
without_none y = ap (bit_xor 0) (and_zero_l y)

pub test_difference : (a b : List ℕ) (n : ℕ) → test_bit (difference a b) n ≡ (test_bit a n && not (test_bit b n))
unfolding difference
test_difference a b n = test_bytewise without (λ x y. x && not y) bit_without a b n (λ o. without_none (get_or b (n / 8) 0))

pub length_difference : (a b : List ℕ) → length (difference a b) ≡ length a
unfolding difference
length_difference a b = length_bytewise without a b

pub bytes_difference : (a b : List ℕ) → Bytes a → Bytes (difference a b)
unfolding difference
bytes_difference a b h = bytes_bytewise without a b (λ i. without_byte (get_or a i 0) (get_or b i 0) (h i))
