-- Bits of a number taken from it and stored in the mask of a predicate: nothing here is about bound facts. Uses mask's laws of bits and masks.
use Prim.Native.Nat.{ℕ, ◌+◌, ◌-◌, ◌*◌, ◌/◌, ◌%◌, ◌^◌, ◌≤◌, ◌<◌}
use native.Mathlib.Nat.{mod-lt}
use native.Mathlib.Decide.{ℕ_discrete, dec_lt}
use native.Mathlib.Omega.{arith}
use mathlib.Core.Path.{◌≡◌, sym, ap, ◌∙◌}
use mathlib.Core.Bool.{Bool, ◌&&◌}
use mathlib.Core.List.{List}
use lib.Dec.{eqb, ltb}
use lib.ListN.{length, get_or, set, length-set}
use lib.Pow.{field, mod-mod-pow, shr-shr, pow_pos}
use lib.Seq.{get_or-set_same, get_or-set_other}
use borrow.Author.Tests.{lt-ltb, le-ltb}
use Rattle.mask.specs.Bits.{bit_of, test_bit}
use Rattle.mask.specs.Sets.{number, mask_of}
use Rattle.mask.proofs.Numbers.{bits_ext, number_lt, bit_number}
use Rattle.mask.proofs.Bytes.{bytes_stored}
use Rattle.mask.proofs.Whole.{length_mask_of, test_mask_of, bytes_mask_of, is_mask_of}
use Rattle.atoms.specs.Atoms.{stored_word}

-- ---- the low bits of a number, and the bits from one on
bit_low : (x k j : ℕ) → j < k → bit_of (x % 2 ^ k) j ≡ bit_of x j
unfolding bit_of
bit_low x k j l =
    let e : k ≡ (k - j - 1 + 1) + j = omega arith in
    ap (λ (i : ℕ). eqb (x % 2 ^ i / 2 ^ j % 2) 1) e
    ∙ ap (λ (y : ℕ). eqb (y % 2) 1) (field x (k - j - 1 + 1) j)
    ∙ ap (λ (y : ℕ). eqb y 1) (mod-mod-pow (x / 2 ^ j) (k - j - 1) 1)

pub bit_high : (x s j : ℕ) → bit_of (x / 2 ^ s) j ≡ bit_of x (s + j)
unfolding bit_of
bit_high x s j = ap (λ (y : ℕ). eqb (y % 2) 1) (shr-shr x s j)

-- a number whose bits are a predicate's values: as it is, its low bits, and one made from another predicate
is_number : (p : ℕ → Bool) (x at k : ℕ) → x < 2 ^ k → ((j : ℕ) → j < k → bit_of x j ≡ p (at + j)) → x ≡ number p at k
is_number p x at k h e = bits_ext k x (number p at k) h (number_lt p at k) (λ j l. e j l ∙ sym (bit_number p at k j l))

pub number_low : (p : ℕ → Bool) (x at k : ℕ) → ((j : ℕ) → j < k → bit_of x j ≡ p (at + j)) → x % 2 ^ k ≡ number p at k
number_low p x at k e = is_number p (x % 2 ^ k) at k (mod-lt x (pow_pos k)) (λ j l. bit_low x k j l ∙ e j l)

pub number_same : (p q : ℕ → Bool) (at from k : ℕ) → ((j : ℕ) → j < k → q (from + j) ≡ p (at + j)) → number q from k ≡ number p at k
number_same p q at from k e = is_number p (number q from k) at k (number_lt q from k) (λ j l. bit_number q from k j l ∙ e j l)

-- ---- the mask of the numbers below an end that a predicate holds of, one byte after the other
-- an element of another byte than the one from n on is below n exactly if it is below that byte's end
same_side : (n k j : ℕ) → n ≡ 8 * k → (j / 8 ≡ k → ⊥) → ltb j n ≡ ltb j (n + 8)
same_side n k j e d = go (dec_lt j n)
  where
    go : Dec (j < n) → ltb j n ≡ ltb j (n + 8)
    go (yes w) = lt-ltb j n w ∙ sym (lt-ltb j (n + 8) (omega arith))
    go (no w) =
        let o : n + 8 ≤ j = omega arith in
        le-ltb j n (omega arith) ∙ sym (le-ltb j (n + 8) o)

module _ (len : ℕ) (p : ℕ → Bool) where
  unfoldable pub mask_below : ℕ → List ℕ
  mask_below n = mask_of len (λ j. ltb j n && p j)

  byte_next : (n k v : ℕ) → n ≡ 8 * k → k < len → v ≡ number p n 8 → set (mask_below n) k v ≡ mask_below (n + 8)
  unfolding mask_below test_bit
  byte_next n k v a h e =
      is_mask_of (set m k v) len (λ j. ltb j (n + 8) && p j) (length-set m k v ∙ length_mask_of len was)
      (bytes_stored m k v (bytes_mask_of len was) (omega (arith, number_lt p n 8))) (λ j l. go j l (ℕ_discrete (j / 8) k))
    where
      was : ℕ → Bool
      was j = ltb j n && p j

      m : List ℕ
      m = mask_of len was

      go : (j : ℕ) → j < 8 * len → Dec (j / 8 ≡ k) → bit_of (get_or (set m k v) (j / 8) 0) (j % 8) ≡ (ltb j (n + 8) && p j)
      go j l (yes q) =
          let at : n + j % 8 ≡ j = omega arith in
          let h' : k < length m = omega (arith, length_mask_of len was) in
          rw (q, get_or-set_same m k v 0 h', e, bit_number p n 8 (j % 8) (omega arith), at, lt-ltb j (n + 8) (omega arith))
      go j l (no d) = rw (get_or-set_other m k (j / 8) v 0 d) (test_mask_of len was j l ∙ ap (λ (b : Bool). b && p j) (same_side n k j a d))

  pub word_next : (n w : ℕ) → n % 8 ≡ 0 → n + 16 ≤ 8 * len → w ≡ number p n 16 → stored_word (mask_below n) n w ≡ mask_below (n + 16)
  unfolding stored_word
  word_next n w a h e =
      let low = number_low p w n 8 (λ j l. ap (λ (x : ℕ). bit_of x j) e ∙ bit_number p n 16 j (omega arith)) in
      let s : (j : ℕ) → n + (8 + j) ≡ n + 8 + j = λ j. omega arith in
      let high = number_low p (w / 256) (n + 8) 8
      (λ j l. bit_high w 8 j ∙ ap (λ (x : ℕ). bit_of x (8 + j)) e ∙ bit_number p n 16 (8 + j) (omega arith) ∙ ap p (s j))
      in
      let end : n + 8 + 8 ≡ n + 16 = omega arith in
      ap (λ (m : List ℕ). set m (n / 8 + 1) (w / 256 % 256)) (byte_next n (n / 8) (w % 256) (omega arith) (omega arith) low)
      ∙ byte_next (n + 8) (n / 8 + 1) (w / 256 % 256) (omega arith) (omega arith) high
      ∙ ap mask_below end
