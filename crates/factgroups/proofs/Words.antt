-- Numbers of k bits that are a predicate's values, `number` of mask: cut in two, combined bit by bit, 0 where the predicate holds of none, and as
-- the bytes of a mask. Nothing here is about bound facts. Uses mask's laws of bits and masks.
use Prim.Native.Nat.{ℕ, zero, suc, ◌+◌, ◌-◌, ◌*◌, ◌/◌, ◌%◌, ◌^◌, ◌<◌}
use native.Mathlib.Nat.{pow-suc, pow-succ', mul_assoc, zero-add, suc-add, add-zero, one-mul}
use native.Mathlib.Omega.{arith}
use mathlib.Core.Path.{◌≡◌, refl, sym, ap, ap₂, ◌∙◌}
use mathlib.Core.Bool.{Bool, true, false, not, ◌&&◌, ◌||◌}
use mathlib.Core.List.{List}
use lib.Bits.{bit_and, bit_or, and_lt, or_lt}
use lib.Dec.{eqb}
use lib.ListN.{get_or}
use borrow.Author.Tests.{eq-eqb, eqb-true, not-true}
use Rattle.truth.specs.Bools.{clash, is_true, is_false, bool_eq, not_in}
use Rattle.mask.specs.Bits.{bit_of, test_bit}
use Rattle.mask.specs.Sets.{digit, number}
use Rattle.mask.proofs.Numbers.{bit_and_lem, bit_or_lem, bit_none, bits_ext, number_lt, bit_number}
use Rattle.mask.proofs.Whole.{test_at}
use Rattle.atoms.proofs.Words.{bit_high, number_low, number_same}
use Rattle.quantify.specs.Quantify.{below}
use Rattle.quantify.proofs.Quantify.{below_in, below_out}

-- ---- digits
digit_not : (b : Bool) → digit b + digit (not b) ≡ 1
unfolding digit
digit_not true = refl
digit_not false = refl

module _ (p : ℕ → Bool) where
  -- the low a bits, and those above them
  pub number_cut : (at a b : ℕ) → number p at (a + b) ≡ number p at a + 2 ^ a * number p (at + a) b
  unfolding number
  number_cut at zero b = rw (zero-add b, add-zero at) (sym (zero-add _ ∙ one-mul _))
  number_cut at (suc a) b =
      let s : suc at + a ≡ at + suc a = omega arith in
      let up = rw s at (number_cut (suc at) a b) in
      let x : ℕ = number p (at + suc a) b in
      let t : 2 ^ suc a * x ≡ 2 * (2 ^ a * x) = rw (pow-succ' 2 a) (mul_assoc 2 (2 ^ a) x) in
      rw (suc-add a b) (omega arith)

  -- the complement within k bits has the other bits
  pub number_not : (at k : ℕ) → (2 ^ k - 1) - number p at k ≡ number (λ n. not (p n)) at k
  unfolding number
  number_not at zero = refl
  number_not at (suc k) = omega (arith, pow-suc 2 k, number_not (suc at) k, number_lt p (suc at) k, digit_not (p at))

  pub number_none : (at k : ℕ) → ((j : ℕ) → j < k → p (at + j) ≡ false) → number p at k ≡ 0
  number_none at k none =
      bits_ext k (number p at k) 0 (number_lt p at k) (omega (arith, number_lt p at k)) (λ j l. bit_number p at k j l ∙ none j l ∙ sym (bit_none j))

  -- it is not 0 exactly if the predicate holds somewhere
  pub number_some : (at k : ℕ) → not (eqb (number p at k) 0) ≡ below k (λ j. p (at + j))
  number_some at k = bool_eq _ _ (λ e. is_true _ (λ off. some e off)) (λ e. let (j, l, t) = below_out k _ e in found j l t)
    where
      some : not (eqb (number p at k) 0) ≡ true → below k (λ j. p (at + j)) ≡ false → ⊥
      some e off =
          clash (eqb (number p at k) 0)
          (eq-eqb (number p at k) 0 (number_none at k (λ j l. is_false _ (λ on. clash _ (below_in k (λ i. p (at + i)) j l on) off)))) (not-true _ e)

      found : (j : ℕ) → j < k → p (at + j) ≡ true → not (eqb (number p at k) 0) ≡ true
      found j l t =
          not_in _ (is_false _ (λ z. clash (bit_of (number p at k) j) (bit_number p at k j l ∙ t) (rw (eqb-true (number p at k) 0 z) (bit_none j))))

-- ---- an operation on each bit
module _
    (f : ℕ → ℕ → ℕ) (g : Bool → Bool → Bool)
    (bit : (x y k : ℕ) → bit_of (f x y) k ≡ g (bit_of x k) (bit_of y k))
    (small : (k x y : ℕ) → x < 2 ^ k → y < 2 ^ k → f x y < 2 ^ k) where
  number_by : (p q : ℕ → Bool) (at k : ℕ) → f (number p at k) (number q at k) ≡ number (λ n. g (p n) (q n)) at k
  number_by p q at k =
      let both : ℕ → Bool = λ n. g (p n) (q n) in
      bits_ext k (f (number p at k) (number q at k)) (number both at k) (small k (number p at k) (number q at k) (number_lt p at k) (number_lt q at k))
      (number_lt both at k)
      (λ j l. bit (number p at k) (number q at k) j ∙ ap₂ g (bit_number p at k j l) (bit_number q at k j l) ∙ sym (bit_number both at k j l))

pub number_and : (p q : ℕ → Bool) (at k : ℕ) → bit_and (number p at k) (number q at k) ≡ number (λ n. p n && q n) at k
number_and = number_by bit_and (λ a b. a && b) bit_and_lem and_lt

pub number_or : (p q : ℕ → Bool) (at k : ℕ) → bit_or (number p at k) (number q at k) ≡ number (λ n. p n || q n) at k
number_or = number_by bit_or (λ a b. a || b) bit_or_lem or_lt

-- ---- the bytes of a mask
byte_number : (m : List ℕ) (i : ℕ) → get_or m i 0 < 256 → get_or m i 0 ≡ number (test_bit m) (8 * i) 8
byte_number m i h =
    bits_ext 8 (get_or m i 0) (number (test_bit m) (8 * i) 8) h (number_lt (test_bit m) (8 * i) 8)
    (λ j l. sym (bit_number (test_bit m) (8 * i) 8 j l ∙ test_at m i j l))

pub word_number : (m : List ℕ) (i : ℕ) → get_or m i 0 < 256 → get_or m (i + 1) 0 < 256 → get_or m i 0 + 256 * get_or m (i + 1) 0 ≡ number (test_bit m) (8 * i) 16
word_number m i low high =
    let s : 8 * (i + 1) ≡ 8 * i + 8 = omega arith in
    let up = rw s at (byte_number m (i + 1) high) in
    omega (arith, byte_number m i low, up, number_cut (test_bit m) (8 * i) 8 8)

-- ---- the bits of a number
pub number_bits : (k x : ℕ) → x < 2 ^ k → x ≡ number (bit_of x) 0 k
number_bits k x h =
    bits_ext k x (number (bit_of x) 0 k) h (number_lt (bit_of x) 0 k) (λ j l. sym (bit_number (bit_of x) 0 k j l ∙ ap (bit_of x) (zero-add j)))

pub bit_from : (p : ℕ → Bool) (k j : ℕ) → j < k → bit_of (number p 0 k) j ≡ p j
bit_from p k j l = bit_number p 0 k j l ∙ ap p (zero-add j)

-- the low bits, and those from one on
pub bit_low : (x k j : ℕ) → j < k → bit_of (x % 2 ^ k) j ≡ bit_of x j
bit_low x k j l = rw (number_low (bit_of x) x 0 k (λ i h. ap (bit_of x) (sym (zero-add i)))) (bit_from (bit_of x) k j l)

pub bit_field : (x s k j : ℕ) → j < k → bit_of (x / 2 ^ s % 2 ^ k) j ≡ bit_of x (s + j)
bit_field x s k j l = bit_low (x / 2 ^ s) k j l ∙ bit_high x s j

-- k has four bits of a word, from one on
abbrev pub Part : ℕ → ℕ → ℕ → Type 0
Part w s k = (q : ℕ) → q < 4 → bit_of k q ≡ bit_of w (s + q)

pub part_low : (w : ℕ) → Part w 0 (w % 16)
part_low w q h = bit_low w 4 q h ∙ ap (bit_of w) (sym (zero-add q))

pub part_field : (w s : ℕ) → Part w s (w / 2 ^ s % 16)
part_field w s q h = bit_field w s 4 q h

-- the values of a predicate from a number on, as those of one from 0 on
pub number_from : (p q : ℕ → Bool) (x at k : ℕ) → x ≡ number p at k → ((j : ℕ) → j < k → p (at + j) ≡ q j) → x ≡ number q 0 k
number_from p q x at k e same = e ∙ number_same q p 0 at k (λ j l. same j l ∙ ap q (sym (zero-add j)))

pub number_at : (p : ℕ → Bool) (x at from k : ℕ) → at ≡ from → x ≡ number p at k → x ≡ number p from k
number_at p x at from k e f = f ∙ ap (λ (i : ℕ). number p i k) e
