-- The bits of one number: what an operation does to each, that a number is its bits, and that `number` and `ones` agree with them.
-- For proofs over masks. Uses lib.Bits for shifts and remainders of the operations.
use mathlib.Core.Bool.{Bool, true, false, not, ◌&&◌, ◌||◌, beq}
use mathlib.Core.Path.{◌≡◌, refl, sym, ap, ap₂, ◌∙◌}
use Prim.Native.Nat.{ℕ, zero, suc, ◌+◌, ◌*◌, ◌-◌, ◌/◌, ◌%◌, ◌^◌, ◌<◌}
use native.Mathlib.Nat.{one-mul, pow-suc, add-zero, zero-add, add-suc, add_assoc, div-one, zero-div}
use native.Mathlib.Numerals.{one-add}
use native.Mathlib.Omega.{arith}
use lib.Bits.{bit_and, bit_or, bit_xor, and_shr, or_shr, xor_shr, and_mod, or_mod, xor_mod, and_le_l, or_lt, xor_lt}
use lib.Count.{ones, ones_step}
use lib.Dec.{eqb, eqb-zero-suc, eqb-suc-zero, eqb-suc-suc, lit<}
use lib.Pow.{shr-shr, shl_exact}
use Rattle.mask.specs.Bits.{bit_of, without}
use Rattle.mask.specs.Sets.{digit, count_below, number}

-- a bit that is shifted within the width loses nothing
pub one_shl : (width k : ℕ) → k < width → 1 * 2 ^ k % 2 ^ width ≡ 2 ^ k
one_shl width k h = shl_exact {a = 1} 1 k width (lit< tt) (omega arith) ∙ one-mul (2 ^ k)

-- what holds of the four pairs of digits
on_digits : (P : ℕ → ℕ → Type 0) → P 0 0 → P 0 1 → P 1 0 → P 1 1 → (x y : ℕ) → x < 2 → y < 2 → P x y
on_digits P a b c d zero zero h k = a
on_digits P a b c d zero (suc zero) h k = b
on_digits P a b c d zero (suc (suc y)) h k = absurd (omega arith)
on_digits P a b c d (suc zero) zero h k = c
on_digits P a b c d (suc zero) (suc zero) h k = d
on_digits P a b c d (suc zero) (suc (suc y)) h k = absurd (omega arith)
on_digits P a b c d (suc (suc x)) y h k = absurd (omega arith)

-- ---- an operation on numbers that is an operation on each bit
module _
    (f : ℕ → ℕ → ℕ) (g : Bool → Bool → Bool)
    (shr : (a b k : ℕ) → f a b / 2 ^ k ≡ f (a / 2 ^ k) (b / 2 ^ k))
    (low_bits : (a b k : ℕ) → f a b % 2 ^ k ≡ f (a % 2 ^ k) (b % 2 ^ k))
    (low : (x y : ℕ) → x < 2 → y < 2 → eqb (f x y) 1 ≡ g (eqb x 1) (eqb y 1)) where
  bit_by : (a b k : ℕ) → bit_of (f a b) k ≡ g (bit_of a k) (bit_of b k)
  unfolding bit_of
  bit_by a b k =
      ap (λ (x : ℕ). eqb (x % 2) 1) (shr a b k)
      ∙ ap (λ (x : ℕ). eqb x 1) (low_bits (a / 2 ^ k) (b / 2 ^ k) 1)
      ∙ low (a / 2 ^ k % 2) (b / 2 ^ k % 2) (omega arith) (omega arith)

pub bit_and_lem : (a b k : ℕ) → bit_of (bit_and a b) k ≡ (bit_of a k && bit_of b k)
bit_and_lem =
    bit_by bit_and (λ a b. a && b) and_shr and_mod
    (on_digits (λ x y. eqb (bit_and x y) 1 ≡ (eqb x 1 && eqb y 1)) refl refl refl refl)

pub bit_or_lem : (a b k : ℕ) → bit_of (bit_or a b) k ≡ (bit_of a k || bit_of b k)
bit_or_lem =
    bit_by bit_or (λ a b. a || b) or_shr or_mod
    (on_digits (λ x y. eqb (bit_or x y) 1 ≡ (eqb x 1 || eqb y 1)) refl refl refl refl)

pub bit_xor_lem : (a b k : ℕ) → bit_of (bit_xor a b) k ≡ not (beq (bit_of a k) (bit_of b k))
bit_xor_lem =
    bit_by bit_xor (λ a b. not (beq a b)) xor_shr xor_mod
    (on_digits (λ x y. eqb (bit_xor x y) 1 ≡ not (beq (eqb x 1) (eqb y 1))) refl refl refl refl)

taken : (a b : Bool) → not (beq a (a && b)) ≡ (a && not b)
taken true true = refl
taken true false = refl
taken false true = refl
taken false false = refl

pub bit_without : (a b k : ℕ) → bit_of (without a b) k ≡ (bit_of a k && not (bit_of b k))
unfolding without
bit_without a b k =
    bit_xor_lem a (bit_and a b) k ∙ ap (λ (t : Bool). not (beq (bit_of a k) t)) (bit_and_lem a b k) ∙ taken (bit_of a k) (bit_of b k)

-- ---- bit 0, and the bits above it
pub bit_zero : (x : ℕ) → bit_of x 0 ≡ eqb (x % 2) 1
unfolding bit_of
bit_zero x = ap (λ (y : ℕ). eqb (y % 2) 1) (div-one x)

pub bit_suc : (x k : ℕ) → bit_of x (suc k) ≡ bit_of (x / 2) k
unfolding bit_of
bit_suc x k = ap (λ (y : ℕ). eqb (y % 2) 1) (ap (λ (j : ℕ). x / 2 ^ j) (sym (one-add k)) ∙ sym (shr-shr x 1 k))

pub bit_none : (k : ℕ) → bit_of 0 k ≡ false
unfolding bit_of
bit_none k = ap (λ (y : ℕ). eqb (y % 2) 1) (zero-div (2 ^ k))

pub bit_power : (j k : ℕ) → bit_of (2 ^ j) k ≡ eqb j k
bit_power zero zero = bit_zero 1
bit_power zero (suc k) = bit_suc 1 k ∙ bit_none k ∙ sym (eqb-zero-suc k)
bit_power (suc j) zero =
    let e : 2 ^ suc j % 2 ≡ 0 = omega (arith, pow-suc 2 j) in
    bit_zero (2 ^ suc j) ∙ ap (λ (y : ℕ). eqb y 1) e ∙ sym (eqb-suc-zero j)
bit_power (suc j) (suc k) =
    let e : 2 ^ suc j / 2 ≡ 2 ^ j = omega (arith, pow-suc 2 j) in
    bit_suc (2 ^ suc j) k ∙ ap (λ (y : ℕ). bit_of y k) e ∙ bit_power j k ∙ sym (eqb-suc-suc j k)

-- ---- a number below 2 ^ k is its k lowest bits
same_digit : (x y : ℕ) → x < 2 → y < 2 → eqb x 1 ≡ eqb y 1 → x ≡ y
same_digit =
    on_digits (λ x y. eqb x 1 ≡ eqb y 1 → x ≡ y) (λ e. refl) (λ e. cc) (λ e. cc) (λ e. refl)

pub bits_ext : (k a b : ℕ) → a < 2 ^ k → b < 2 ^ k → ((j : ℕ) → j < k → bit_of a j ≡ bit_of b j) → a ≡ b
bits_ext zero a b p q e = omega arith
bits_ext (suc k) a b p q e =
    let h : a / 2 < 2 ^ k = omega (arith, pow-suc 2 k) in
    let h' : b / 2 < 2 ^ k = omega (arith, pow-suc 2 k) in
    let up : a / 2 ≡ b / 2 = bits_ext k (a / 2) (b / 2) h h' (λ j l. sym (bit_suc a j) ∙ e (suc j) (omega arith) ∙ bit_suc b j) in
    let low : a % 2 ≡ b % 2 = same_digit (a % 2) (b % 2) (omega arith) (omega arith) (sym (bit_zero a) ∙ e 0 (omega arith) ∙ bit_zero b) in
    omega arith

-- ---- bytes
pub or_byte : (x y : ℕ) → x < 256 → y < 256 → bit_or x y < 256
or_byte x y p q = or_lt 8 x y p q

pub and_byte : (x y : ℕ) → x < 256 → bit_and x y < 256
and_byte x y p = omega (arith, and_le_l x y)

pub without_byte : (x y : ℕ) → x < 256 → without x y < 256
unfolding without
without_byte x y p = xor_lt 8 x (bit_and x y) p (and_byte x y p)

pub xor_byte : (x y : ℕ) → x < 256 → y < 256 → bit_xor x y < 256
xor_byte x y p q = xor_lt 8 x y p q

-- the complement of k bits has the other bits
bit_complement : (k y j : ℕ) → y < 2 ^ k → j < k → bit_of ((2 ^ k - 1) - y) j ≡ not (bit_of y j)
bit_complement zero y j h l = absurd (omega arith)
bit_complement (suc k) y zero h l =
    let e : ((2 ^ suc k - 1) - y) % 2 ≡ 1 - y % 2 = omega (arith, pow-suc 2 k) in
    bit_zero ((2 ^ suc k - 1) - y) ∙ ap (λ (x : ℕ). eqb x 1) e
    ∙ on_digits (λ x z. eqb (1 - x) 1 ≡ not (eqb x 1)) refl refl refl refl (y % 2) 0 (omega arith) (omega arith)
    ∙ ap not (sym (bit_zero y))
bit_complement (suc k) y (suc j) h l =
    let e : ((2 ^ suc k - 1) - y) / 2 ≡ (2 ^ k - 1) - y / 2 = omega (arith, pow-suc 2 k) in
    bit_suc ((2 ^ suc k - 1) - y) j ∙ ap (λ (x : ℕ). bit_of x j) e
    ∙ bit_complement k (y / 2) j (omega (arith, pow-suc 2 k)) (omega arith)
    ∙ ap not (sym (bit_suc y j))

-- what `x & !y` computes of two bytes
pub and_not : (x y : ℕ) → x < 256 → y < 256 → bit_and x (255 - y) ≡ without x y
and_not x y p q =
    bits_ext 8 (bit_and x (255 - y)) (without x y) (and_byte x (255 - y) p) (without_byte x y p)
    (λ j l. bit_and_lem x (255 - y) j ∙ ap (λ (t : Bool). bit_of x j && t) (bit_complement 8 y j q l) ∙ sym (bit_without x y j))

-- ---- `number`
digit_lt : (b : Bool) → digit b < 2
unfolding digit
digit_lt true = lit< tt
digit_lt false = lit< tt

pub digit_one : (b : Bool) → eqb (digit b) 1 ≡ b
unfolding digit
digit_one true = refl
digit_one false = refl

digit_bit : (x : ℕ) → digit (bit_of x 0) ≡ x % 2
unfolding digit
digit_bit x =
    ap digit (bit_zero x) ∙ on_digits (λ y z. digit (eqb y 1) ≡ y) refl refl refl refl (x % 2) 0 (omega arith) (omega arith)

module _ (p : ℕ → Bool) where
  pub number_lt : (at k : ℕ) → number p at k < 2 ^ k
  unfolding number
  number_lt at zero = lit< tt
  number_lt at (suc k) = omega (arith, pow-suc 2 k, number_lt (suc at) k, digit_lt (p at))

  pub bit_number : (at k j : ℕ) → j < k → bit_of (number p at k) j ≡ p (at + j)
  unfolding number
  bit_number at zero j h = absurd (omega arith)
  bit_number at (suc k) zero h =
      let e : (digit (p at) + 2 * number p (suc at) k) % 2 ≡ digit (p at) = omega (arith, digit_lt (p at)) in
      bit_zero (digit (p at) + 2 * number p (suc at) k) ∙ ap (λ (x : ℕ). eqb x 1) e ∙ digit_one (p at) ∙ ap p (sym (add-zero at))
  bit_number at (suc k) (suc j) h =
      let e : (digit (p at) + 2 * number p (suc at) k) / 2 ≡ number p (suc at) k = omega (arith, digit_lt (p at)) in
      let s : suc at + j ≡ at + suc j = omega arith in
      bit_suc (digit (p at) + 2 * number p (suc at) k) j ∙ ap (λ (x : ℕ). bit_of x j) e ∙ bit_number (suc at) k j (omega arith) ∙ ap p s

-- ---- counting
pub count_same : (n : ℕ) (p q : ℕ → Bool) → ((j : ℕ) → j < n → p j ≡ q j) → count_below n p ≡ count_below n q
unfolding count_below
count_same zero p q e = refl
count_same (suc n) p q e =
    ap₂ (λ (x y : ℕ). x + y) (count_same n p q (λ j l. e j (omega arith))) (ap digit (e n (omega arith)))

-- the numbers below a + b are those below a, and those from a on
pub count_split : (a b : ℕ) (p : ℕ → Bool) → count_below (a + b) p ≡ count_below a p + count_below b (λ j. p (a + j))
unfolding count_below
count_split a zero p = ap (λ (n : ℕ). count_below n p) (add-zero a) ∙ sym (add-zero (count_below a p))
count_split a (suc b) p =
    ap (λ (n : ℕ). count_below n p) (add-suc a b) ∙ ap (λ (x : ℕ). x + digit (p (a + b))) (count_split a b p)
    ∙ add_assoc (count_below a p) (count_below b (λ j. p (a + j))) (digit (p (a + b)))

count_up : (k x : ℕ) → count_below k (bit_of (x / 2)) ≡ count_below k (λ j. bit_of x (1 + j))
count_up k x = count_same k (bit_of (x / 2)) (λ j. bit_of x (1 + j)) (λ j l. sym (ap (bit_of x) (one-add j) ∙ bit_suc x j))

-- a number below 2 ^ k has as many ones as set bits below k
pub ones_bits : (k x : ℕ) → x < 2 ^ k → ones x ≡ count_below k (bit_of x)
unfolding count_below ones
ones_bits zero x h =
    let e : x ≡ 0 = omega arith in
    ap ones e
ones_bits (suc k) x h =
    let low = sym (zero-add (digit (bit_of x 0)) ∙ digit_bit x) in
    let up = ones_bits k (x / 2) (omega (arith, pow-suc 2 k)) ∙ count_up k x in
    ones_step x ∙ ap₂ (λ (a b : ℕ). a + b) low up ∙ sym (count_split 1 k (bit_of x)) ∙ ap (λ (n : ℕ). count_below n (bit_of x)) (one-add k)
