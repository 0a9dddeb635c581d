-- Masks laid end to end: which of them an element lies in. Uses lib's laws of joined lists.
use mathlib.Core.List.{List, ◌++◌}
use mathlib.Core.Path.{◌≡◌, ap, ap₂, ◌∙◌}
use Prim.Native.Nat.{ℕ, ◌+◌, ◌*◌, ◌/◌, ◌%◌, ◌<◌}
use native.Mathlib.Omega.{arith}
use lib.ListN.{length, get_or, get_or-append}
use lib.Seq.{get_or-append-add}
use Rattle.mask.specs.Bits.{bit_of, test_bit}

pub test_left : (a b : List ℕ) (n : ℕ) → n < 8 * length a → test_bit (a ++ b) n ≡ test_bit a n
unfolding test_bit
test_left a b n h = ap (λ (x : ℕ). bit_of x (n % 8)) (get_or-append a b 0 (n / 8) (omega arith))

-- `at` is where the second begins
pub test_right : (a b : List ℕ) (at n : ℕ) → at ≡ 8 * length a → test_bit (a ++ b) (at + n) ≡ test_bit b n
unfolding test_bit
test_right a b at n h =
    let d : (at + n) / 8 ≡ length a + n / 8 = omega arith in
    let r : (at + n) % 8 ≡ n % 8 = omega arith in
    ap₂ (λ (x y : ℕ). bit_of (get_or (a ++ b) x 0) y) d r ∙ ap (λ (x : ℕ). bit_of x (n % 8)) (get_or-append-add a b (n / 8) 0)
