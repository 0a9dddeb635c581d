-- Byte masks, one bit at a time. A mask is a set of numbers: n is in it if the bit of value 2 ^ (n mod 8) in byte n div 8 is 1.
-- A byte past the end reads as 0 and a store there changes nothing, so no definition has a condition. Uses lib's lists and bit operations alone.
use Rattle.std.specs.Prelude.{Bool, true, false, List, ℕ, ◌/◌, ◌%◌, ◌^◌, ◌<◌, eqb, get_or, set}
use Rattle.std.specs.Int.Bits.{bit_and, bit_or, bit_xor}

-- bit k of a number, the lowest being bit 0
unfoldable pub bit_of : ℕ → ℕ → Bool
bit_of x k = eqb (x / 2 ^ k % 2) 1

-- the bits of x that y has not: `x & !y`, with no width
unfoldable pub without : ℕ → ℕ → ℕ
without x y = bit_xor x (bit_and x y)

-- is n in the mask?
unfoldable pub test_bit : List ℕ → ℕ → Bool
test_bit m n = bit_of (get_or m (n / 8) 0) (n % 8)

-- the mask with n put in
unfoldable pub set_bit : List ℕ → ℕ → List ℕ
set_bit m n = set m (n / 8) (bit_or (get_or m (n / 8) 0) (2 ^ (n % 8)))

-- the mask with n taken out
unfoldable pub clear_bit : List ℕ → ℕ → List ℕ
clear_bit m n = set m (n / 8) (without (get_or m (n / 8) 0) (2 ^ (n % 8)))

-- the mask with n taken out where it was in, put in where it was not
unfoldable pub flip_bit : List ℕ → ℕ → List ℕ
flip_bit m n = set m (n / 8) (bit_xor (get_or m (n / 8) 0) (2 ^ (n % 8)))

-- the mask with n put in where the value is true, taken out where it is false
unfoldable pub put_bit : Bool → List ℕ → ℕ → List ℕ
put_bit true m n = set_bit m n
put_bit false m n = clear_bit m n

-- every element of the list is a byte
abbrev pub Bytes : List ℕ → Type 0
Bytes m = (i : ℕ) → get_or m i 0 < 256
