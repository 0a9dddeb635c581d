-- Byte masks as whole sets: union, intersection, difference, the empty set, size, and the set of a predicate.
-- Uses Bits.antt for the bits of a byte, and lib's lists and counts.
use Rattle.std.specs.Prelude.{Bool, true, false, List, [], ◌∷◌, ℕ, zero, suc, ◌+◌, ◌*◌, replicate}
use Rattle.std.specs.Int.Bits.{bit_and, bit_or}
use Rattle.std.specs.Int.Count.{ones}
use Rattle.mask.specs.Bits.{without}

-- Byte i of a with byte i of b. The result is as long as a: bytes that b lacks read as 0, and bytes that a lacks are left out.
unfoldable pub bytewise : (ℕ → ℕ → ℕ) → List ℕ → List ℕ → List ℕ
bytewise f [] b = []
bytewise f (x ∷ a) [] = f x 0 ∷ bytewise f a []
bytewise f (x ∷ a) (y ∷ b) = f x y ∷ bytewise f a b

unfoldable pub intersection : List ℕ → List ℕ → List ℕ
intersection a b = bytewise bit_and a b

unfoldable pub union : List ℕ → List ℕ → List ℕ
union a b = bytewise bit_or a b

unfoldable pub difference : List ℕ → List ℕ → List ℕ
difference a b = bytewise without a b

-- the mask of so many bytes with nothing in it
unfoldable pub empty : ℕ → List ℕ
empty len = replicate len 0

-- how many numbers are in the mask
unfoldable pub cardinality : List ℕ → ℕ
cardinality [] = 0
cardinality (x ∷ m) = ones x + cardinality m

unfoldable pub digit : Bool → ℕ
digit true = 1
digit false = 0

-- how many numbers below n have the property
unfoldable pub count_below : ℕ → (ℕ → Bool) → ℕ
count_below zero p = 0
count_below (suc n) p = count_below n p + digit (p n)

-- the number of k bits whose bit j is `p (at + j)`
unfoldable pub number : (ℕ → Bool) → ℕ → ℕ → ℕ
number p at zero = 0
number p at (suc k) = digit (p at) + 2 * number p (suc at) k

-- the bytes whose bits are p's values from `at` on
unfoldable pub bytes_from : (ℕ → Bool) → ℕ → ℕ → List ℕ
bytes_from p at zero = []
bytes_from p at (suc len) = number p at 8 ∷ bytes_from p (at + 8) len

-- The mask of len bytes of all n < 8 * len with the property. `unfolding mask_of` is enough to compute it.
unfoldable pub mask_of : ℕ → (ℕ → Bool) → List ℕ
unfolding digit number bytes_from
mask_of len p = bytes_from p 0 len
