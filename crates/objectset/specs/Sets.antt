-- Sets of objects as numbers, and tables of them. Uses the bits of mask.
use Rattle.std.specs.Prelude.{ℕ, ◌^◌, ◌%◌, Bool, ◌&&◌, List, ltb, get_or, set}
use Rattle.std.specs.Int.Bits.{bit_or}
use Rattle.mask.specs.Bits.{bit_of}
use Rattle.objectset.specs.declared.Asked.{Asked}

-- object x is in the set: the bit of value 2 ^ x is 1. A set has objects 0 to 31; object 0 stands for an unused place
unfoldable pub member : ℕ → ℕ → Bool
member m x = ltb x 32 && bit_of m (x % 32)

-- whether the object is in its set
unfoldable pub is_in : Asked → Bool
is_in a = member a.set a.object

-- the set at an index of a table; none past the end
unfoldable pub entry : List ℕ → ℕ → ℕ
entry t i = get_or t i 0

-- a table with object x put into the set at an index
unfoldable pub put : List ℕ → ℕ → ℕ → List ℕ
put t i x = set t i (bit_or (entry t i) (2 ^ x))

-- a table with a set stored
unfoldable pub stored : List ℕ → ℕ → ℕ → List ℕ
stored t i m = set t i m
