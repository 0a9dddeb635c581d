-- Bytes written over others from an offset on, and a number as the bytes that are written of it.
use Rattle.std.specs.Prelude.{ℕ, ◌+◌, ◌/◌, ◌%◌, List, [], ◌∷◌, ◌++◌, length, take, drop}

-- the bytes v in place of those of d from an offset on; the other bytes stay
unfoldable pub written : List ℕ → ℕ → List ℕ → List ℕ
written d at v = take at d ++ v ++ drop (at + length v) d

-- a two-byte number, high byte first
unfoldable pub two_bytes : ℕ → List ℕ
two_bytes n = n / 256 % 256 ∷ n % 256 ∷ []
