-- Bytes and two-byte numbers of an input, read at an offset. Past the end each byte reads as 0, so that reading is total.
use Rattle.std.specs.Prelude.{ℕ, ◌+◌, ◌*◌, List, get_or}

unfoldable pub byte_at : List ℕ → ℕ → ℕ
byte_at s i = get_or s i 0

-- high byte first
unfoldable pub two : List ℕ → ℕ → ℕ
two s at = byte_at s at * 256 + byte_at s (at + 1)
