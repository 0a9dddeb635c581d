-- The head of a record: how many objects it has, how many steps, and how many bytes.
use Rattle.std.specs.Prelude.{ℕ, ◌+◌, List}
use Rattle.input.specs.Bytes.{byte_at, two}
use Rattle.terms.specs.declared.Head.{Head}

unfoldable pub head_of : List ℕ → ℕ → Head
head_of s at = record { objects = byte_at s at; steps = byte_at s (at + 1); length = two s (at + 2) }
