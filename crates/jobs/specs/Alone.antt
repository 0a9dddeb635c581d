-- The orders that have one start of an order each, as bytes: "from each start alone" is said of these (demand/specs/EachStart.antt). No code makes them.
use Rattle.std.specs.Prelude.{ℕ, zero, suc, ◌+◌, ◌*◌, List, [], ◌∷◌, ◌++◌, take, drop}
use Rattle.limits.specs.Limits.{count_size, fact_size, entry_size}
use Rattle.input.specs.Bytes.{two}
use Rattle.output.specs.Written.{written, two_bytes}
use Rattle.format.specs.Lists.{list_end}
use Rattle.format.specs.Order.{start_count, goal_count, start_at, goal_at}

-- how many bytes the start at an offset has: a count, and its facts
unfoldable pub start_size : List ℕ → ℕ → ℕ
start_size o at = count_size + fact_size * two o at

-- where the goal entries begin if no other start stands before them
unfoldable pub goal_alone : List ℕ → ℕ → ℕ
goal_alone o at = start_at o + start_size o at

-- the order's bytes with the start at an offset, and no other
unfoldable pub left_alone : List ℕ → ℕ → List ℕ
left_alone o at = take (start_at o) o ++ (take (start_size o at) (drop at o) ++ drop (goal_at o) o)

-- the same with a header that says so: bytes 2 and 3 the count of starts, 12 and 13 the offset of the goal entries, 14 and 15 that of the steps
unfoldable pub alone_at : List ℕ → ℕ → List ℕ
alone_at o at =
    written (written (written (left_alone o at) 2 (two_bytes 1)) 12 (two_bytes (goal_alone o at))) 14 (two_bytes (goal_alone o at + entry_size * goal_count o))

-- a number of starts from an offset on, each alone
unfoldable pub alone_from : List ℕ → ℕ → ℕ → List (List ℕ)
alone_from o zero at = []
alone_from o (suc n) at = alone_at o at ∷ alone_from o n (list_end o at)

-- all starts of the order in file order, each alone
unfoldable pub alone : List ℕ → List (List ℕ)
alone o = alone_from o (start_count o) (start_at o)
