-- Cases of an order with each of its starts alone, like the marked ones: the bytes of the orders that have one start each, and what their checks come to.
use Rattle.std.specs.Prelude.{ℕ}
use mathlib.Core.List.{List, [], ◌∷◌, ◌++◌, map, flatten}
use Rattle.limits.specs.Limits.{end_sheet_size}
use Rattle.format.specs.Form.{full}
use Rattle.jobs.specs.Check.{check}
use Rattle.jobs.specs.Alone.{alone}
use Rattle.cases.specs.Marked.{book, Case, said_at}
use Rattle.cases.specs.Further.{passing_start, stopping_start, from_starts, roll, roll_twice}

-- what the checks from each start alone come to, one after the other
abbrev said_alone : List ℕ → List ℕ
said_alone o = flatten (map (λ p. said_at (check full book p end_sheet_size)) (alone o))

-- two starts, of which the second is longer, and the only start of an order; then the checks of these: the second alone fails by 19, where the order is
-- refused with position 2; the first by 20 and the second by 19, where the order is refused by 20; both pass
abbrev pub starts_alone : List Case
starts_alone =
    record { gives = flatten (alone (from_starts 2 (passing_start ++ stopping_start) roll_twice)); wanted = from_starts 1 passing_start roll_twice ++ from_starts 1 stopping_start roll_twice }
    ∷ record { gives = flatten (alone (from_starts 1 stopping_start roll)); wanted = from_starts 1 stopping_start roll }
    ∷ record { gives = said_alone (from_starts 2 (passing_start ++ stopping_start) roll_twice); wanted = 0 ∷ 2 ∷ 0 ∷ 19 ∷ 1 ∷ 1 ∷ [] }
    ∷ record { gives = said_alone (from_starts 2 (passing_start ++ stopping_start) roll); wanted = 20 ∷ 1 ∷ 1 ∷ 19 ∷ 1 ∷ 1 ∷ [] }
    ∷ record { gives = said_alone (from_starts 2 (passing_start ++ passing_start) roll_twice); wanted = 0 ∷ 2 ∷ 0 ∷ 0 ∷ 2 ∷ 0 ∷ [] }
    ∷ []
