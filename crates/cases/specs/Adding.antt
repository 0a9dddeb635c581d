-- Cases of adding a record, like the marked ones.
use Rattle.std.specs.Prelude.{ℕ, List, [], ◌∷◌, ◌++◌, take, drop, replicate}
use Rattle.format.specs.Form.{full}
use Rattle.jobs.specs.Add.{add, add_bytes}
use Rattle.cases.specs.Marked.{book, book6, Case, said}

-- the record of the small hall, which M6 leaves out
abbrev recorded : List ℕ
recorded = drop 30 book

-- The record, taken out and added again, gives the small hall back: the output is long enough, or just long enough, or a byte short; a record cut
-- short is refused in the new book; a byte of the output beyond the new book stays.
abbrev pub records_added : List Case
records_added =
    record { gives = said (add full book6 recorded 59); wanted = 0 ∷ 58 ∷ [] }
    ∷ record { gives = said (add full book6 recorded 58); wanted = 0 ∷ 58 ∷ [] }
    ∷ record { gives = said (add full book6 recorded 57); wanted = 13 ∷ 0 ∷ [] }
    ∷ record { gives = said (add full book6 (take 2 recorded) 58); wanted = 6 ∷ 30 ∷ [] }
    ∷ record { gives = add_bytes full book6 recorded (replicate 59 0xff); wanted = book ++ (0xff ∷ []) }
    ∷ []
