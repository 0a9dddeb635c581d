-- Cases of records without steps, like the marked ones.
use Rattle.std.specs.Prelude.{ℕ, List, [], ◌∷◌, ◌++◌, take, drop, replicate}
use Rattle.limits.specs.Limits.{end_sheet_size}
use Rattle.format.specs.Form.{full, short}
use Rattle.format.specs.LookOver.{look_over}
use Rattle.jobs.specs.Learn.{learn}
use Rattle.jobs.specs.Check.{check}
use Rattle.jobs.specs.Add.{add, add_bytes}
use Rattle.jobs.specs.Convert.{convert}
use Rattle.cases.specs.Marked.{book, hall_of, rolls_of, Case, said, said_at}
use Rattle.cases.specs.Shorts.{short_book}

-- the small hall with other bytes in place of its record
abbrev filed : List ℕ → List ℕ
filed r = hall_of 1 r

-- a record of a bank and two spots without a step: the state before the roll of the small hall. It is told the length that its head says, and the
-- kind of the bank.
abbrev nothing : ℕ → ℕ → List ℕ
nothing size kind =
    0x03 ∷ 0x00 ∷ 0x00 ∷ size ∷ kind ∷ 0x02 ∷ 0x02 ∷ 0x00 ∷ 0x02 ∷ 0x01 ∷ 0x01 ∷ 0x02 ∷ 0x02 ∷ 0x03 ∷ 0x00 ∷ []

abbrev unstepped : List ℕ
unstepped = nothing 15 1

-- the record of the small hall, which has a step, with a step count of 0
abbrev uncounted : List ℕ
uncounted = 0x03 ∷ 0x00 ∷ drop 32 book

-- the small hall with the record `unstepped` behind its own
abbrev stepped : List ℕ
stepped = take 6 book ++ (0x00 ∷ 0x02 ∷ take 6 (drop 8 book)) ++ (0x00 ∷ 0x49 ∷ drop 16 book) ++ unstepped

-- A record without a step, in a book of either form, looked over, learned from with a sheet that is too short, checked from and converted; as the second
-- one; added in either form, to an output that stays; a step count of 0 where there is a step; then with a length past the end of the book, and under
-- 4, and cut, which is 6 each time; and with an object of no kind.
abbrev pub records_of_nothing : List Case
records_of_nothing =
    record { gives = said (look_over full (filed unstepped)); wanted = 24 ∷ 30 ∷ [] }
    ∷ record { gives = said (look_over short (filed unstepped)); wanted = 24 ∷ 30 ∷ [] }
    ∷ record { gives = said (learn full (filed unstepped) 0); wanted = 24 ∷ 30 ∷ [] }
    ∷ record { gives = said_at (check full (filed unstepped) (rolls_of 1) end_sheet_size); wanted = 24 ∷ 30 ∷ 0 ∷ [] }
    ∷ record { gives = said (convert short (filed unstepped) 0); wanted = 24 ∷ 30 ∷ [] }
    ∷ record { gives = said (look_over full stepped); wanted = 24 ∷ 58 ∷ [] }
    ∷ record { gives = said (add full book unstepped 73); wanted = 24 ∷ 58 ∷ [] }
    ∷ record { gives = said (add short short_book unstepped 79); wanted = 24 ∷ 64 ∷ [] }
    ∷ record { gives = add_bytes full book unstepped (replicate 73 0xff); wanted = replicate 73 0xff }
    ∷ record { gives = said (look_over full (filed uncounted)); wanted = 24 ∷ 30 ∷ [] }
    ∷ record { gives = said (look_over full (filed (nothing 16 1))); wanted = 6 ∷ 30 ∷ [] }
    ∷ record { gives = said (look_over full (filed (nothing 3 1))); wanted = 6 ∷ 30 ∷ [] }
    ∷ record { gives = said (look_over full (filed (take 3 unstepped))); wanted = 6 ∷ 30 ∷ [] }
    ∷ record { gives = said (look_over full (filed (nothing 15 9))); wanted = 24 ∷ 30 ∷ [] }
    ∷ []
