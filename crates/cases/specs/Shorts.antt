-- Cases of short books, like the marked ones.
use Rattle.std.specs.Prelude.{ℕ, ◌+◌, ◌*◌, ◌/◌, ◌%◌, List, [], ◌∷◌, ◌++◌, replicate}
use Rattle.limits.specs.Limits.{rule_size, end_sheet_size}
use Rattle.format.specs.Form.{full, short}
use Rattle.format.specs.LookOver.{look_over}
use Rattle.jobs.specs.Learn.{learn, learn_bytes}
use Rattle.jobs.specs.Check.{check}
use Rattle.jobs.specs.Add.{add}
use Rattle.jobs.specs.Convert.{convert, convert_bytes}
use Rattle.cases.specs.Marked.{book, rolls_of, Case, said, said_at, pairs}
use Rattle.cases.specs.Further.{rules, lent_rules}

-- the small hall as a short book: the step turns four facts, the bank at 2 and at 3, spots 2 and 3 clear
abbrev pub short_book : List ℕ
short_book =
    0x00 ∷ 0x02 ∷ 0x00 ∷ 0x02 ∷ 0x00 ∷ 0x01 ∷ 0x00 ∷ 0x01 ∷ 0x00 ∷ 0x10 ∷ 0x00 ∷ 0x18
    ∷ 0x00 ∷ 0x1e ∷ 0x00 ∷ 0x40 ∷ 0x02 ∷ 0x01 ∷ 0x02 ∷ 0x00 ∷ 0x01 ∷ 0x02 ∷ 0x00 ∷ 0x00
    ∷ 0x03 ∷ 0x01 ∷ 0x02 ∷ 0x02 ∷ 0x00 ∷ 0x00 ∷ 0x03 ∷ 0x01 ∷ 0x00 ∷ 0x22 ∷ 0x01 ∷ 0x02
    ∷ 0x02 ∷ 0x00 ∷ 0x02 ∷ 0x01 ∷ 0x01 ∷ 0x02 ∷ 0x02 ∷ 0x03 ∷ 0x00 ∷ 0x01 ∷ 0x01 ∷ 0x02
    ∷ 0x03 ∷ 0x00 ∷ 0x00 ∷ 0x04 ∷ 0x01 ∷ 0x01 ∷ 0x02 ∷ 0x01 ∷ 0x01 ∷ 0x03 ∷ 0x02 ∷ 0x02
    ∷ 0x00 ∷ 0x02 ∷ 0x03 ∷ 0x00 ∷ []

-- a record of the small hall that rolls the bank from 2 to 3 and back, each time the same four facts turning
abbrev there_and_back : List ℕ
there_and_back =
    (0x03 ∷ 0x02 ∷ 0x00 ∷ 0x35 ∷ 0x01 ∷ 0x02 ∷ 0x02 ∷ 0x00 ∷ 0x02 ∷ 0x01 ∷ 0x01 ∷ 0x02 ∷ 0x02 ∷ 0x03 ∷ 0x00 ∷ [])
    ++ (0x01 ∷ 0x01 ∷ 0x02 ∷ 0x03 ∷ 0x00 ∷ 0x00 ∷ 0x04 ∷ 0x01 ∷ 0x01 ∷ 0x02 ∷ 0x01 ∷ 0x01 ∷ 0x03 ∷ 0x02 ∷ 0x02 ∷ 0x00 ∷ 0x02 ∷ 0x03 ∷ 0x00 ∷ [])
    ++ (0x01 ∷ 0x01 ∷ 0x03 ∷ 0x02 ∷ 0x00 ∷ 0x00 ∷ 0x04 ∷ 0x01 ∷ 0x01 ∷ 0x02 ∷ 0x01 ∷ 0x01 ∷ 0x03 ∷ 0x02 ∷ 0x02 ∷ 0x00 ∷ 0x02 ∷ 0x03 ∷ 0x00 ∷ [])

-- the small hall with that record alone
abbrev short_twice : List ℕ
short_twice =
    0x00 ∷ 0x02 ∷ 0x00 ∷ 0x02 ∷ 0x00 ∷ 0x01 ∷ 0x00 ∷ 0x01 ∷ 0x00 ∷ 0x10 ∷ 0x00 ∷ 0x18
    ∷ 0x00 ∷ 0x1e ∷ 0x00 ∷ 0x53 ∷ 0x02 ∷ 0x01 ∷ 0x02 ∷ 0x00 ∷ 0x01 ∷ 0x02 ∷ 0x00 ∷ 0x00
    ∷ 0x03 ∷ 0x01 ∷ 0x02 ∷ 0x02 ∷ 0x00 ∷ 0x00 ∷ there_and_back

-- the rules of the same bytes read as a full book: the bank is at both spots after the first step, and the second changes nothing
abbrev rules_as_full : List ℕ
rules_as_full = (0x02 ∷ 0x00 ∷ 0x00 ∷ 0x01 ∷ replicate 60 0) ++ (0x04 ∷ 0x00 ∷ 0x10 ∷ 0x00 ∷ replicate 60 0)

-- A book of relations 1 of no places, 2 and 3 of two places over 16 objects, and 4 of no places; a move of no parameters; and one record with a
-- first state of `n` facts, and one step with a list of `m`.
abbrev pub crowd : ℕ → List ℕ → ℕ → List ℕ → List ℕ
crowd n first m turned =
    (0 ∷ 1 ∷ 0 ∷ 4 ∷ 0 ∷ 1 ∷ 0 ∷ 1 ∷ 0 ∷ 16 ∷ 0 ∷ 32 ∷ 0 ∷ 38 ∷ (67 + 3 * (n + m)) / 256 ∷ (67 + 3 * (n + m)) % 256 ∷ [])
    ++ (0 ∷ 0 ∷ 0 ∷ 0 ∷ 2 ∷ 1 ∷ 1 ∷ 0 ∷ 2 ∷ 1 ∷ 1 ∷ 0 ∷ 0 ∷ 0 ∷ 0 ∷ 0 ∷ [])
    ++ (0 ∷ 0 ∷ 0 ∷ 0 ∷ 0 ∷ 0 ∷ [])
    ++ (16 ∷ 1 ∷ (29 + 3 * (n + m)) / 256 ∷ (29 + 3 * (n + m)) % 256 ∷ replicate 16 1)
    ++ (n / 256 ∷ n % 256 ∷ first)
    ++ (1 ∷ 0 ∷ 0 ∷ 0 ∷ 0 ∷ m / 256 ∷ m % 256 ∷ turned)

-- all facts of relation 2, of relation 3, and the fact of relation 1 or 4
abbrev pub all : ℕ → List ℕ
all relation = pairs relation 16 256 0

abbrev pub single : ℕ → List ℕ
single relation = relation ∷ 0 ∷ 0 ∷ []

-- The small hall converted, there and back, into an output that is longer, just long enough and too short; learned and checked from in both forms;
-- a record added in the book's form; then two steps, each from the state that the one before it leaves, and the same bytes as a full book; lists
-- that leave 257 facts, that go over 256 and come back, of 512 facts and of 513, whose count is refused before a fact that is wrong; and a list
-- that is refused at a fact though it would leave 257.
abbrev pub short_books : List Case
short_books =
    record { gives = convert_bytes short book (replicate 66 0xff); wanted = short_book ++ (0xff ∷ 0xff ∷ []) }
    ∷ record { gives = said (convert short book 64); wanted = 0 ∷ 64 ∷ [] }
    ∷ record { gives = said (convert short book 63); wanted = 13 ∷ 0 ∷ [] }
    ∷ record { gives = convert_bytes short book (replicate 63 0xff); wanted = replicate 63 0xff }
    ∷ record { gives = convert_bytes full short_book (replicate 60 0xff); wanted = book ++ (0xff ∷ 0xff ∷ []) }
    ∷ record { gives = said (convert full short_book 58); wanted = 0 ∷ 58 ∷ [] }
    ∷ record { gives = said (look_over short short_book); wanted = 0 ∷ 1 ∷ [] }
    ∷ record { gives = learn_bytes short short_book lent_rules; wanted = rules }
    ∷ record { gives = said_at (check short short_book (rolls_of 1) end_sheet_size); wanted = 0 ∷ 2 ∷ 0 ∷ [] }
    ∷ record { gives = said (add short short_book there_and_back 117); wanted = 0 ∷ 117 ∷ [] }
    ∷ record { gives = said (learn short short_twice rule_size); wanted = 0 ∷ 2 ∷ [] }
    ∷ record { gives = learn_bytes short short_twice lent_rules; wanted = rules }
    ∷ record { gives = learn_bytes full short_twice lent_rules; wanted = rules_as_full }
    ∷ record { gives = said (look_over short (crowd 256 (all 2) 1 (single 4))); wanted = 8 ∷ 833 ∷ [] }
    ∷ record { gives = said (look_over short (crowd 256 (all 2) 2 (single 1 ++ (2 ∷ 1 ∷ 1 ∷ [])))); wanted = 0 ∷ 1 ∷ [] }
    ∷ record { gives = said (look_over short (crowd 256 (all 2) 512 (all 2 ++ all 3))); wanted = 0 ∷ 1 ∷ [] }
    ∷ record { gives = said (look_over short (crowd 256 (all 2) 513 (single 5 ++ (all 2 ++ all 3)))); wanted = 8 ∷ 833 ∷ [] }
    ∷ record { gives = said (look_over short (crowd 256 (all 2) 2 (single 4 ++ single 5))); wanted = 8 ∷ 838 ∷ [] }
    ∷ []
