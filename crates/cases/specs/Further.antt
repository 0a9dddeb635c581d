-- Cases of kinds under kinds and of several starts, like the marked ones.
use Rattle.std.specs.Prelude.{ℕ, suc, ◌+◌, ◌/◌, List, [], ◌∷◌, ◌++◌, length, take, drop, replicate}
use Rattle.limits.specs.Limits.{rule_size, end_sheet_size}
use Rattle.format.specs.Form.{full}
use Rattle.format.specs.LookOver.{look_over}
use Rattle.jobs.specs.Learn.{learn, learn_bytes}
use Rattle.jobs.specs.Check.{check, check_bytes}
use Rattle.jobs.specs.Listing.{rules_printed}
use Rattle.cases.specs.Marked.{book, rolls_of, printed, Case, said, said_at, lent}

-- The small hall with parents between header and relations: the count of kinds, the parents, the kind that the roll's first parameter names,
-- and the kind of the object that the record rolls. Kind 3 is a wagon.
abbrev under : ℕ → List ℕ → ℕ → ℕ → List ℕ
under kinds parents named kind =
    (0x00 ∷ kinds ∷ 0x00 ∷ 0x02 ∷ 0x00 ∷ 0x01 ∷ 0x00 ∷ 0x01 ∷ 0x00 ∷ (0x10 + length parents) ∷ 0x00 ∷ (0x18 + length parents)
    ∷ 0x00 ∷ (0x1e + length parents) ∷ 0x00 ∷ (0x3a + length parents) ∷ [])
    ++ parents
    ++ (0x02 ∷ 0x01 ∷ 0x02 ∷ 0x00 ∷ 0x01 ∷ 0x02 ∷ 0x00 ∷ 0x00 ∷ 0x03 ∷ named ∷ 0x02 ∷ 0x02 ∷ 0x00 ∷ 0x00 ∷ [])
    ++ (0x03 ∷ 0x01 ∷ 0x00 ∷ 0x1c ∷ kind ∷ 0x02 ∷ 0x02 ∷ 0x00 ∷ 0x02 ∷ 0x01 ∷ 0x01 ∷ 0x02 ∷ 0x02 ∷ 0x03 ∷ 0x00
    ∷ 0x01 ∷ 0x01 ∷ 0x02 ∷ 0x03 ∷ 0x00 ∷ 0x00 ∷ 0x02 ∷ 0x01 ∷ 0x01 ∷ 0x03 ∷ 0x02 ∷ 0x02 ∷ 0x00 ∷ [])

-- a wagon is a bank; and a kind below the wagon is one too
abbrev wagons : List ℕ
wagons = under 3 (0 ∷ 0 ∷ 1 ∷ []) 1 3

abbrev below_wagons : List ℕ
below_wagons = under 4 (0 ∷ 0 ∷ 1 ∷ 3 ∷ []) 1 4

-- A wagon is a bank, and relation 3 says of a wagon that it is coupled. Object 1 is coupled before the roll. The arguments are the kind of object 1,
-- and the facts of relation 3 that are listed after the roll.
abbrev coupled : ℕ → List ℕ → List ℕ
coupled kind last =
    (0x00 ∷ 0x03 ∷ 0x00 ∷ 0x03 ∷ 0x00 ∷ 0x01 ∷ 0x00 ∷ 0x01 ∷ 0x00 ∷ 0x13 ∷ 0x00 ∷ 0x1f ∷ 0x00 ∷ 0x25 ∷ 0x00 ∷ (0x44 + length last) ∷ [])
    ++ (0x00 ∷ 0x00 ∷ 0x01 ∷ [])
    ++ (0x02 ∷ 0x01 ∷ 0x02 ∷ 0x00 ∷ 0x01 ∷ 0x02 ∷ 0x00 ∷ 0x00 ∷ 0x01 ∷ 0x03 ∷ 0x00 ∷ 0x00 ∷ 0x03 ∷ 0x01 ∷ 0x02 ∷ 0x02 ∷ 0x00 ∷ 0x00 ∷ [])
    ++ (0x03 ∷ 0x01 ∷ 0x00 ∷ (0x1f + length last) ∷ kind ∷ 0x02 ∷ 0x02 ∷ 0x00 ∷ 0x03 ∷ 0x01 ∷ 0x01 ∷ 0x02 ∷ 0x02 ∷ 0x03 ∷ 0x00
    ∷ 0x03 ∷ 0x01 ∷ 0x00 ∷ 0x01 ∷ 0x01 ∷ 0x02 ∷ 0x03 ∷ 0x00 ∷ 0x00 ∷ (0x02 + length last / 3) ∷ 0x01 ∷ 0x01 ∷ 0x03 ∷ 0x02 ∷ 0x02 ∷ 0x00 ∷ [])
    ++ last

-- object 1 is coupled
abbrev is_coupled : List ℕ
is_coupled = 0x03 ∷ 0x01 ∷ 0x00 ∷ []

-- M1 as a rule sheet, and an output lent for it
abbrev pub rules : List ℕ
rules =
    (0x02 ∷ 0x00 ∷ 0x00 ∷ 0x01 ∷ replicate 28 0)
    ++ (0x04 ∷ 0x00 ∷ 0x10 ∷ 0x00 ∷ replicate 28 0)
    ++ (0x04 ∷ 0x00 ∷ 0x10 ∷ 0x00 ∷ replicate 28 0)
    ++ (0x02 ∷ 0x00 ∷ 0x00 ∷ 0x01 ∷ replicate 28 0)

abbrev pub lent_rules : List ℕ
lent_rules = replicate rule_size 0xff

-- kinds under kinds: parents of 0 change nothing; a wagon rolls as a bank does, and only if its kind lies below the bank's; a move whose parameter is
-- a wagon has bound facts of relations over banks, and a step of it with a bank is refused; a fact of a relation over wagons is wrong for a bank, and
-- is no bound fact of a move whose parameter is a bank, so that a roll may not change it and does not need it; then a parent as large as its kind,
-- and an offset of the relations that has room for one parent of two
abbrev pub kinds_under : List Case
kinds_under =
    record { gives = learn_bytes full book lent_rules; wanted = rules }
    ∷ record { gives = learn_bytes full (under 2 (0 ∷ 0 ∷ []) 1 1) lent_rules; wanted = rules }
    ∷ record { gives = learn_bytes full wagons lent_rules; wanted = rules }
    ∷ record { gives = rules_printed wagons; wanted = printed }
    ∷ record { gives = said_at (check full wagons (rolls_of 3) end_sheet_size); wanted = 0 ∷ 2 ∷ 0 ∷ [] }
    ∷ record { gives = said_at (check full wagons (rolls_of 1) end_sheet_size); wanted = 0 ∷ 2 ∷ 0 ∷ [] }
    ∷ record { gives = rules_printed below_wagons; wanted = printed }
    ∷ record { gives = said_at (check full below_wagons (rolls_of 4) end_sheet_size); wanted = 0 ∷ 2 ∷ 0 ∷ [] }
    ∷ record { gives = said (look_over full (under 3 (0 ∷ 0 ∷ 0 ∷ []) 1 3)); wanted = 8 ∷ 42 ∷ [] }
    ∷ record { gives = rules_printed (under 3 (0 ∷ 0 ∷ 1 ∷ []) 3 3); wanted = printed }
    ∷ record { gives = said_at (check full (under 3 (0 ∷ 0 ∷ 1 ∷ []) 3 3) (rolls_of 1) end_sheet_size); wanted = 18 ∷ 35 ∷ 0 ∷ [] }
    ∷ record { gives = said (look_over full (coupled 1 is_coupled)); wanted = 8 ∷ 52 ∷ [] }
    ∷ record { gives = said (look_over full (coupled 3 [])); wanted = 0 ∷ 1 ∷ [] }
    ∷ record { gives = said (learn full (coupled 3 []) rule_size); wanted = 11 ∷ 55 ∷ [] }
    ∷ record { gives = rules_printed (coupled 3 is_coupled); wanted = printed }
    ∷ record { gives = said_at (check full (coupled 3 is_coupled) (rolls_of 3) end_sheet_size); wanted = 0 ∷ 2 ∷ 0 ∷ [] }
    ∷ record { gives = said (look_over full (under 2 (0 ∷ 2 ∷ []) 1 1)); wanted = 21 ∷ 17 ∷ [] }
    ∷ record { gives = said (look_over full (under 2 (0 ∷ []) 1 1)); wanted = 3 ∷ 0 ∷ [] }
    ∷ []

-- Starts: bank 1 at spot 2, spots 3 and 4 clear; the same with spot 2 clear too, from where no roll of the bank goes.
abbrev pub passing_start : List ℕ
passing_start = 0x00 ∷ 0x03 ∷ 0x01 ∷ 0x01 ∷ 0x02 ∷ 0x02 ∷ 0x03 ∷ 0x00 ∷ 0x02 ∷ 0x04 ∷ 0x00 ∷ []

abbrev pub stopping_start : List ℕ
stopping_start = 0x00 ∷ 0x04 ∷ 0x01 ∷ 0x01 ∷ 0x02 ∷ 0x02 ∷ 0x02 ∷ 0x00 ∷ 0x02 ∷ 0x03 ∷ 0x00 ∷ 0x02 ∷ 0x04 ∷ 0x00 ∷ []

-- An order over bank 1 and spots 2, 3, 4 with the goal of the bank at 4. It is told the count of starts, the bytes between objects and goal,
-- and the steps.
abbrev pub from_starts : ℕ → List ℕ → List ℕ → List ℕ
from_starts count between steps =
    (0x00 ∷ 0x04 ∷ 0x00 ∷ count ∷ 0x00 ∷ 0x01 ∷ 0x00 ∷ (length steps / 5) ∷ 0x00 ∷ 0x10 ∷ 0x00 ∷ 0x14 ∷ 0x00 ∷ (0x14 + length between)
    ∷ 0x00 ∷ (0x18 + length between) ∷ 0x01 ∷ 0x02 ∷ 0x02 ∷ 0x02 ∷ [])
    ++ between
    ++ (0x01 ∷ 0x01 ∷ 0x01 ∷ 0x04 ∷ [])
    ++ steps

-- roll 1 2 3, and then roll 1 3 4
abbrev pub roll : List ℕ
roll = 0x01 ∷ 0x01 ∷ 0x02 ∷ 0x03 ∷ 0x00 ∷ []

abbrev pub roll_twice : List ℕ
roll_twice = roll ++ (0x01 ∷ 0x01 ∷ 0x03 ∷ 0x04 ∷ 0x00 ∷ [])

-- The same bytes with another one at an offset.
abbrev pub with_byte : ℕ → ℕ → List ℕ → List ℕ
with_byte at byte s = take at s ++ (byte ∷ drop (suc at) s)

-- one plan, several starts: two that pass leave the lent sheet alone; the second fails by 19; the first fails by 20 before a second that fails
-- at step 1, and the other way round; no start and 17 of them, with an offset that is wrong too, and after a count that is; a count that is
-- cut, and one over 256; a fact out of order, and one that is cut; a byte left over; goal entries that begin before the starts
abbrev pub several_starts : List Case
several_starts =
    record { gives = said_at (check full book (from_starts 2 (passing_start ++ passing_start) roll_twice) end_sheet_size); wanted = 0 ∷ 2 ∷ 0 ∷ [] }
    ∷ record { gives = check_bytes full book (from_starts 2 (passing_start ++ passing_start) roll_twice) lent; wanted = lent }
    ∷ record { gives = said_at (check full book (from_starts 2 (passing_start ++ stopping_start) roll_twice) end_sheet_size); wanted = 19 ∷ 1 ∷ 2 ∷ [] }
    ∷ record { gives = said_at (check full book (from_starts 2 (passing_start ++ stopping_start) roll) end_sheet_size); wanted = 20 ∷ 1 ∷ 1 ∷ [] }
    ∷ record { gives = said_at (check full book (from_starts 2 (stopping_start ++ passing_start) roll) end_sheet_size); wanted = 19 ∷ 1 ∷ 1 ∷ [] }
    ∷ record { gives = said_at (check full book (from_starts 0 [] roll) end_sheet_size); wanted = 22 ∷ 0 ∷ 0 ∷ [] }
    ∷ record { gives = said_at (check full book (from_starts 17 passing_start roll) end_sheet_size); wanted = 22 ∷ 0 ∷ 0 ∷ [] }
    ∷ record { gives = said_at (check full book (with_byte 9 0x11 (from_starts 0 [] roll)) end_sheet_size); wanted = 22 ∷ 0 ∷ 0 ∷ [] }
    ∷ record { gives = said_at (check full book (with_byte 1 0x11 (from_starts 0 [] roll)) end_sheet_size); wanted = 14 ∷ 0 ∷ 0 ∷ [] }
    ∷ record { gives = said_at (check full book (from_starts 2 (passing_start ++ (0x00 ∷ [])) roll) end_sheet_size); wanted = 16 ∷ 31 ∷ 0 ∷ [] }
    ∷ record { gives = said_at (check full book (from_starts 2 (passing_start ++ (0x01 ∷ 0x01 ∷ [])) roll) end_sheet_size); wanted = 16 ∷ 31 ∷ 0 ∷ [] }
    ∷ record { gives = said_at (check full book (from_starts 2 (passing_start ++ (0x00 ∷ 0x02 ∷ 0x02 ∷ 0x03 ∷ 0x00 ∷ 0x02 ∷ 0x03 ∷ 0x00 ∷ [])) roll) end_sheet_size); wanted = 16 ∷ 36 ∷ 0 ∷ [] }
    ∷ record { gives = said_at (check full book (from_starts 2 (passing_start ++ (0x00 ∷ 0x02 ∷ 0x02 ∷ 0x03 ∷ 0x00 ∷ [])) roll) end_sheet_size); wanted = 16 ∷ 36 ∷ 0 ∷ [] }
    ∷ record { gives = said_at (check full book (from_starts 2 (passing_start ++ (stopping_start ++ (0x00 ∷ []))) roll) end_sheet_size); wanted = 16 ∷ 45 ∷ 0 ∷ [] }
    ∷ record { gives = said_at (check full book (with_byte 13 0x13 (from_starts 1 passing_start roll)) end_sheet_size); wanted = 14 ∷ 0 ∷ 0 ∷ [] }
    ∷ []
