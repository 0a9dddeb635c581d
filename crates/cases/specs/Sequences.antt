-- Cases of the same records in another sequence, like the marked ones. All are records of the small hall, of one step, which rolls the bank from 2 to 3.
use Rattle.std.specs.Prelude.{ℕ, List, [], ◌∷◌, ◌++◌, drop, replicate}
use Rattle.limits.specs.Limits.{rule_size, end_sheet_size}
use Rattle.format.specs.Form.{full, short}
use Rattle.format.specs.LookOver.{look_over}
use Rattle.jobs.specs.Learn.{learn, learn_bytes}
use Rattle.jobs.specs.Check.{check}
use Rattle.cases.specs.Marked.{book, hall_of, order3, order5, rolled, Case, said, said_at}
use Rattle.cases.specs.Further.{lent_rules}
use Rattle.cases.specs.Shorts.{short_book}

-- the small hall's own record, full and short, of 28 and 34 bytes: spot 2 is clear after the roll and not before
abbrev pub cleared : List ℕ
cleared = drop 30 book

abbrev pub short_cleared : List ℕ
short_cleared = drop 30 short_book

-- spot 2 is clear before the roll too, so that this step does not change it; full and short, of 31 and 34 bytes
abbrev pub left_clear : List ℕ
left_clear =
    (0x03 ∷ 0x01 ∷ 0x00 ∷ 0x1f ∷ 0x01 ∷ 0x02 ∷ 0x02 ∷ 0x00 ∷ 0x03 ∷ 0x01 ∷ 0x01 ∷ 0x02 ∷ 0x02 ∷ 0x02 ∷ 0x00 ∷ 0x02 ∷ 0x03 ∷ 0x00 ∷ [])
    ++ (0x01 ∷ 0x01 ∷ 0x02 ∷ 0x03 ∷ 0x00 ∷ 0x00 ∷ 0x02 ∷ 0x01 ∷ 0x01 ∷ 0x03 ∷ 0x02 ∷ 0x02 ∷ 0x00 ∷ [])

abbrev pub short_left_clear : List ℕ
short_left_clear =
    (0x03 ∷ 0x01 ∷ 0x00 ∷ 0x22 ∷ 0x01 ∷ 0x02 ∷ 0x02 ∷ 0x00 ∷ 0x03 ∷ 0x01 ∷ 0x01 ∷ 0x02 ∷ 0x02 ∷ 0x02 ∷ 0x00 ∷ 0x02 ∷ 0x03 ∷ 0x00 ∷ [])
    ++ (0x01 ∷ 0x01 ∷ 0x02 ∷ 0x03 ∷ 0x00 ∷ 0x00 ∷ 0x03 ∷ 0x01 ∷ 0x01 ∷ 0x02 ∷ 0x01 ∷ 0x01 ∷ 0x03 ∷ 0x02 ∷ 0x03 ∷ 0x00 ∷ [])

-- M9's second record, of 22 bytes: no fact holds after the roll
abbrev pub emptied : List ℕ
emptied =
    0x03 ∷ 0x01 ∷ 0x00 ∷ 0x16 ∷ 0x01 ∷ 0x02 ∷ 0x02 ∷ 0x00 ∷ 0x02 ∷ 0x01 ∷ 0x01 ∷ 0x02 ∷ 0x02 ∷ 0x03 ∷ 0x00
    ∷ 0x01 ∷ 0x01 ∷ 0x02 ∷ 0x03 ∷ 0x00 ∷ 0x00 ∷ 0x00 ∷ []

-- a third spot, object 4, is clear before the roll and not after it, which is no bound fact of the roll; 32 bytes, of which the step begins at 19
abbrev pub strayed : List ℕ
strayed =
    (0x04 ∷ 0x01 ∷ 0x00 ∷ 0x20 ∷ 0x01 ∷ 0x02 ∷ 0x02 ∷ 0x02 ∷ 0x00 ∷ 0x03 ∷ 0x01 ∷ 0x01 ∷ 0x02 ∷ 0x02 ∷ 0x03 ∷ 0x00 ∷ 0x02 ∷ 0x04 ∷ 0x00 ∷ [])
    ++ (0x01 ∷ 0x01 ∷ 0x02 ∷ 0x03 ∷ 0x00 ∷ 0x00 ∷ 0x02 ∷ 0x01 ∷ 0x01 ∷ 0x03 ∷ 0x02 ∷ 0x02 ∷ 0x00 ∷ [])

-- The rules of `cleared` and `left_clear`: those of M1, but spot 2 may be clear before the roll or not. That a roll adds it, `cleared` alone shows.
abbrev rules_of_both : List ℕ
rules_of_both =
    (0x02 ∷ 0x00 ∷ 0x00 ∷ 0x01 ∷ replicate 28 0)
    ++ (0x04 ∷ replicate 31 0)
    ++ (0x04 ∷ 0x00 ∷ 0x10 ∷ 0x00 ∷ replicate 28 0)
    ++ (0x02 ∷ 0x00 ∷ 0x00 ∷ 0x01 ∷ replicate 28 0)

-- The same in both sequences: the rules, of full and of short books, also with one record twice; the plan of M3, which passes now, a roll that does not
-- go, and a goal that is missed; 12 with its move. Refused by 11 in both, each time at the offset that the step has in its book, and so where 12 is met
-- as well.
abbrev pub filed_late : List Case
filed_late =
    record { gives = learn_bytes full (hall_of 2 (cleared ++ left_clear)) lent_rules; wanted = rules_of_both }
    ∷ record { gives = learn_bytes full (hall_of 2 (left_clear ++ cleared)) lent_rules; wanted = rules_of_both }
    ∷ record { gives = learn_bytes short (hall_of 2 (short_cleared ++ short_left_clear)) lent_rules; wanted = rules_of_both }
    ∷ record { gives = learn_bytes short (hall_of 2 (short_left_clear ++ short_cleared)) lent_rules; wanted = rules_of_both }
    ∷ record { gives = learn_bytes full (hall_of 3 (cleared ++ left_clear ++ left_clear)) lent_rules; wanted = rules_of_both }
    ∷ record { gives = learn_bytes full (hall_of 3 (left_clear ++ cleared ++ left_clear)) lent_rules; wanted = rules_of_both }
    ∷ record { gives = said (look_over full (hall_of 3 (left_clear ++ cleared ++ left_clear))); wanted = 0 ∷ 3 ∷ [] }
    ∷ record { gives = said_at (check full (hall_of 2 (cleared ++ left_clear)) order3 end_sheet_size); wanted = 0 ∷ 2 ∷ 0 ∷ [] }
    ∷ record { gives = said_at (check full (hall_of 2 (left_clear ++ cleared)) order3 end_sheet_size); wanted = 0 ∷ 2 ∷ 0 ∷ [] }
    ∷ record { gives = said_at (check full (hall_of 2 (cleared ++ left_clear)) (rolled 3 4) end_sheet_size); wanted = 19 ∷ 1 ∷ 1 ∷ [] }
    ∷ record { gives = said_at (check full (hall_of 2 (left_clear ++ cleared)) (rolled 3 4) end_sheet_size); wanted = 19 ∷ 1 ∷ 1 ∷ [] }
    ∷ record { gives = said_at (check full (hall_of 2 (cleared ++ left_clear)) order5 end_sheet_size); wanted = 20 ∷ 1 ∷ 1 ∷ [] }
    ∷ record { gives = said_at (check full (hall_of 2 (left_clear ++ cleared)) order5 end_sheet_size); wanted = 20 ∷ 1 ∷ 1 ∷ [] }
    ∷ record { gives = said (learn full (hall_of 2 (cleared ++ emptied)) rule_size); wanted = 12 ∷ 1 ∷ [] }
    ∷ record { gives = said (learn full (hall_of 2 (emptied ++ cleared)) rule_size); wanted = 12 ∷ 1 ∷ [] }
    ∷ record { gives = said (learn full (hall_of 2 (cleared ++ strayed)) rule_size); wanted = 11 ∷ 77 ∷ [] }
    ∷ record { gives = said (learn full (hall_of 2 (strayed ++ cleared)) rule_size); wanted = 11 ∷ 49 ∷ [] }
    ∷ record { gives = said (learn full (hall_of 3 (emptied ++ strayed ++ cleared)) rule_size); wanted = 11 ∷ 71 ∷ [] }
    ∷ record { gives = said_at (check full (hall_of 3 (cleared ++ emptied ++ strayed)) order3 end_sheet_size); wanted = 11 ∷ 99 ∷ 0 ∷ [] }
    ∷ []
