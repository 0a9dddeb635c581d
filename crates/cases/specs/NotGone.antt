-- Cases of steps that did not go, like the marked ones: 128 is added to their move byte. Offsets are counted from the bytes: the first record of the
-- small hall stands at 30, its first state at 37.
use Rattle.std.specs.Prelude.{ℕ, ◌+◌, List, [], ◌∷◌, ◌++◌, map, length, drop, replicate}
use Rattle.limits.specs.Limits.{rule_size, end_sheet_size}
use Rattle.format.specs.Form.{full, short}
use Rattle.format.specs.LookOver.{look_over}
use Rattle.jobs.specs.Planning.{start_states}
use Rattle.jobs.specs.Learn.{learn, learn_bytes}
use Rattle.jobs.specs.Check.{order_run, check, check_bytes}
use Rattle.jobs.specs.Listing.{rules_printed}
use Rattle.jobs.specs.Add.{add, add_bytes}
use Rattle.jobs.specs.Convert.{convert, convert_bytes}
use Rattle.cases.specs.Marked.{book, hall_of, rolls_of, order3, order5, rolled, printed, Case, said, said_at, values_from, lent}
use Rattle.cases.specs.Further.{rules, lent_rules, passing_start, from_starts, roll, with_byte}
use Rattle.cases.specs.Shorts.{short_book, crowd, all, single}
use Rattle.cases.specs.Sequences.{cleared, short_cleared, left_clear, short_left_clear, emptied, strayed}

-- ---- records of bank 1 and spots 2 and 3

-- Lists of facts. Bank 1 is at 2 and spot 3 clear, as before the roll of the small hall; spot 3 is not clear, so that a need to hold is unmet; spot 2 is
-- clear too, so that a need not to hold is unmet; bank 1 is at 3. Of 8, 5, 11 and 5 bytes.
abbrev ready : List ℕ
ready = 0x00 ∷ 0x02 ∷ 0x01 ∷ 0x01 ∷ 0x02 ∷ 0x02 ∷ 0x03 ∷ 0x00 ∷ []

abbrev blocked : List ℕ
blocked = 0x00 ∷ 0x01 ∷ 0x01 ∷ 0x01 ∷ 0x02 ∷ []

abbrev both_clear : List ℕ
both_clear = 0x00 ∷ 0x03 ∷ 0x01 ∷ 0x01 ∷ 0x02 ∷ 0x02 ∷ 0x02 ∷ 0x00 ∷ 0x02 ∷ 0x03 ∷ 0x00 ∷ []

abbrev elsewhere : List ℕ
elsewhere = 0x00 ∷ 0x01 ∷ 0x01 ∷ 0x01 ∷ 0x03 ∷ []

-- no fact: what turns in a short book with a step that did not go
abbrev none : List ℕ
none = 0x00 ∷ 0x00 ∷ []

-- bank 1 is at 3 and spot 2 clear, after the roll; and the four facts that it turns
abbrev arrived : List ℕ
arrived = 0x00 ∷ 0x02 ∷ 0x01 ∷ 0x01 ∷ 0x03 ∷ 0x02 ∷ 0x02 ∷ 0x00 ∷ []

abbrev four_turn : List ℕ
four_turn = 0x00 ∷ 0x04 ∷ 0x01 ∷ 0x01 ∷ 0x02 ∷ 0x01 ∷ 0x01 ∷ 0x03 ∷ 0x02 ∷ 0x02 ∷ 0x00 ∷ 0x02 ∷ 0x03 ∷ 0x00 ∷ []

-- the step that rolls bank 1 from 2 to 3, with another move byte
abbrev step_of : ℕ → List ℕ
step_of move = move ∷ 0x01 ∷ 0x02 ∷ 0x03 ∷ 0x00 ∷ []

-- a record of so many steps: 4 bytes of head, 3 objects, and what is behind them
abbrev record_of : ℕ → List ℕ → List ℕ
record_of steps behind = (0x03 ∷ steps ∷ 0x00 ∷ (7 + length behind) ∷ 0x01 ∷ 0x02 ∷ 0x02 ∷ []) ++ behind

-- One roll that did not go, with the state before it and the list behind it. In the small hall alone its step stands at 37 and the length of that state.
abbrev tried : List ℕ → List ℕ → List ℕ
tried before behind = record_of 1 (before ++ (step_of 0x81 ++ behind))

-- The roll goes; the same roll, tried again, does not, bank 1 being at 3; it rolls back. Of three states, or of lists of what turns: of 54 and 60 bytes.
abbrev tried_between : List ℕ
tried_between = record_of 3 (ready ++ (roll ++ (arrived ++ (step_of 0x81 ++ (arrived ++ ((0x01 ∷ 0x01 ∷ 0x03 ∷ 0x02 ∷ 0x00 ∷ []) ++ ready))))))

abbrev short_tried_between : List ℕ
short_tried_between = record_of 3 (ready ++ (roll ++ (four_turn ++ (step_of 0x81 ++ (none ++ ((0x01 ∷ 0x01 ∷ 0x03 ∷ 0x02 ∷ 0x00 ∷ []) ++ four_turn))))))

-- The roll goes; the roll back does not, though all that it needs is met. Its step stands at 30 + 7 + 8 + 5 + 8 = 58, and at 64 in a short book.
abbrev tried_back : List ℕ
tried_back = record_of 2 (ready ++ (roll ++ (arrived ++ ((0x81 ∷ 0x01 ∷ 0x03 ∷ 0x02 ∷ 0x00 ∷ []) ++ arrived))))

abbrev short_tried_back : List ℕ
short_tried_back = record_of 2 (ready ++ (roll ++ (four_turn ++ ((0x81 ∷ 0x01 ∷ 0x03 ∷ 0x02 ∷ 0x00 ∷ []) ++ none))))

-- `strayed` of a short book, of 41 bytes: five facts turn. Its step, too, begins at 19.
abbrev short_strayed : List ℕ
short_strayed =
    (0x04 ∷ 0x01 ∷ 0x00 ∷ 0x29 ∷ 0x01 ∷ 0x02 ∷ 0x02 ∷ 0x02 ∷ 0x00 ∷ 0x03 ∷ 0x01 ∷ 0x01 ∷ 0x02 ∷ 0x02 ∷ 0x03 ∷ 0x00 ∷ 0x02 ∷ 0x04 ∷ 0x00 ∷ [])
    ++ (roll ++ (0x00 ∷ 0x05 ∷ drop 2 four_turn ++ (0x02 ∷ 0x04 ∷ 0x00 ∷ [])))

-- ---- books

-- the small hall with its own record, of 28 or 34 bytes, and one behind it, which stands at 58 or 64
abbrev with_record : List ℕ → List ℕ
with_record r = hall_of 2 (cleared ++ r)

abbrev short_with_record : List ℕ → List ℕ
short_with_record r = hall_of 2 (short_cleared ++ r)

-- The small hall with a second move, told by its 6 bytes: the records begin at 36.
abbrev with_move : List ℕ → ℕ → List ℕ → List ℕ
with_move move count records =
    (0x00 ∷ 0x02 ∷ 0x00 ∷ 0x02 ∷ 0x00 ∷ 0x02 ∷ 0x00 ∷ count ∷ 0x00 ∷ 0x10 ∷ 0x00 ∷ 0x18 ∷ 0x00 ∷ 0x24 ∷ 0x00 ∷ (0x24 + length records) ∷ [])
    ++ (0x02 ∷ 0x01 ∷ 0x02 ∷ 0x00 ∷ 0x01 ∷ 0x02 ∷ 0x00 ∷ 0x00 ∷ 0x03 ∷ 0x01 ∷ 0x02 ∷ 0x02 ∷ 0x00 ∷ 0x00 ∷ [])
    ++ (move ++ records)

-- a move of a bank and two spots, as the roll is, and one of no parameters, which has no bound facts, since each relation has a place
abbrev push : List ℕ
push = 0x03 ∷ 0x01 ∷ 0x02 ∷ 0x02 ∷ 0x00 ∷ 0x00 ∷ []

abbrev wait : List ℕ
wait = replicate 6 0

abbrev wait_of : ℕ → List ℕ
wait_of move = move ∷ replicate 4 0

-- the small hall with a push, move 2, of which it is recorded alone that it did not go
abbrev pushed : List ℕ
pushed = with_move push 2 (cleared ++ record_of 1 (ready ++ (step_of 0x82 ++ ready)))

abbrev short_pushed : List ℕ
short_pushed = with_move push 2 (short_cleared ++ record_of 1 (ready ++ (step_of 0x82 ++ none)))

-- the 128 bytes of a move like the roll that is never recorded: each of its four bound facts, numbered 1, 2, 20 and 24, is needed both ways
abbrev unrecorded : List ℕ
unrecorded = (0x06 ∷ 0x00 ∷ 0x10 ∷ 0x01 ∷ replicate 28 0) ++ (0x06 ∷ 0x00 ∷ 0x10 ∷ 0x01 ∷ replicate 92 0)

-- M1's listing with 2 records and 2 steps
abbrev printed_of_two : List ℕ
printed_of_two = with_byte 16 0x32 (with_byte 24 0x32 printed)

-- ---- cases

-- The rules, the listing and the checks of the small hall, with a step more that did not go.
abbrev pub learned_without : List Case
learned_without =
    -- a need to hold is unmet; the step counts
    record { gives = learn_bytes full (with_record (tried blocked blocked)) lent_rules; wanted = rules }
    ∷ record { gives = said (learn full (with_record (tried blocked blocked)) rule_size); wanted = 0 ∷ 2 ∷ [] }
    ∷ record { gives = learn_bytes short (short_with_record (tried blocked none)) lent_rules; wanted = rules }
    ∷ record { gives = said (learn short (short_with_record (tried blocked none)) rule_size); wanted = 0 ∷ 2 ∷ [] }
    -- the same bytes without the 128: a roll that went and left bank 1 at 2
    ∷ record { gives = said (learn full (with_record (record_of 1 (blocked ++ (roll ++ blocked)))) rule_size); wanted = 12 ∷ 1 ∷ [] }
    -- a need not to hold is unmet
    ∷ record { gives = learn_bytes full (with_record (tried both_clear both_clear)) lent_rules; wanted = rules }
    ∷ record { gives = learn_bytes short (short_with_record (tried both_clear none)) lent_rules; wanted = rules }
    ∷ record { gives = said (learn full (with_record (tried both_clear both_clear)) rule_size); wanted = 0 ∷ 2 ∷ [] }
    ∷ record { gives = said (learn short (short_with_record (tried both_clear none)) rule_size); wanted = 0 ∷ 2 ∷ [] }
    -- filed before the record that shows the needs, and between two rolls of one record
    ∷ record { gives = learn_bytes full (hall_of 2 (tried blocked blocked ++ cleared)) lent_rules; wanted = rules }
    ∷ record { gives = learn_bytes full (hall_of 1 tried_between) lent_rules; wanted = rules }
    ∷ record { gives = said (learn full (hall_of 1 tried_between) rule_size); wanted = 0 ∷ 3 ∷ [] }
    ∷ record { gives = learn_bytes short (hall_of 1 short_tried_between) lent_rules; wanted = rules }
    ∷ record { gives = said (learn short (hall_of 1 short_tried_between) rule_size); wanted = 0 ∷ 3 ∷ [] }
    ∷ record { gives = rules_printed (with_record (tried blocked blocked)); wanted = printed_of_two }
    -- M2 passes with its end state, M3 stops, M5 misses its goal
    ∷ record { gives = said_at (check full (with_record (tried blocked blocked)) (rolls_of 1) end_sheet_size); wanted = 0 ∷ 2 ∷ 0 ∷ [] }
    ∷ record { gives = said_at (check short (short_with_record (tried blocked none)) (rolls_of 1) end_sheet_size); wanted = 0 ∷ 2 ∷ 0 ∷ [] }
    ∷ record { gives = values_from (map (order_run full (with_record (tried blocked blocked)) (rolls_of 1)) (start_states (rolls_of 1))) (1 ∷ 2 ∷ 3 ∷ 272 ∷ 288 ∷ 304 ∷ []); wanted = 0 ∷ 0 ∷ 1 ∷ 1 ∷ 1 ∷ 0 ∷ [] }
    ∷ record { gives = said_at (check full (with_record (tried blocked blocked)) order3 end_sheet_size); wanted = 19 ∷ 1 ∷ 1 ∷ [] }
    ∷ record { gives = said_at (check full (with_record (tried blocked blocked)) order5 end_sheet_size); wanted = 20 ∷ 1 ∷ 1 ∷ [] }
    ∷ []

-- A move of which only such steps are filed: its needs stay all its bound facts both ways, of which one is unmet in any state.
abbrev pub never_went : List Case
never_went =
    -- the roll, in a book of such a step alone, which is no record of nothing
    record { gives = said (look_over full (hall_of 1 (tried blocked blocked))); wanted = 0 ∷ 1 ∷ [] }
    ∷ record { gives = said (look_over short (hall_of 1 (tried blocked none))); wanted = 0 ∷ 1 ∷ [] }
    ∷ record { gives = learn_bytes full (hall_of 1 (tried blocked blocked)) lent_rules; wanted = unrecorded }
    ∷ record { gives = learn_bytes short (hall_of 1 (tried blocked none)) lent_rules; wanted = unrecorded }
    ∷ record { gives = said (learn full (hall_of 1 (tried ready ready)) rule_size); wanted = 0 ∷ 1 ∷ [] }
    ∷ record { gives = said_at (check full (hall_of 1 (tried blocked blocked)) (rolled 2 3) end_sheet_size); wanted = 19 ∷ 1 ∷ 1 ∷ [] }
    -- the push, beside a roll that is recorded: the sheet, its length, a plan of rolls, a push
    ∷ record { gives = learn_bytes full pushed (replicate 256 0xff); wanted = rules ++ unrecorded }
    ∷ record { gives = learn_bytes short short_pushed (replicate 256 0xff); wanted = rules ++ unrecorded }
    ∷ record { gives = said (learn full pushed 128); wanted = 13 ∷ 0 ∷ [] }
    ∷ record { gives = said_at (check full pushed (rolls_of 1) end_sheet_size); wanted = 0 ∷ 2 ∷ 0 ∷ [] }
    ∷ record { gives = said_at (check full pushed (from_starts 1 passing_start (step_of 0x02)) end_sheet_size); wanted = 19 ∷ 1 ∷ 1 ∷ [] }
    ∷ []

-- 28, all learned needs were met: the place is the step's offset.
abbrev pub needs_met : List Case
needs_met =
    -- the second record's step stands at 58 + 7 + 8 = 73, in a short book at 64 + 7 + 8 = 79; filed first, at 30 + 7 + 8 = 45 in both
    record { gives = said (learn full (with_record (tried ready ready)) rule_size); wanted = 28 ∷ 73 ∷ [] }
    ∷ record { gives = said (learn short (short_with_record (tried ready none)) rule_size); wanted = 28 ∷ 79 ∷ [] }
    ∷ record { gives = said (learn full (hall_of 2 (tried ready ready ++ cleared)) rule_size); wanted = 28 ∷ 45 ∷ [] }
    ∷ record { gives = said (learn short (hall_of 2 (tried ready none ++ short_cleared)) rule_size); wanted = 28 ∷ 45 ∷ [] }
    ∷ record { gives = learn_bytes full (with_record (tried ready ready)) lent_rules; wanted = lent_rules }
    -- it is no row of looking over
    ∷ record { gives = said (look_over full (with_record (tried ready ready))); wanted = 0 ∷ 2 ∷ [] }
    -- the needs are those of the whole book: the third record shows that spot 2 may be clear; the step stands at 58 + 7 + 11 and 64 + 7 + 11
    ∷ record { gives = said (learn full (hall_of 3 (cleared ++ (tried both_clear both_clear ++ left_clear))) rule_size); wanted = 28 ∷ 76 ∷ [] }
    ∷ record { gives = said (learn short (hall_of 3 (short_cleared ++ (tried both_clear none ++ short_left_clear))) rule_size); wanted = 28 ∷ 82 ∷ [] }
    -- the first such step: the one before it, of 22 bytes, has a need unmet; 80 + 7 + 8, in a short book 64 + 19 + 7 + 8
    ∷ record { gives = said (learn full (hall_of 4 (cleared ++ (tried blocked blocked ++ (tried ready ready ++ tried ready ready)))) rule_size); wanted = 28 ∷ 95 ∷ [] }
    ∷ record { gives = said (learn short (hall_of 4 (short_cleared ++ (tried blocked none ++ (tried ready none ++ tried ready none)))) rule_size); wanted = 28 ∷ 98 ∷ [] }
    -- in the record that shows the needs
    ∷ record { gives = said (learn full (hall_of 1 tried_back) rule_size); wanted = 28 ∷ 58 ∷ [] }
    ∷ record { gives = said (learn short (hall_of 1 short_tried_back) rule_size); wanted = 28 ∷ 64 ∷ [] }
    -- a move of no bound facts: 36 + 7 + 8 = 51; and where it went before, 51 + 5 + 8, in a short book 51 + 5 + 2
    ∷ record { gives = said (learn full (with_move wait 1 (record_of 1 (ready ++ (wait_of 0x82 ++ ready)))) 256); wanted = 28 ∷ 51 ∷ [] }
    ∷ record { gives = said (learn short (with_move wait 1 (record_of 1 (ready ++ (wait_of 0x82 ++ none)))) 256); wanted = 28 ∷ 51 ∷ [] }
    ∷ record { gives = said (learn full (with_move wait 1 (record_of 2 (ready ++ (wait_of 0x02 ++ (ready ++ (wait_of 0x82 ++ ready)))))) 256); wanted = 28 ∷ 64 ∷ [] }
    ∷ record { gives = said (learn short (with_move wait 1 (record_of 2 (ready ++ (wait_of 0x02 ++ (none ++ (wait_of 0x82 ++ none)))))) 256); wanted = 28 ∷ 58 ∷ [] }
    ∷ []

-- 28 among the other rows, and checking.
abbrev pub needs_met_late : List Case
needs_met_late =
    -- 12 before it, though its step is filed first; in a short book the two facts that held turn
    record { gives = said (learn full (hall_of 3 (tried ready ready ++ (cleared ++ emptied))) rule_size); wanted = 12 ∷ 1 ∷ [] }
    ∷ record { gives = said (learn short (hall_of 3 (tried ready none ++ (short_cleared ++ record_of 1 (ready ++ (roll ++ ready))))) rule_size); wanted = 12 ∷ 1 ∷ [] }
    -- 11 before it: 30 + 28 + 28 + 19, in a short book 30 + 22 + 34 + 19
    ∷ record { gives = said (learn full (hall_of 3 (tried ready ready ++ (cleared ++ strayed))) rule_size); wanted = 11 ∷ 105 ∷ [] }
    ∷ record { gives = said (learn short (hall_of 3 (tried ready none ++ (short_cleared ++ short_strayed))) rule_size); wanted = 11 ∷ 105 ∷ [] }
    -- before 13: a sheet a byte short; and before 14: an order of no bytes
    ∷ record { gives = said (learn full (with_record (tried ready ready)) 127); wanted = 28 ∷ 73 ∷ [] }
    ∷ record { gives = said (learn full (with_record (tried blocked blocked)) 127); wanted = 13 ∷ 0 ∷ [] }
    ∷ record { gives = said_at (check full (with_record (tried ready ready)) [] 511); wanted = 28 ∷ 73 ∷ 0 ∷ [] }
    -- M2
    ∷ record { gives = said_at (check full (with_record (tried ready ready)) (rolls_of 1) end_sheet_size); wanted = 28 ∷ 73 ∷ 0 ∷ [] }
    ∷ record { gives = said_at (check short (short_with_record (tried ready none)) (rolls_of 1) end_sheet_size); wanted = 28 ∷ 79 ∷ 0 ∷ [] }
    ∷ record { gives = check_bytes full (with_record (tried ready ready)) (rolls_of 1) lent; wanted = lent }
    ∷ []

-- 27, the states differ: the place is the step's offset, 37 + 5 = 42 behind `blocked`, 45 behind `ready`; in a crowd of 16
-- objects and 256 facts it is 38 + 20 + 2 + 768 = 828.
abbrev pub states_differ : List Case
states_differ =
    -- full books: an object differs; the last fact; a fact more; a fact fewer; none is left
    record { gives = said (look_over full (hall_of 1 (tried blocked elsewhere))); wanted = 27 ∷ 42 ∷ [] }
    ∷ record { gives = said (look_over full (hall_of 1 (tried ready (0x00 ∷ 0x02 ∷ 0x01 ∷ 0x01 ∷ 0x02 ∷ 0x02 ∷ 0x02 ∷ 0x00 ∷ [])))); wanted = 27 ∷ 45 ∷ [] }
    ∷ record { gives = said (look_over full (hall_of 1 (tried blocked ready))); wanted = 27 ∷ 42 ∷ [] }
    ∷ record { gives = said (look_over full (hall_of 1 (tried ready blocked))); wanted = 27 ∷ 45 ∷ [] }
    ∷ record { gives = said (look_over full (hall_of 1 (tried blocked none))); wanted = 27 ∷ 42 ∷ [] }
    -- short books: a fact that held turns, and one that did not
    ∷ record { gives = said (look_over short (hall_of 1 (tried blocked blocked))); wanted = 27 ∷ 42 ∷ [] }
    ∷ record { gives = said (look_over short (hall_of 1 (tried blocked elsewhere))); wanted = 27 ∷ 42 ∷ [] }
    -- of every call that looks a book over, before its 13
    ∷ record { gives = said (learn full (hall_of 1 (tried blocked elsewhere)) 0); wanted = 27 ∷ 42 ∷ [] }
    ∷ record { gives = said (learn short (hall_of 1 (tried blocked elsewhere)) 0); wanted = 27 ∷ 42 ∷ [] }
    ∷ record { gives = said_at (check full (hall_of 1 (tried blocked elsewhere)) (rolls_of 1) end_sheet_size); wanted = 27 ∷ 42 ∷ 0 ∷ [] }
    ∷ record { gives = said (convert short (hall_of 1 (tried blocked elsewhere)) 0); wanted = 27 ∷ 42 ∷ [] }
    ∷ record { gives = said (convert full (hall_of 1 (tried blocked elsewhere)) 0); wanted = 27 ∷ 42 ∷ [] }
    -- after 8 of the list behind it, which stands at 47: its count, its only fact, its second one, which is cut
    ∷ record { gives = said (look_over full (hall_of 1 (tried blocked (0x01 ∷ 0x01 ∷ [])))); wanted = 8 ∷ 47 ∷ [] }
    ∷ record { gives = said (look_over full (hall_of 1 (tried blocked (0x00 ∷ 0x01 ∷ 0x01 ∷ 0x01 ∷ 0x09 ∷ [])))); wanted = 8 ∷ 49 ∷ [] }
    ∷ record { gives = said (look_over short (hall_of 1 (tried blocked (0x00 ∷ 0x01 ∷ 0x01 ∷ 0x01 ∷ 0x09 ∷ [])))); wanted = 8 ∷ 49 ∷ [] }
    ∷ record { gives = said (look_over full (hall_of 1 (tried blocked (0x00 ∷ 0x02 ∷ 0x01 ∷ 0x01 ∷ 0x03 ∷ [])))); wanted = 8 ∷ 52 ∷ [] }
    ∷ record { gives = said (look_over short (hall_of 1 (tried blocked (0x00 ∷ 0x02 ∷ 0x01 ∷ 0x01 ∷ 0x03 ∷ [])))); wanted = 8 ∷ 52 ∷ [] }
    -- after 8 of a short book where 257 facts would hold; of 256 others it is 27
    ∷ record { gives = said (look_over short (with_byte 828 0x81 (crowd 256 (all 2) 1 (single 4)))); wanted = 8 ∷ 833 ∷ [] }
    ∷ record { gives = said (look_over short (with_byte 828 0x81 (crowd 256 (all 2) 2 (single 1 ++ (2 ∷ 1 ∷ 1 ∷ []))))); wanted = 27 ∷ 828 ∷ [] }
    -- before the next step, which is 9 at 42 + 5 + 5 where the states agree
    ∷ record { gives = said (look_over full (hall_of 1 (record_of 2 (blocked ++ (step_of 0x81 ++ (elsewhere ++ (step_of 0x80 ++ elsewhere))))))); wanted = 27 ∷ 42 ∷ [] }
    ∷ record { gives = said (look_over full (hall_of 1 (record_of 2 (blocked ++ (step_of 0x81 ++ (blocked ++ (step_of 0x80 ++ blocked))))))); wanted = 9 ∷ 52 ∷ [] }
    -- before the record's tail, which is 6 at 30 where the states agree
    ∷ record { gives = said (look_over full (hall_of 1 (tried blocked (elsewhere ++ (0x00 ∷ []))))); wanted = 27 ∷ 42 ∷ [] }
    ∷ record { gives = said (look_over full (hall_of 1 (tried blocked (blocked ++ (0x00 ∷ []))))); wanted = 6 ∷ 30 ∷ [] }
    ∷ record { gives = said (look_over short (hall_of 1 (tried blocked (blocked ++ (0x00 ∷ []))))); wanted = 27 ∷ 42 ∷ [] }
    ∷ record { gives = said (look_over short (hall_of 1 (tried blocked (none ++ (0x00 ∷ []))))); wanted = 6 ∷ 30 ∷ [] }
    ∷ []

-- Rows 9 and 10 of a step that did not go, at 42, before its 27; and such a step in an order, where the steps begin at 35.
abbrev pub marked_steps : List Case
marked_steps =
    -- moves 0, 2 and 127, of which the small hall has none; a fourth object, of which the record has three; a step that is cut
    record { gives = said (look_over full (hall_of 1 (record_of 1 (blocked ++ (step_of 0x80 ++ blocked))))); wanted = 9 ∷ 42 ∷ [] }
    ∷ record { gives = said (look_over short (hall_of 1 (record_of 1 (blocked ++ (step_of 0x80 ++ none))))); wanted = 9 ∷ 42 ∷ [] }
    ∷ record { gives = said (look_over full (hall_of 1 (record_of 1 (blocked ++ (step_of 0x82 ++ elsewhere))))); wanted = 9 ∷ 42 ∷ [] }
    ∷ record { gives = said (look_over full (hall_of 1 (record_of 1 (blocked ++ (step_of 0xff ++ blocked))))); wanted = 9 ∷ 42 ∷ [] }
    ∷ record { gives = said (look_over full (hall_of 1 (record_of 1 (blocked ++ ((0x81 ∷ 0x01 ∷ 0x02 ∷ 0x04 ∷ 0x00 ∷ []) ++ elsewhere))))); wanted = 9 ∷ 42 ∷ [] }
    ∷ record { gives = said (look_over full (hall_of 1 (record_of 1 (blocked ++ (0x81 ∷ 0x01 ∷ 0x02 ∷ 0x03 ∷ []))))); wanted = 9 ∷ 42 ∷ [] }
    -- spot 2 twice
    ∷ record { gives = said (look_over full (hall_of 1 (record_of 1 (blocked ++ ((0x81 ∷ 0x01 ∷ 0x02 ∷ 0x02 ∷ 0x00 ∷ []) ++ elsewhere))))); wanted = 10 ∷ 42 ∷ [] }
    ∷ record { gives = said (look_over short (hall_of 1 (record_of 1 (blocked ++ ((0x81 ∷ 0x01 ∷ 0x02 ∷ 0x02 ∷ 0x00 ∷ []) ++ elsewhere))))); wanted = 10 ∷ 42 ∷ [] }
    -- 18: as the first step of a plan, as the second, and 128
    ∷ record { gives = said_at (check full book (from_starts 1 passing_start (step_of 0x81)) end_sheet_size); wanted = 18 ∷ 35 ∷ 0 ∷ [] }
    ∷ record { gives = said_at (check short short_book (from_starts 1 passing_start (roll ++ (0x81 ∷ 0x01 ∷ 0x03 ∷ 0x04 ∷ 0x00 ∷ []))) end_sheet_size); wanted = 18 ∷ 40 ∷ 0 ∷ [] }
    ∷ record { gives = said_at (check full book (from_starts 1 passing_start (step_of 0x80)) end_sheet_size); wanted = 18 ∷ 35 ∷ 0 ∷ [] }
    ∷ []

-- Converting keeps the 128, there and back; and adding a record with such a step.
abbrev pub mark_kept : List Case
mark_kept =
    -- 30 + 28 + 22 = 80 bytes, short 30 + 34 + 19 = 83; two bytes of the output are left
    record { gives = convert_bytes short (with_record (tried blocked blocked)) (replicate 85 0xff); wanted = short_with_record (tried blocked none) ++ (0xff ∷ 0xff ∷ []) }
    ∷ record { gives = convert_bytes full (short_with_record (tried blocked none)) (replicate 82 0xff); wanted = with_record (tried blocked blocked) ++ (0xff ∷ 0xff ∷ []) }
    ∷ record { gives = said (convert short (with_record (tried blocked blocked)) 83); wanted = 0 ∷ 83 ∷ [] }
    ∷ record { gives = said (convert full (short_with_record (tried blocked none)) 79); wanted = 13 ∷ 0 ∷ [] }
    -- between steps that went; of move 2
    ∷ record { gives = convert_bytes short (hall_of 1 tried_between) (replicate 90 0xff); wanted = hall_of 1 short_tried_between }
    ∷ record { gives = convert_bytes full (hall_of 1 short_tried_between) (replicate 84 0xff); wanted = hall_of 1 tried_between }
    ∷ record { gives = convert_bytes short pushed (replicate 92 0xff); wanted = short_pushed }
    ∷ record { gives = convert_bytes full short_pushed (replicate 92 0xff); wanted = pushed }
    -- 28 is no row of converting; where the states differ, the output stays
    ∷ record { gives = said (convert short (with_record (tried ready ready)) 86); wanted = 0 ∷ 86 ∷ [] }
    ∷ record { gives = convert_bytes short (hall_of 1 (tried blocked elsewhere)) (replicate 60 0xff); wanted = replicate 60 0xff }
    -- added: 58 + 22 and 64 + 19 bytes; a step whose needs are met is added too, with 58 + 28
    ∷ record { gives = said (add full book (tried blocked blocked) 80); wanted = 0 ∷ 80 ∷ [] }
    ∷ record { gives = add_bytes full book (tried blocked blocked) (replicate 80 0xff); wanted = with_record (tried blocked blocked) }
    ∷ record { gives = said (add short short_book (tried blocked none) 83); wanted = 0 ∷ 83 ∷ [] }
    ∷ record { gives = add_bytes short short_book (tried blocked none) (replicate 83 0xff); wanted = short_with_record (tried blocked none) }
    ∷ record { gives = said (add full book (tried ready ready) 86); wanted = 0 ∷ 86 ∷ [] }
    -- 27 at its offset in the new book: 58 + 12 and 64 + 12
    ∷ record { gives = said (add full book (tried blocked elsewhere) 80); wanted = 27 ∷ 70 ∷ [] }
    ∷ record { gives = said (add short short_book (tried blocked elsewhere) 86); wanted = 27 ∷ 76 ∷ [] }
    ∷ record { gives = add_bytes full book (tried blocked elsewhere) (replicate 80 0xff); wanted = replicate 80 0xff }
    -- of the old book, before the length of the output
    ∷ record { gives = said (add full (hall_of 1 (tried blocked elsewhere)) cleared 0); wanted = 27 ∷ 42 ∷ [] }
    ∷ []

-- all of them; proofs/Cases.antt computes each list by itself
abbrev pub not_gone : List Case
not_gone = learned_without ++ (never_went ++ (needs_met ++ (needs_met_late ++ (states_differ ++ (marked_steps ++ mark_kept)))))
