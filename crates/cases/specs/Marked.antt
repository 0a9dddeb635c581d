-- The marked cases M1 to M10 of the paper and its limits: the bytes of their books and orders, what the definitions give, and what the paper says.
use Rattle.std.specs.Prelude.{ℕ, zero, suc, ◌+◌, ◌/◌, ◌%◌, cond, List, [], ◌∷◌, ◌++◌, map, length, take, replicate}
use Rattle.limits.specs.Limits.{rule_size, end_sheet_size}
use Rattle.answer.specs.Answer.{Answer, Positioned, number, place}
use Rattle.format.specs.Form.{full}
use Rattle.format.specs.LookOver.{look_over}
use Rattle.jobs.specs.Planning.{start_states}
use Rattle.jobs.specs.Learn.{learn}
use Rattle.jobs.specs.Check.{order_run, check, check_bytes}
use Rattle.jobs.specs.Listing.{rules_printed}
use Rattle.model.specs.Model.{Run, stopped, ended}

-- the small hall
abbrev pub book : List ℕ
book =
    0x00 ∷ 0x02 ∷ 0x00 ∷ 0x02 ∷ 0x00 ∷ 0x01 ∷ 0x00 ∷ 0x01 ∷ 0x00 ∷ 0x10 ∷ 0x00 ∷ 0x18
    ∷ 0x00 ∷ 0x1e ∷ 0x00 ∷ 0x3a ∷ 0x02 ∷ 0x01 ∷ 0x02 ∷ 0x00 ∷ 0x01 ∷ 0x02 ∷ 0x00 ∷ 0x00
    ∷ 0x03 ∷ 0x01 ∷ 0x02 ∷ 0x02 ∷ 0x00 ∷ 0x00 ∷ 0x03 ∷ 0x01 ∷ 0x00 ∷ 0x1c ∷ 0x01 ∷ 0x02
    ∷ 0x02 ∷ 0x00 ∷ 0x02 ∷ 0x01 ∷ 0x01 ∷ 0x02 ∷ 0x02 ∷ 0x03 ∷ 0x00 ∷ 0x01 ∷ 0x01 ∷ 0x02
    ∷ 0x03 ∷ 0x00 ∷ 0x00 ∷ 0x02 ∷ 0x01 ∷ 0x01 ∷ 0x03 ∷ 0x02 ∷ 0x02 ∷ 0x00 ∷ []

-- the small hall with other records in place of its own: how many they are, and their bytes, of which there are at most 225
abbrev pub hall_of : ℕ → List ℕ → List ℕ
hall_of count records =
    (0x00 ∷ 0x02 ∷ 0x00 ∷ 0x02 ∷ 0x00 ∷ 0x01 ∷ 0x00 ∷ count ∷ 0x00 ∷ 0x10 ∷ 0x00 ∷ 0x18 ∷ 0x00 ∷ 0x1e ∷ 0x00 ∷ (0x1e + length records) ∷ [])
    ++ (0x02 ∷ 0x01 ∷ 0x02 ∷ 0x00 ∷ 0x01 ∷ 0x02 ∷ 0x00 ∷ 0x00 ∷ 0x03 ∷ 0x01 ∷ 0x02 ∷ 0x02 ∷ 0x00 ∷ 0x00 ∷ [])
    ++ records

-- M6: record count 0 and end 30, the record left out
abbrev pub book6 : List ℕ
book6 =
    0x00 ∷ 0x02 ∷ 0x00 ∷ 0x02 ∷ 0x00 ∷ 0x01 ∷ 0x00 ∷ 0x00 ∷ 0x00 ∷ 0x10 ∷ 0x00 ∷ 0x18
    ∷ 0x00 ∷ 0x1e ∷ 0x00 ∷ 0x1e ∷ 0x02 ∷ 0x01 ∷ 0x02 ∷ 0x00 ∷ 0x01 ∷ 0x02 ∷ 0x00 ∷ 0x00
    ∷ 0x03 ∷ 0x01 ∷ 0x02 ∷ 0x02 ∷ 0x00 ∷ 0x00 ∷ []

-- M7: no relations, one move of no parameters, no records
abbrev book7 : List ℕ
book7 =
    0x00 ∷ 0x00 ∷ 0x00 ∷ 0x00 ∷ 0x00 ∷ 0x01 ∷ 0x00 ∷ 0x00 ∷ 0x00 ∷ 0x10 ∷ 0x00 ∷ 0x10
    ∷ 0x00 ∷ 0x16 ∷ 0x00 ∷ 0x16 ∷ 0x00 ∷ 0x00 ∷ 0x00 ∷ 0x00 ∷ 0x00 ∷ 0x00 ∷ []

-- M9: a second record, the same as the first but for an empty last state
abbrev book9 : List ℕ
book9 =
    0x00 ∷ 0x02 ∷ 0x00 ∷ 0x02 ∷ 0x00 ∷ 0x01 ∷ 0x00 ∷ 0x02 ∷ 0x00 ∷ 0x10 ∷ 0x00 ∷ 0x18
    ∷ 0x00 ∷ 0x1e ∷ 0x00 ∷ 0x50 ∷ 0x02 ∷ 0x01 ∷ 0x02 ∷ 0x00 ∷ 0x01 ∷ 0x02 ∷ 0x00 ∷ 0x00
    ∷ 0x03 ∷ 0x01 ∷ 0x02 ∷ 0x02 ∷ 0x00 ∷ 0x00 ∷ 0x03 ∷ 0x01 ∷ 0x00 ∷ 0x1c ∷ 0x01 ∷ 0x02
    ∷ 0x02 ∷ 0x00 ∷ 0x02 ∷ 0x01 ∷ 0x01 ∷ 0x02 ∷ 0x02 ∷ 0x03 ∷ 0x00 ∷ 0x01 ∷ 0x01 ∷ 0x02
    ∷ 0x03 ∷ 0x00 ∷ 0x00 ∷ 0x02 ∷ 0x01 ∷ 0x01 ∷ 0x03 ∷ 0x02 ∷ 0x02 ∷ 0x00 ∷ 0x03 ∷ 0x01
    ∷ 0x00 ∷ 0x16 ∷ 0x01 ∷ 0x02 ∷ 0x02 ∷ 0x00 ∷ 0x02 ∷ 0x01 ∷ 0x01 ∷ 0x02 ∷ 0x02 ∷ 0x03
    ∷ 0x00 ∷ 0x01 ∷ 0x01 ∷ 0x02 ∷ 0x03 ∷ 0x00 ∷ 0x00 ∷ 0x00 ∷ []

-- The orders have bank 1 and spots 2, 3, 4, the bank at 2, spots 3 and 4 clear, if not said otherwise.

-- roll 1 2 3, roll 1 3 4; goal object 1 at 4. It is told the kind of object 1
abbrev pub rolls_of : ℕ → List ℕ
rolls_of kind =
    0x00 ∷ 0x04 ∷ 0x00 ∷ 0x01 ∷ 0x00 ∷ 0x01 ∷ 0x00 ∷ 0x02 ∷ 0x00 ∷ 0x10 ∷ 0x00 ∷ 0x14
    ∷ 0x00 ∷ 0x1f ∷ 0x00 ∷ 0x23 ∷ kind ∷ 0x02 ∷ 0x02 ∷ 0x02 ∷ 0x00 ∷ 0x03 ∷ 0x01 ∷ 0x01
    ∷ 0x02 ∷ 0x02 ∷ 0x03 ∷ 0x00 ∷ 0x02 ∷ 0x04 ∷ 0x00 ∷ 0x01 ∷ 0x01 ∷ 0x01 ∷ 0x04 ∷ 0x01
    ∷ 0x01 ∷ 0x02 ∷ 0x03 ∷ 0x00 ∷ 0x01 ∷ 0x01 ∷ 0x03 ∷ 0x04 ∷ 0x00 ∷ []

abbrev order2 : List ℕ
order2 = rolls_of 1

-- the same, with spot 2 also clear at the start
abbrev pub order3 : List ℕ
order3 =
    0x00 ∷ 0x04 ∷ 0x00 ∷ 0x01 ∷ 0x00 ∷ 0x01 ∷ 0x00 ∷ 0x02 ∷ 0x00 ∷ 0x10 ∷ 0x00 ∷ 0x14
    ∷ 0x00 ∷ 0x22 ∷ 0x00 ∷ 0x26 ∷ 0x01 ∷ 0x02 ∷ 0x02 ∷ 0x02 ∷ 0x00 ∷ 0x04 ∷ 0x01 ∷ 0x01
    ∷ 0x02 ∷ 0x02 ∷ 0x02 ∷ 0x00 ∷ 0x02 ∷ 0x03 ∷ 0x00 ∷ 0x02 ∷ 0x04 ∷ 0x00 ∷ 0x01 ∷ 0x01
    ∷ 0x01 ∷ 0x04 ∷ 0x01 ∷ 0x01 ∷ 0x02 ∷ 0x03 ∷ 0x00 ∷ 0x01 ∷ 0x01 ∷ 0x03 ∷ 0x04 ∷ 0x00 ∷ []

-- no steps; goal bank at 2
abbrev order4 : List ℕ
order4 =
    0x00 ∷ 0x04 ∷ 0x00 ∷ 0x01 ∷ 0x00 ∷ 0x01 ∷ 0x00 ∷ 0x00 ∷ 0x00 ∷ 0x10 ∷ 0x00 ∷ 0x14
    ∷ 0x00 ∷ 0x1f ∷ 0x00 ∷ 0x23 ∷ 0x01 ∷ 0x02 ∷ 0x02 ∷ 0x02 ∷ 0x00 ∷ 0x03 ∷ 0x01 ∷ 0x01
    ∷ 0x02 ∷ 0x02 ∷ 0x03 ∷ 0x00 ∷ 0x02 ∷ 0x04 ∷ 0x00 ∷ 0x01 ∷ 0x01 ∷ 0x01 ∷ 0x02 ∷ []

-- no steps; goal bank at 4
abbrev pub order5 : List ℕ
order5 =
    0x00 ∷ 0x04 ∷ 0x00 ∷ 0x01 ∷ 0x00 ∷ 0x01 ∷ 0x00 ∷ 0x00 ∷ 0x00 ∷ 0x10 ∷ 0x00 ∷ 0x14
    ∷ 0x00 ∷ 0x1f ∷ 0x00 ∷ 0x23 ∷ 0x01 ∷ 0x02 ∷ 0x02 ∷ 0x02 ∷ 0x00 ∷ 0x03 ∷ 0x01 ∷ 0x01
    ∷ 0x02 ∷ 0x02 ∷ 0x03 ∷ 0x00 ∷ 0x02 ∷ 0x04 ∷ 0x00 ∷ 0x01 ∷ 0x01 ∷ 0x01 ∷ 0x04 ∷ []

-- one roll of bank 1 from a spot to a spot; no goal
abbrev pub rolled : ℕ → ℕ → List ℕ
rolled from to =
    0x00 ∷ 0x04 ∷ 0x00 ∷ 0x01 ∷ 0x00 ∷ 0x00 ∷ 0x00 ∷ 0x01 ∷ 0x00 ∷ 0x10 ∷ 0x00 ∷ 0x14
    ∷ 0x00 ∷ 0x1f ∷ 0x00 ∷ 0x1f ∷ 0x01 ∷ 0x02 ∷ 0x02 ∷ 0x02 ∷ 0x00 ∷ 0x03 ∷ 0x01 ∷ 0x01
    ∷ 0x02 ∷ 0x02 ∷ 0x03 ∷ 0x00 ∷ 0x02 ∷ 0x04 ∷ 0x00 ∷ 0x01 ∷ 0x01 ∷ from ∷ to ∷ 0x00 ∷ []

-- no objects, no fact at the start; the move of no parameters
abbrev order7 : List ℕ
order7 =
    0x00 ∷ 0x00 ∷ 0x00 ∷ 0x01 ∷ 0x00 ∷ 0x00 ∷ 0x00 ∷ 0x01 ∷ 0x00 ∷ 0x10 ∷ 0x00 ∷ 0x10
    ∷ 0x00 ∷ 0x12 ∷ 0x00 ∷ 0x12 ∷ 0x00 ∷ 0x00 ∷ 0x01 ∷ 0x00 ∷ 0x00 ∷ 0x00 ∷ 0x00 ∷ []

-- M1: what the program prints
abbrev pub printed : List ℕ
printed =
    0x6d ∷ 0x6f ∷ 0x76 ∷ 0x65 ∷ 0x73 ∷ 0x20 ∷ 0x31 ∷ 0x20 ∷ 0x72 ∷ 0x65 ∷ 0x63 ∷ 0x6f ∷ 0x72 ∷ 0x64 ∷ 0x73 ∷ 0x20
    ∷ 0x31 ∷ 0x20 ∷ 0x73 ∷ 0x74 ∷ 0x65 ∷ 0x70 ∷ 0x73 ∷ 0x20 ∷ 0x31 ∷ 0x0a ∷ 0x31 ∷ 0x20 ∷ 0x31 ∷ 0x20 ∷ 0x31 ∷ 0x20
    ∷ 0x32 ∷ 0x20 ∷ 0x48 ∷ 0x20 ∷ 0x52 ∷ 0x0a ∷ 0x31 ∷ 0x20 ∷ 0x31 ∷ 0x20 ∷ 0x31 ∷ 0x20 ∷ 0x33 ∷ 0x20 ∷ 0x4e ∷ 0x20
    ∷ 0x41 ∷ 0x0a ∷ 0x31 ∷ 0x20 ∷ 0x32 ∷ 0x20 ∷ 0x32 ∷ 0x20 ∷ 0x30 ∷ 0x20 ∷ 0x4e ∷ 0x20 ∷ 0x41 ∷ 0x0a ∷ 0x31 ∷ 0x20
    ∷ 0x32 ∷ 0x20 ∷ 0x33 ∷ 0x20 ∷ 0x30 ∷ 0x20 ∷ 0x48 ∷ 0x20 ∷ 0x52 ∷ 0x0a ∷ []

-- what a case gives, and what the paper says
pub record Case : Type 0 where
  pub gives : List ℕ
  pub wanted : List ℕ

-- number and place of an answer; of a check also the position of the start that it is about
abbrev pub said : Answer → List ℕ
said a = number a ∷ place a ∷ []

abbrev pub said_at : Positioned → List ℕ
said_at r = number r.answer ∷ place r.answer ∷ r.position ∷ []

-- whether each of the facts holds where the run ends: 1 or 0. (All 4,096 of M2 at once would take too long to compute.)
abbrev values_at : Run → List ℕ → List ℕ
values_at (stopped k) fs = []
values_at (ended end) fs = map (λ f. cond (end f) 1 0) fs

-- the same from each start in turn
abbrev pub values_from : List Run → List ℕ → List ℕ
values_from [] fs = []
values_from (r ∷ rs) fs = values_at r fs ++ values_from rs fs

-- an output lent for an end sheet
abbrev pub lent : List ℕ
lent = replicate end_sheet_size 0xff

-- the bytes of a number of facts of a relation with two places: for each n from `from` on the pair of objects n / objects + 1 and n % objects + 1
abbrev pub pairs : ℕ → ℕ → ℕ → ℕ → List ℕ
pairs relation objects zero from = []
pairs relation objects (suc left) from = relation ∷ (from / objects + 1) ∷ (from % objects + 1) ∷ pairs relation objects left (suc from)

-- a step of a move of no parameters, numbered 1, and a state of no facts after it
abbrev to_nothing : List ℕ
to_nothing = 1 ∷ 0 ∷ 0 ∷ 0 ∷ 0 ∷ 0 ∷ 0 ∷ []

-- a book of one relation over two places and 16 objects, and a move of no parameters, with one record of a state of all its facts and one step
abbrev dense : List ℕ
dense =
    (0 ∷ 1 ∷ 0 ∷ 1 ∷ 0 ∷ 1 ∷ 0 ∷ 1 ∷ 0 ∷ 16 ∷ 0 ∷ 20 ∷ 0 ∷ 26 ∷ 0x03 ∷ 0x37 ∷ [])
    ++ (2 ∷ 1 ∷ 1 ∷ 0 ∷ [])
    ++ (0 ∷ 0 ∷ 0 ∷ 0 ∷ 0 ∷ 0 ∷ [])
    ++ (16 ∷ 1 ∷ 0x03 ∷ 0x1d ∷ [])
    ++ replicate 16 1
    ++ (1 ∷ 0 ∷ [])
    ++ pairs 1 16 256 0
    ++ to_nothing

-- the same with a relation of no places more, and with its fact as the 257th
abbrev denser : List ℕ
denser =
    (0 ∷ 1 ∷ 0 ∷ 2 ∷ 0 ∷ 1 ∷ 0 ∷ 1 ∷ 0 ∷ 16 ∷ 0 ∷ 24 ∷ 0 ∷ 30 ∷ 0x03 ∷ 0x3e ∷ [])
    ++ (2 ∷ 1 ∷ 1 ∷ 0 ∷ 0 ∷ 0 ∷ 0 ∷ 0 ∷ [])
    ++ (0 ∷ 0 ∷ 0 ∷ 0 ∷ 0 ∷ 0 ∷ [])
    ++ (16 ∷ 1 ∷ 0x03 ∷ 0x20 ∷ [])
    ++ replicate 16 1
    ++ (1 ∷ 1 ∷ [])
    ++ pairs 1 16 256 0
    ++ (2 ∷ 0 ∷ 0 ∷ [])
    ++ to_nothing

-- a book of 60,000 bytes: one relation over two places, two moves of no parameters, and 64 copies of one record of 937 bytes, which has 10
-- objects and 3 steps between four equal states of 75 facts. The header is told the count of records and the end.
abbrev pub long_header : ℕ → ℕ → List ℕ
long_header records end = 0 ∷ 1 ∷ 0 ∷ 1 ∷ 0 ∷ 2 ∷ 0 ∷ records ∷ 0 ∷ 16 ∷ 0 ∷ 20 ∷ 0 ∷ 32 ∷ (end / 256) ∷ (end % 256) ∷ []

abbrev pub long_sections : List ℕ
long_sections = 2 ∷ 1 ∷ 1 ∷ 0 ∷ 0 ∷ 0 ∷ 0 ∷ 0 ∷ 0 ∷ 0 ∷ 0 ∷ 0 ∷ 0 ∷ 0 ∷ 0 ∷ 0 ∷ []

abbrev crowded : List ℕ
crowded = 0 ∷ 75 ∷ pairs 1 10 75 0

abbrev pub long_record : List ℕ
long_record =
    (10 ∷ 3 ∷ 0x03 ∷ 0xa9 ∷ [])
    ++ (replicate 10 1 ++ (crowded ++ ((1 ∷ 0 ∷ 0 ∷ 0 ∷ 0 ∷ crowded) ++ ((1 ∷ 0 ∷ 0 ∷ 0 ∷ 0 ∷ crowded) ++ (1 ∷ 0 ∷ 0 ∷ 0 ∷ 0 ∷ crowded)))))

unfoldable pub copies : ℕ → List ℕ → List ℕ
copies zero r = []
copies (suc n) r = r ++ copies n r

abbrev pub long : List ℕ
long = long_header 64 60000 ++ (long_sections ++ copies 64 long_record)

abbrev pub marked : List Case
marked =
    record { gives = rules_printed book; wanted = printed }
    ∷ record { gives = said_at (check full book order2 end_sheet_size); wanted = 0 ∷ 2 ∷ 0 ∷ [] }
    ∷ record { gives = values_from (map (order_run full book order2) (start_states order2)) (1 ∷ 2 ∷ 3 ∷ 272 ∷ 288 ∷ 304 ∷ []); wanted = 0 ∷ 0 ∷ 1 ∷ 1 ∷ 1 ∷ 0 ∷ [] }
    ∷ record { gives = said_at (check full book order3 end_sheet_size); wanted = 19 ∷ 1 ∷ 1 ∷ [] }
    ∷ record { gives = check_bytes full book order3 lent; wanted = lent }
    ∷ record { gives = said_at (check full book order4 end_sheet_size); wanted = 0 ∷ 0 ∷ 0 ∷ [] }
    ∷ record { gives = said_at (check full book order5 end_sheet_size); wanted = 20 ∷ 1 ∷ 1 ∷ [] }
    ∷ record { gives = said_at (check full book6 (rolled 2 3) end_sheet_size); wanted = 19 ∷ 1 ∷ 1 ∷ [] }
    ∷ record { gives = said_at (check full book6 (rolled 2 4) end_sheet_size); wanted = 19 ∷ 1 ∷ 1 ∷ [] }
    ∷ record { gives = said_at (check full book6 (rolled 3 2) end_sheet_size); wanted = 19 ∷ 1 ∷ 1 ∷ [] }
    ∷ record { gives = said_at (check full book6 (rolled 3 4) end_sheet_size); wanted = 19 ∷ 1 ∷ 1 ∷ [] }
    ∷ record { gives = said_at (check full book6 (rolled 4 2) end_sheet_size); wanted = 19 ∷ 1 ∷ 1 ∷ [] }
    ∷ record { gives = said_at (check full book6 (rolled 4 3) end_sheet_size); wanted = 19 ∷ 1 ∷ 1 ∷ [] }
    ∷ record { gives = said_at (check full book7 order7 end_sheet_size); wanted = 0 ∷ 1 ∷ 0 ∷ [] }
    ∷ record { gives = check_bytes full book7 order7 lent; wanted = replicate end_sheet_size 0 }
    ∷ record { gives = said_at (check full book (rolled 2 2) end_sheet_size); wanted = 18 ∷ 31 ∷ 0 ∷ [] }
    ∷ record { gives = said (learn full book9 rule_size); wanted = 12 ∷ 1 ∷ [] }
    ∷ record { gives = said (look_over full (take 15 book)); wanted = 1 ∷ 0 ∷ [] }
    ∷ record { gives = said (look_over full dense); wanted = 0 ∷ 1 ∷ [] }
    ∷ record { gives = said (look_over full denser); wanted = 8 ∷ 50 ∷ [] }
    ∷ record { gives = said (look_over full long); wanted = 0 ∷ 192 ∷ [] }
    ∷ record { gives = said (look_over full (long ++ (0 ∷ []))); wanted = 1 ∷ 0 ∷ [] }
    ∷ []
