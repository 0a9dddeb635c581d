-- The refusal table as data: its numbers in the paper's order, where in it an answer is met, and which of its rows are alike in what they say or in
-- what their place is. Nothing may assume that numbers grow along it.
use Rattle.std.specs.Prelude.{ℕ, suc, ◌≡◌, Bool, true, false, ◌||◌, List, [], ◌∷◌, leb, eqb}
use Rattle.answer.specs.Answer.{Answer, Refused}

-- 6 is met at three rows: record head, record's tail (after 27) and book's tail; 14 at two: length and counts of an order, and its offsets
-- (after 22). Each stands at the first of them
unfoldable pub table : List ℕ
table = 1 ∷ 2 ∷ 3 ∷ 21 ∷ 4 ∷ 5 ∷ 6 ∷ 24 ∷ 7 ∷ 8 ∷ 9 ∷ 10 ∷ 27 ∷ 11 ∷ 12 ∷ 28 ∷ 23 ∷ 13 ∷ 14 ∷ 22 ∷ 15 ∷ 16 ∷ 17 ∷ 18 ∷ 19 ∷ 20 ∷ []

-- where a number stands in a list whose first place is `i`, 0 where it does not
unfoldable pub row_from : List ℕ → ℕ → ℕ → ℕ
row_from [] i num = 0
row_from (n ∷ ns) i num = elim (eqb n num) [ true ↦ i | false ↦ row_from ns (suc i) num ]

-- the row of a number, from 1
unfoldable pub row : ℕ → ℕ
row num = row_from table 1 num

-- the row of m is that of n, or before it
unfoldable pub up_to : ℕ → ℕ → Bool
up_to m n = leb (row m) (row n)

-- a number whose row is that of m, that of n, or between the two
abbrev pub Between : ℕ → ℕ → ℕ → Type 0
Between m n num = (up_to m num ≡ true) × (up_to num n ≡ true)

-- every refusal of the answer is met at the row of m or later
abbrev pub MetFrom : ℕ → Answer → Type 0
MetFrom m a = (num p : ℕ) → a ≡ Refused num p → up_to m num ≡ true

-- ---- rows that are alike

-- the number is in the list
unfoldable pub among : List ℕ → ℕ → Bool
among [] num = false
among (n ∷ ns) num = eqb n num || among ns num

-- no model (rule list) fits the book
unfoldable pub impossible_rows : List ℕ
impossible_rows = 11 ∷ 12 ∷ 28 ∷ []

unfoldable pub is_impossible : ℕ → Bool
is_impossible num = among impossible_rows num

-- the place is an offset in the book: of a parent, a relation, a move, a record, an object, a fact or its list's count, a step
unfoldable pub book_offset_rows : List ℕ
book_offset_rows = 21 ∷ 4 ∷ 5 ∷ 6 ∷ 24 ∷ 7 ∷ 8 ∷ 9 ∷ 10 ∷ 27 ∷ 11 ∷ 28 ∷ []

unfoldable pub is_book_offset : ℕ → Bool
is_book_offset num = among book_offset_rows num
