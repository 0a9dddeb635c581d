-- Records in another sequence (filing late): two good books with the same bytes before the records and the same records, each as often, get the same
-- sheet, the same answers apart from the places of 11 and 28, and the same verdicts (`SameAnswers`). Of each form; both books are of the form given.
use Rattle.std.specs.Prelude.{ℕ, ◌≡◌}
use mathlib.Core.List.{List, ◌++◌, flatten, Permᴰ}
use Rattle.answer.specs.Answer.{Good}
use Rattle.format.specs.Form.{Form}
use Rattle.format.specs.LookOver.{look_over}
use Rattle.format.specs.Parts.{sections_part, records_of}
use Rattle.twins.specs.Twins.{SameAnswers}

-- the same entries, each as often, in whatever sequence: made of swaps of neighbours
abbrev pub Permutation : List (List ℕ) → List (List ℕ) → Type 0
Permutation rs us = Permᴰ rs us

-- the books have the same bytes before the records, and the same records, each a string of bytes
pub record Permuted (s t : List ℕ) : Type 0 where
  pub sections : sections_part s ≡ sections_part t
  pub records : Permutation (records_of s) (records_of t)

-- Two such books of good form have as many steps, and get the same answers. If no model fits them, they are refused both by 11 or both by 28, each at
-- an offset of its own, or both by 12 with the same move (`SameAnswer`).
abbrev pub PermutedSameAnswers : Type 0
PermutedSameAnswers = (form : Form) (s t : List ℕ) (m n : ℕ) → look_over form s ≡ Good m → look_over form t ≡ Good n → Permuted s t
    → (m ≡ n) × SameAnswers form form s t

-- ---- every sequence

-- the records given, behind the sections of a book
abbrev pub refiled : List ℕ → List (List ℕ) → List ℕ
refiled s rs = sections_part s ++ flatten rs

-- it is a book of good form, with as many steps, whose sections are those of the book, and whose records are the ones given, in their sequence
pub record RefiledGood (form : Form) (s : List ℕ) (n : ℕ) (rs : List (List ℕ)) : Type 0 where
  pub good : look_over form (refiled s rs) ≡ Good n
  pub sections : sections_part (refiled s rs) ≡ sections_part s
  pub records : records_of (refiled s rs) ≡ rs

-- The records of a good book in any sequence make such a book, and it gets the answers that the good book gets.
abbrev pub AnySequenceIsGood : Type 0
AnySequenceIsGood = (form : Form) (s : List ℕ) (n : ℕ) → look_over form s ≡ Good n → (rs : List (List ℕ)) → Permutation (records_of s) rs
    → RefiledGood form s n rs × SameAnswers form form s (refiled s rs)
