-- Two good books that hold the same transitions (steps, with their states), each in its form, get the same sheet, the same answers apart from the
-- places of 11 and 28, and the same verdicts. `s` is of form `F`, `t` of form `G`. A book and its converted twin are such books.
use Rattle.std.specs.Prelude.{ℕ, ◌≤◌, ◌≡◌, ◌↔◌, Bool, false, ◌&&◌, not, List, length}
use Rattle.answer.specs.Answer.{Answer, Good, number, place}
use Rattle.answer.specs.Table.{is_impossible, is_book_offset}
use Rattle.limits.specs.Limits.{max_length}
use Rattle.terms.specs.Agree.{SameSchema}
use Rattle.format.specs.Form.{Form}
use Rattle.format.specs.Decode.{RecordedStep}
use Rattle.format.specs.LookOver.{look_over}
use Rattle.quantify.specs.Quantify.{Mem}
use Rattle.model.specs.Domain.{State}
use Rattle.model.specs.Model.{Model}
use Rattle.model.specs.Judge.{Verdict}
use Rattle.jobs.specs.Planning.{schema_of, steps_of_book}
use Rattle.jobs.specs.Learn.{rule_sheet, learn, learn_bytes}
use Rattle.jobs.specs.Check.{check, check_bytes}
use Rattle.jobs.specs.Convert.{converted}
use Rattle.jobs.specs.Judge.{FitsBook, StartVerdict}
use Rattle.converted.specs.Converted.{unplaced}

-- the two books can be compared: both are of good form with as many steps, and their schemas say the same, with as many kinds
pub record Comparable (F G : Form) (s t : List ℕ) (n : ℕ) : Type 0 where
  pub good : look_over F s ≡ Good n
  pub good' : look_over G t ≡ Good n
  pub schema : SameSchema (schema_of s) (schema_of t)
  pub kinds : (schema_of s).kinds ≡ (schema_of t).kinds

-- they say the same: their steps are the same in the same sequence, states included, wherever each is recorded
pub record SameBooks (F G : Form) (s t : List ℕ) (n : ℕ) : Type 0 where
  pub comparable : Comparable F G s t n
  pub steps : unplaced (steps_of_book F s) ≡ unplaced (steps_of_book G t)

-- they have the same transitions: a step, states included, that is recorded in the one, as having gone or not, is recorded so in the other. The
-- sequence may differ, and how often a step is recorded; but both books have as many steps in all, since the place of success is their number
pub record SameTransitions (F G : Form) (s t : List ℕ) (n : ℕ) : Type 0 where
  pub comparable : Comparable F G s t n
  pub steps : (x : RecordedStep) → Mem x (unplaced (steps_of_book F s)) ↔ Mem x (unplaced (steps_of_book G t))

-- no model fits, and the place is an offset in the book: the number is 11 or 28
abbrev pub placed_apart : ℕ → Bool
placed_apart num = is_impossible num && is_book_offset num

-- the same number; and the same place, unless that is an offset in its own book
pub record SameAnswer (a b : Answer) : Type 0 where
  pub number_same : number a ≡ number b
  pub place_same : placed_apart (number a) ≡ false → place a ≡ place b

-- what the calls and the judge say of the one book, they say of the other: learning into a sheet of any size, checking any order, whatever the
-- bytes lent; the judge holds the same models, and says the same of any order's plan, right or not, from any start
pub record SameAnswers (F G : Form) (s t : List ℕ) : Type 0 where
  pub sheet : rule_sheet F s ≡ rule_sheet G t
  pub learning : (size : ℕ) → SameAnswer (learn F s size) (learn G t size)
  pub learned_bytes : (lent : List ℕ) → learn_bytes F s lent ≡ learn_bytes G t lent
  pub checking : (o : List ℕ) (size : ℕ) → SameAnswer (check F s o size).answer (check G t o size).answer
  pub position : (o : List ℕ) (size : ℕ) → (check F s o size).position ≡ (check G t o size).position
  pub checked_bytes : (o lent : List ℕ) → check_bytes F s o lent ≡ check_bytes G t o lent
  pub fitting : (M : Model) → FitsBook F s M ↔ FitsBook G t M
  pub verdicts : (o : List ℕ) (start : State) (v : Verdict) → StartVerdict F s o start v ↔ StartVerdict G t o start v

-- Books with the same transitions get the same answers,
abbrev pub SameTransitionsSameAnswers : Type 0
SameTransitionsSameAnswers = (F G : Form) (s t : List ℕ) (n : ℕ) → SameTransitions F G s t n → SameAnswers F G s t

-- and so do books that say the same.
abbrev pub SameBooksSameAnswers : Type 0
SameBooksSameAnswers = (F G : Form) (s t : List ℕ) (n : ℕ) → SameBooks F G s t n → SameAnswers F G s t

-- A good book and the same book converted, where that does not pass 60,000 bytes, say the same,
abbrev pub EitherForm : Type 0
EitherForm = (form : Form) (s : List ℕ) (n : ℕ) → look_over form s ≡ Good n → length (converted (not form) s) ≤ max_length
    → SameBooks form (not form) s (converted (not form) s) n

-- and so get the same answers, either one first.
abbrev pub EitherFormSameAnswers : Type 0
EitherFormSameAnswers = (form : Form) (s : List ℕ) (n : ℕ) → look_over form s ≡ Good n → length (converted (not form) s) ≤ max_length
    → SameAnswers form (not form) s (converted (not form) s) × SameAnswers (not form) form (converted (not form) s) s
