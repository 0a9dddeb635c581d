-- Demand 2: each bit of the rule sheet, said by the models that fit the book (a need is set if some of them has it, an effect if all of them have
-- it), and by the recorded steps that went.
-- The models are those that the judge holds (`FitsBook` of jobs/specs/Judge.antt); `rule_sheet` is what learning writes.
use Rattle.std.specs.Prelude.{ℕ, ◌*◌, ◌≤◌, ◌<◌, ◌≡◌, ◌↔◌, Bool, true, false, not, List, length}
use Rattle.limits.specs.Limits.{rule_size, max_atoms}
use Rattle.answer.specs.Answer.{Good}
use Rattle.terms.specs.declared.Fact.{Fact}
use Rattle.terms.specs.Steps.{is_atom, ground}
use Rattle.format.specs.Form.{Form}
use Rattle.format.specs.Decode.{RecordedStep}
use Rattle.format.specs.LookOver.{look_over}
use Rattle.quantify.specs.Quantify.{Mem}
use Rattle.model.specs.Model.{Model}
use Rattle.jobs.specs.Planning.{schema_of, steps_of_book}
use Rattle.jobs.specs.Learn.{learnable, rule_sheet, learn, learn_bytes}
use Rattle.jobs.specs.SheetBits.{needed_set, needed_not_set, added_set, removed_set, sheet_bit}
use Rattle.jobs.specs.Judge.{FitsBook}
use Rattle.demand.specs.Demand3.{NoneFits, Impossible}
use Rattle.factsets.specs.Holding.{holding}

-- whether bound fact n, with the objects of the recorded step in, holds among the facts given
abbrev pub value_in : List ℕ → RecordedStep → List Fact → ℕ → Bool
value_in s x fs n = holding fs (ground (schema_of s) x.step.binding n)

-- what the bit of bound fact n of move a says in a set of needs, `b` being the value that is needed
pub record NeedBit (form : Form) (s : List ℕ) (set : ℕ) (b : Bool) (a n : ℕ) : Type 0 where
  -- It is set exactly if some fitting model needs it so,
  pub by_some : sheet_bit (rule_sheet form s) set a n ≡ true ↔ ((M : Model) × FitsBook form s M × (M.precondition b a n ≡ true))
  -- exactly if n is a bound fact of the move that had the value before every recorded step of it that went (formula 1).
  pub by_record : sheet_bit (rule_sheet form s) set a n ≡ true
      ↔ ((is_atom (schema_of s) a n ≡ true) × ((x : RecordedStep) → Mem x (steps_of_book form s) → x.went ≡ true → x.step.action.0 ≡ a → value_in s x x.pre n ≡ b))

-- and in a set of effects, `b` being the value that is given
pub record EffectBit (form : Form) (s : List ℕ) (set : ℕ) (b : Bool) (a n : ℕ) : Type 0 where
  -- It is set exactly if every fitting model has the effect,
  pub by_every : sheet_bit (rule_sheet form s) set a n ≡ true ↔ ((M : Model) → FitsBook form s M → M.effect b a n ≡ true)
  -- exactly if n is a bound fact of the move that some recorded step of it that went changed to the value (formula 2).
  pub by_record : sheet_bit (rule_sheet form s) set a n ≡ true
      ↔ ((is_atom (schema_of s) a n ≡ true)
      × ((x : RecordedStep) × Mem x (steps_of_book form s) × (x.went ≡ true) × (x.step.action.0 ≡ a) × (value_in s x x.pre n ≡ not b) × (value_in s x x.post n ≡ b)))

-- what the four bits of bound fact n of move a say
pub record Bits (form : Form) (s : List ℕ) (a n : ℕ) : Type 0 where
  pub needed : NeedBit form s needed_set true a n
  pub needed_not : NeedBit form s needed_not_set false a n
  pub added : EffectBit form s added_set true a n
  pub removed : EffectBit form s removed_set false a n
  -- Bits of no bound fact are 0.
  pub of_none : is_atom (schema_of s) a n ≡ false → (set : ℕ) → set < 4 → sheet_bit (rule_sheet form s) set a n ≡ false

-- of a book that is learned
pub record SheetRight (form : Form) (s : List ℕ) : Type 0 where
  -- the sheet has 128 bytes for each move, and a lent sheet of that length has them afterwards
  pub long : length (rule_sheet form s) ≡ rule_size * (schema_of s).moves
  pub written : (lent : List ℕ) → length lent ≡ rule_size * (schema_of s).moves → learn_bytes form s lent ≡ rule_sheet form s
  -- each bit of each move is right
  pub bits : (a n : ℕ) → 1 ≤ a → a ≤ (schema_of s).moves → n < max_atoms → Bits form s a n

-- of a book of good form
pub record LearningRight (form : Form) (s : List ℕ) : Type 0 where
  -- It is refused with 11, 12 or 28 exactly if no model fits it, whatever lent sheet comes with it.
  pub refused : (size : ℕ) → Impossible (learn form s size) ↔ NoneFits form s
  -- If it is not refused, its rule sheet is right.
  pub learned : (total : ℕ) → learnable form s ≡ Good total → SheetRight form s

-- Demand 2, of every book of good form
abbrev pub Demand2 : Type 0
Demand2 = (form : Form) (s : List ℕ) (n : ℕ) → look_over form s ≡ Good n → LearningRight form s
