-- Demand 3, whole: what learning and checking say of a book of good form is what the judge says, who never sees the rule sheet.
-- The judge is `FitsBook` and `StartVerdict` of jobs/specs/Judge.antt; `learn`, `check` and `check_bytes` are what the calls return and leave
-- behind. His verdict is on one start of an order alone; the check's answer is made of his verdicts on all of its starts (`answer_by`).
use Rattle.std.specs.Prelude.{ℕ, suc, ◌≤◌, ◌<◌, ◌≡◌, ◌↔◌, true, false, List, [], ◌∷◌, length}
use Rattle.limits.specs.Limits.{end_sheet_size, max_fact_numbers, max_starts}
use Rattle.answer.specs.Answer.{Answer, Good, Refused, Positioned, number, unpositioned}
use Rattle.answer.specs.Table.{is_impossible}
use Rattle.mask.specs.Bits.{test_bit}
use Rattle.format.specs.Form.{Form}
use Rattle.format.specs.LookOver.{look_over}
use Rattle.format.specs.Order.{step_count, order_form}
use Rattle.model.specs.Domain.{State}
use Rattle.model.specs.Model.{Model}
use Rattle.model.specs.Judge.{Verdict, impossible, stops, misses, passes}
use Rattle.jobs.specs.Planning.{schema_of, start_states}
use Rattle.jobs.specs.Learn.{learnable, learn}
use Rattle.jobs.specs.Check.{check, check_bytes}
use Rattle.jobs.specs.Judge.{FitsBook, StartVerdict}

-- no model (rule list) fits the book
abbrev pub NoneFits : Form → List ℕ → Type 0
NoneFits form s = (M : Model) → FitsBook form s M → ⊥

-- the number is that of a row by which no model fits, 11, 12 or 28
abbrev pub Impossible : Answer → Type 0
Impossible a = is_impossible (number a) ≡ true

-- each of the starts has its verdict by a judge, in the same sequence
pub data Verdicts (Judges : State → Verdict → Type 0) : List State → List Verdict → Type 0 where
  none : Verdicts Judges [] []
  more : {start : State} {v : Verdict} {starts : List State} {vs : List Verdict} → Judges start v → Verdicts Judges starts vs → Verdicts Judges (start ∷ starts) (v ∷ vs)

-- A check's number, place and position by the verdicts on its starts, the first of which has position k: the first verdict that is no pass gives
-- them, at the position of its start; if all are passes, the place is the plan's step count. Where no model fits, they are those of `refusal`, which is
-- about no start.
unfoldable pub answer_by : Answer → ℕ → ℕ → List Verdict → Positioned
answer_by refusal steps k [] = unpositioned (Good steps)
answer_by refusal steps k (impossible ∷ vs) = unpositioned refusal
answer_by refusal steps k (stops j ∷ vs) = record { answer = Refused 19 j; position = k }
answer_by refusal steps k (misses i ∷ vs) = record { answer = Refused 20 i; position = k }
answer_by refusal steps k (passes end ∷ vs) = answer_by refusal steps (suc k) vs

-- the end sheet holds the state: 512 bytes, the bits set being just the facts that hold
pub record Shows (sheet : List ℕ) (end : State) : Type 0 where
  pub long : length sheet ≡ end_sheet_size
  pub bits : (n : ℕ) → n < max_fact_numbers → test_bit sheet n ≡ end n
  -- a fact that has no bit in the sheet does not hold
  pub others : (n : ℕ) → max_fact_numbers ≤ n → end n ≡ false

-- the calls and the judge agree on a book
pub record JudgeAgrees (form : Form) (s : List ℕ) : Type 0 where
  -- The judge says impossible exactly when no model fits the book, whatever the order and the start.
  pub unfit : (o : List ℕ) (start : State) → StartVerdict form s o start impossible ↔ NoneFits form s
  -- Learning answers 11, 12 or 28 exactly then, whatever lent output comes with the book.
  pub learning : (size : ℕ) → Impossible (learn form s size) ↔ NoneFits form s
  -- And so does checking, whatever order and lent output come with the book.
  pub checking : (o : List ℕ) (size : ℕ) → Impossible (check form s o size).answer ↔ NoneFits form s
  -- For every order of good form with an end sheet of 512 bytes: the check's number, place and position are what his verdicts on the order's starts, in
  -- file order, give. Where he says impossible, the check answers what learning answers (11, 12 or 28, by the lines above).
  pub verdicts : (o : List ℕ) (n : ℕ) → order_form (schema_of s) o ≡ Good n
      → (vs : List Verdict) → Verdicts (StartVerdict form s o) (start_states o) vs → check form s o end_sheet_size ≡ answer_by (learnable form s) (step_count o) 1 vs
  -- On a pass of an order with one start the bits set in the end sheet are just the facts of his end state.
  pub sheet : (o : List ℕ) (n : ℕ) → order_form (schema_of s) o ≡ Good n
      → (start : State) → start_states o ≡ start ∷ [] → (end : State) → StartVerdict form s o start (passes end)
      → (lent : List ℕ) → length lent ≡ end_sheet_size → Shows (check_bytes form s o lent) end
  -- With more than one start the lent end sheet is left as it was.
  pub unwritten : (o : List ℕ) (first second : State) (rest : List State) → start_states o ≡ first ∷ second ∷ rest → (lent : List ℕ) → check_bytes form s o lent ≡ lent
  -- An order of good form has a start. The judge has a verdict on each of its starts, and only one: so the lines above are not true merely because
  -- there is no start or no verdict.
  pub starts : (o : List ℕ) (n : ℕ) → order_form (schema_of s) o ≡ Good n → (1 ≤ length (start_states o)) × (length (start_states o) ≤ max_starts)
  pub some : (o : List ℕ) (n : ℕ) → order_form (schema_of s) o ≡ Good n → (start : State) → (v : Verdict) × StartVerdict form s o start v
  pub one : (o : List ℕ) (start : State) (v w : Verdict) → StartVerdict form s o start v → StartVerdict form s o start w → v ≡ w

-- Demand 3: of every book of good form.
abbrev pub Demand3 : Type 0
Demand3 = (form : Form) (s : List ℕ) (n : ℕ) → look_over form s ≡ Good n → JudgeAgrees form s
