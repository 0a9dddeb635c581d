-- Two books side by side, each in its form: when they show the same of a move, and the two sentences that say what follows for the rule sheet. `s` is of
-- form `F`, `t` of form `G`.
use Rattle.std.specs.Prelude.{ℕ, ◌+◌, ◌-◌, ◌*◌, ◌≤◌, ◌<◌, ◌≡◌, List, [], ◌∷◌, take, drop}
use Rattle.answer.specs.Answer.{Good}
use Rattle.input.specs.Bytes.{byte_at}
use Rattle.terms.specs.declared.Fact.{Fact}
use Rattle.terms.specs.Sections.{sections_of}
use Rattle.terms.specs.Steps.{object_of}
use Rattle.terms.specs.Agree.{SameSchema}
use Rattle.limits.specs.Limits.{relation_size, move_size, max_params, rule_size}
use Rattle.format.specs.Form.{Form}
use Rattle.format.specs.Decode.{RecordedStep}
use Rattle.format.specs.LookOver.{look_over}
use Rattle.quantify.specs.Quantify.{Mem}
use Rattle.jobs.specs.Planning.{went_steps, schema_of, steps_of_book}
use Rattle.jobs.specs.Learn.{rule_sheet}

-- equal relations and moves, byte by byte: their counts, and each byte of the two sections, wherever they begin; and one parent for each kind
-- that both books have, so that a book without parents agrees with one whose parents are all 0
pub record SameSections (s t : List ℕ) : Type 0 where
  pub parents : (k : ℕ) → 1 ≤ k → k ≤ (schema_of s).kinds → k ≤ (schema_of t).kinds → (schema_of s).parent k ≡ (schema_of t).parent k
  pub relations : (sections_of s).relations.count ≡ (sections_of t).relations.count
  pub moves : (sections_of s).moves.count ≡ (sections_of t).moves.count
  pub bytes : (i : ℕ) → i < relation_size * (sections_of s).relations.count + move_size * (sections_of s).moves.count
      → byte_at s ((sections_of s).relations.at + i) ≡ byte_at t ((sections_of t).relations.at + i)

-- Books of good form with such sections have schemas that say the same, which is what the two sentences below ask: bytes are one way to it.
abbrev pub SameSectionsSameSchema : Type 0
SameSectionsSameSchema = (F G : Form) (s t : List ℕ) (m n : ℕ) → look_over F s ≡ Good m → look_over G t ≡ Good n → SameSections s t
    → SameSchema (schema_of s) (schema_of t)

-- ---- the same steps of one move

-- the same step, states included, wherever each is recorded
pub record SameStep (x y : RecordedStep) : Type 0 where
  pub step : x.step ≡ y.step
  pub pre : x.pre ≡ y.pre
  pub post : x.post ≡ y.post

-- each step of move a that went which the one book holds, the other holds too, however often and wherever
pub record SameSteps (F G : Form) (s t : List ℕ) (a : ℕ) : Type 0 where
  pub forth : (x : RecordedStep) → Mem x (went_steps (steps_of_book F s)) → x.step.action.0 ≡ a → (y : RecordedStep) × Mem y (went_steps (steps_of_book G t)) × SameStep x y
  pub back : (y : RecordedStep) → Mem y (went_steps (steps_of_book G t)) → y.step.action.0 ≡ a → (x : RecordedStep) × Mem x (went_steps (steps_of_book F s)) × SameStep x y

-- the 128 bytes of move a
abbrev pub block_of : Form → List ℕ → ℕ → List ℕ
block_of F s a = take rule_size (drop (rule_size * (a - 1)) (rule_sheet F s))

-- Two books with equal relations and moves that hold the same steps of one move that went, states included, give that move the same 128 bytes.
-- Asked is good form alone: accepted books, which learning does not refuse, are among these.
abbrev pub SameStepsSameBlock : Type 0
SameStepsSameBlock = (F G : Form) (s t : List ℕ) (m n : ℕ) → look_over F s ≡ Good m → look_over G t ≡ Good n → SameSchema (schema_of s) (schema_of t)
    → (a : ℕ) → 1 ≤ a → a ≤ (schema_of s).moves → SameSteps F G s t a → block_of F s a ≡ block_of G t a

-- ---- objects renumbered

-- a renumbering of objects: no two get one number, and 0, which stands in an unused place, stays
pub record Renumbering (to : ℕ → ℕ) : Type 0 where
  pub none : to 0 ≡ 0
  pub apart : (x y : ℕ) → to x ≡ to y → x ≡ y

unfoldable pub renumbered : (ℕ → ℕ) → Fact → Fact
renumbered to f = record { relation = f.relation; first = record { 0 = to f.first.0 }; second = record { 0 = to f.second.0 } }

-- the facts of the second list are those of the first, renumbered; both being sorted, their sequence may differ
pub record RenumberedFacts (to : ℕ → ℕ) (fs gs : List Fact) : Type 0 where
  pub forth : (f : Fact) → Mem f fs → Mem (renumbered to f) gs
  pub back : (g : Fact) → Mem g gs → (f : Fact) × Mem f fs × (renumbered to f ≡ g)

-- a recorded step with its states, renumbered
pub record RenumberedStep (x y : RecordedStep) : Type 0 where
  pub to : ℕ → ℕ
  pub numbering : Renumbering to
  pub action : x.step.action ≡ y.step.action
  pub objects : (p : ℕ) → 1 ≤ p → p ≤ max_params
      → to (object_of x.step.binding (record { 0 = p })).0 ≡ (object_of y.step.binding (record { 0 = p })).0
  pub pre : RenumberedFacts to x.pre y.pre
  pub post : RenumberedFacts to x.post y.post

-- step by step, each with a renumbering of its own; the steps of one record may share theirs
abbrev pub RenumberedSteps : List RecordedStep → List RecordedStep → Type 0
RenumberedSteps [] [] = Unit {0}
RenumberedSteps [] (y ∷ ys) = ⊥
RenumberedSteps (x ∷ xs) [] = ⊥
RenumberedSteps (x ∷ xs) (y ∷ ys) = RenumberedStep x y × RenumberedSteps xs ys

-- Two books with equal relations and moves whose steps that went differ by the numbers of their objects alone give the same rule sheet.
abbrev pub RenumberedSameSheet : Type 0
RenumberedSameSheet = (F G : Form) (s t : List ℕ) (m n : ℕ) → look_over F s ≡ Good m → look_over G t ≡ Good n → SameSchema (schema_of s) (schema_of t)
    → RenumberedSteps (went_steps (steps_of_book F s)) (went_steps (steps_of_book G t)) → rule_sheet F s ≡ rule_sheet G t
