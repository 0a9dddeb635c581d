-- "From each start alone", over bytes: what a check says of an order is put together from what it says of the orders that have one of its starts each.
-- `alone` of jobs/specs/Alone.antt says which bytes those are. Of every book, of good form or not.
use Rattle.std.specs.Prelude.{ℕ, ◌+◌, ◌<◌, ◌≡◌, List, [], ◌∷◌, map, length}
use Rattle.limits.specs.Limits.{header_size, end_sheet_size}
use Rattle.answer.specs.Answer.{Good, Refused}
use Rattle.input.specs.Bytes.{byte_at}
use Rattle.format.specs.Form.{Form}
use Rattle.format.specs.Order.{object_count, start_count, step_count, order_form, starts, goal, plan}
use Rattle.quantify.specs.Quantify.{Mem}
use Rattle.jobs.specs.Planning.{schema_of}
use Rattle.jobs.specs.Learn.{learnable}
use Rattle.jobs.specs.Check.{first_failing, check, check_bytes}
use Rattle.jobs.specs.Alone.{alone}

-- of an order of good form
pub record EachStart (form : Form) (s o : List ℕ) : Type 0 where
  -- Each of these orders has one start and the order's objects, goal and plan, and is of good form; their starts, in sequence, are the order's.
  pub one : map starts (alone o) ≡ map (λ start. start ∷ []) (starts o)
  pub objects : (p : List ℕ) → Mem p (alone o)
      → (object_count p ≡ object_count o) × ((i : ℕ) → i < object_count o → byte_at p (header_size + i) ≡ byte_at o (header_size + i))
  pub goals : (p : List ℕ) → Mem p (alone o) → goal p ≡ goal o
  pub plans : (p : List ℕ) → Mem p (alone o) → plan p ≡ plan o
  pub good : (p : List ℕ) → Mem p (alone o) → order_form (schema_of s) p ≡ Good (length p)
  -- With a book that is learned, the check's answer is the first of theirs that is a refusal, with its position among them; where none is, it is the
  -- step count, with position 0.
  pub learned : (n : ℕ) → learnable form s ≡ Good n
      → check form s o end_sheet_size ≡ first_failing (λ p. (check form s p end_sheet_size).answer) (step_count o) 1 (alone o)
  -- With a book that is not, each of them has the answer that the order has, whatever lent output comes with it.
  pub unlearned : (num at : ℕ) → learnable form s ≡ Refused num at → (p : List ℕ) → Mem p (alone o) → (size : ℕ) → check form s o size ≡ check form s p size
  -- Of an order with one start, both answer and end sheet are those of that start alone, whatever lent output comes with it.
  pub only : start_count o ≡ 1 → (p : List ℕ) → Mem p (alone o) → (lent : List ℕ)
      → (check form s o (length lent) ≡ check form s p (length lent)) × (check_bytes form s o lent ≡ check_bytes form s p lent)

-- Of every book, and every order of good form with it.
abbrev pub FromEachStart : Type 0
FromEachStart = (form : Form) (s o : List ℕ) (n : ℕ) → order_form (schema_of s) o ≡ Good n → EachStart form s o
