-- The promises of the calls for C, each for all inputs. `r` is what the call returns: `packed` of an answer and a position is number times
-- 2^48, plus position times 2^32, plus place, and each of the three is read back from it.
use Rattle.std.specs.Prelude.{ℕ, ◌/◌, ◌%◌, ◌<◌, ◌≡◌, not, List, eqb, length}
use Rattle.answer.specs.Answer.{Answer, number, place, packed}
use Rattle.format.specs.Form.{Form}
use Rattle.format.specs.LookOver.{look_over}
use Rattle.jobs.specs.Learn.{learn, learn_bytes}
use Rattle.jobs.specs.Check.{check, check_bytes}
use Rattle.jobs.specs.Add.{add, add_bytes}
use Rattle.jobs.specs.Convert.{convert, convert_bytes}

-- an answer about the start of an order at a position, or about none of them (0), stands in `r`: number, position and place apart
pub record Says (a : Answer) (position r : ℕ) : Type 0 where
  pub packs : r ≡ packed a position
  pub number_fits : number a < 65536
  pub position_fits : position < 65536
  pub place_fits : place a < 4294967296
  pub number_read : r / 281474976710656 ≡ number a
  pub position_read : r / 4294967296 % 65536 ≡ position
  pub place_read : r % 4294967296 ≡ place a

-- the form of a book, by the number that a call is given: 0 for a full book, any other for a short one
unfoldable pub form_of : ℕ → Form
form_of n = not (eqb n 0)

-- looking over writes nothing
abbrev pub LookedOver : Form → List ℕ → ℕ → Type 0
LookedOver form book r = Says (look_over form book) 0 r

-- learning: the answer, and every byte of the lent sheet afterwards
pub record Learned (form : Form) (book old new : List ℕ) (r : ℕ) : Type 0 where
  pub answer : Says (learn form book (length old)) 0 r
  pub sheet : new ≡ learn_bytes form book old

-- checking: the answer with its position, which is 0 unless by 19 or 20, and every byte of the lent end sheet afterwards
pub record Checked (form : Form) (book order old new : List ℕ) (r : ℕ) : Type 0 where
  pub answer : Says (check form book order (length old)).answer (check form book order (length old)).position r
  pub elsewhere : (number (check form book order (length old)).answer ≡ 19 → ⊥) → (number (check form book order (length old)).answer ≡ 20 → ⊥)
      → (check form book order (length old)).position ≡ 0
  pub end : new ≡ check_bytes form book order old

-- adding: the answer, and every byte of the lent output afterwards
pub record Added (form : Form) (book record' old new : List ℕ) (r : ℕ) : Type 0 where
  pub answer : Says (add form book record' (length old)) 0 r
  pub out : new ≡ add_bytes form book record' old

-- converting a book of the other form to the form `to`: the answer, and every byte of the lent output afterwards
pub record Converted (to : Form) (book old new : List ℕ) (r : ℕ) : Type 0 where
  pub answer : Says (convert to book (length old)) 0 r
  pub out : new ≡ convert_bytes to book old
