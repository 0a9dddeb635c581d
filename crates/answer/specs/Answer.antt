-- An answer's number and place as the paper has them, the order of rows (the first refusal met is the answer), and what a call leaves behind.
use Rattle.std.specs.Prelude.{ℕ, ◌+◌, ◌*◌, Bool, true, false, List, [], ◌∷◌}

-- good, with a number: where the next part starts or, of a whole job, the place of its success; or refused, with the number of the refusal and its place
pub data Answer : Type 0 where
  Good : ℕ → Answer
  Refused : ℕ → ℕ → Answer

-- what a check answers: an answer, and which of the order's starts, counted from 1, it is about; 0 where it is about none of them
pub record Positioned : Type 0 where
  pub answer : Answer
  pub position : ℕ

infixl 20 ◌>>=◌
-- an answer and what follows it: a refusal is the answer of both; else the answer is what follows, asked with the number that is good
unfoldable pub ◌>>=◌ : Answer → (ℕ → Answer) → Answer
Good n >>= k = k n
Refused n p >>= k = Refused n p

-- a row of the refusal table: its test, number and place
unfoldable pub refuse : Bool → ℕ → ℕ → Answer
refuse true n p = Refused n p
refuse false n p = Good 0

-- a row over a list: the first member for which the test holds is refused with the number, at its own place
unfoldable pub first_refused : {A : Type 0} → (A → Bool) → ℕ → (A → ℕ) → List A → Answer
first_refused bad num placed [] = Good 0
first_refused bad num placed (x ∷ xs) = do
  _ ← refuse (bad x) num (placed x)
  first_refused bad num placed xs

unfoldable pub is_refused : Answer → Bool
is_refused (Good n) = false
is_refused (Refused n p) = true

unfoldable pub value_of : Answer → ℕ
value_of (Good n) = n
value_of (Refused n p) = 0

-- the number that a call returns: 0 is success
unfoldable pub number : Answer → ℕ
number (Good n) = 0
number (Refused n p) = n

-- the place that a call returns
unfoldable pub place : Answer → ℕ
place (Good n) = n
place (Refused n p) = p

-- an answer that is about no start of an order
unfoldable pub unpositioned : Answer → Positioned
unpositioned a = record { answer = a; position = 0 }

-- an answer about no start, and then one with a position: a refusal of the first is the answer, with position 0; else the second is the answer
unfoldable pub then_at : Answer → Positioned → Positioned
then_at (Good n) r = r
then_at (Refused n p) r = unpositioned (Refused n p)

-- number, position and place as C has them: number times 2^48, plus position times 2^32, plus place
unfoldable pub packed : Answer → ℕ → ℕ
packed a position = number a * 281474976710656 + position * 4294967296 + place a

-- the greatest number that the bits from 48 on have room for
abbrev pub max_number : ℕ
max_number = 65535

-- lent bytes after a call: the new ones on success, the old ones on a refusal
unfoldable pub kept : Answer → List ℕ → List ℕ → List ℕ
kept (Good n) new old = new
kept (Refused n p) new old = old
