-- Laws of answers with a position: rows that are met before any start is looked at, and what follows them.
use Prim.Native.Nat.{ℕ}
use mathlib.Core.Path.{◌≡◌, refl}
use mathlib.Core.Bool.{true, false}
use Rattle.answer.specs.Answer.{Answer, Good, Refused, Positioned, ◌>>=◌, is_refused, unpositioned, then_at}
use Rattle.truth.specs.Bools.{clash}

-- a refusal is the answer, and has no position
pub then_refused : (a : Answer) (r : Positioned) → is_refused a ≡ true → unpositioned a ≡ then_at a r
unfolding is_refused then_at
then_refused (Good n) r e = clash false e refl
then_refused (Refused n p) r e = refl

-- after a good answer the answer is the one that follows
pub then_by : (a : Answer) (r : Positioned) (n : ℕ) → a ≡ Good n → then_at a r ≡ r
unfolding then_at
then_by a r n e = rw e

-- number and place are those of the rows in order
pub then_answer : (a : Answer) (r : Positioned) → (then_at a r).answer ≡ (a >>= λ _. r.answer)
unfolding ◌>>=◌ then_at unpositioned
then_answer (Good n) r = refl
then_answer (Refused n p) r = refl
