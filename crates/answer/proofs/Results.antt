-- Laws of results taken as answers: the exits of a `?`, and what follows it.
use Rattle.std.proofs.Common.{ℕ, ◌≡◌, ◌+◌, ◌<◌, ◌-◌, Result, Ok, Err, sym, ap, ◌∙◌}
use Rattle.answer.specs.Answer.{Answer, Good, Refused, ◌>>=◌}
use Rattle.answer.specs.declared.Refusal.{Refusal}
use Rattle.answer.specs.Refusal.{refused_by, answer_of, answer_by, row_of}
use Rattle.answer.specs.Walk.{walk}
use Rattle.answer.proofs.Laws.{bind_good, bind_refused}
use Rattle.answer.proofs.Turns.{turn_refused, turn_good}

module _ (x : Answer) (r : Result ℕ Refusal) (is : answer_of r ≡ x) where
  -- what the answer is where the result is an error, and where it is none
  pub err_is : (e : Refusal) → r ≡ Err e → x ≡ refused_by e
  err_is e p = sym is ∙ ap answer_of p

  pub ok_is : (n : ℕ) → r ≡ Ok n → x ≡ Good n
  ok_is n p = sym is ∙ ap answer_of p

  -- the exit of a `?` is the answer of a sequence, and after a good part the sequence is what follows
  pub part_err : (k : ℕ → Answer) (e : Refusal) → r ≡ Err e → refused_by e ≡ (x >>= k)
  part_err k e p = sym (bind_refused x k _ _ (err_is e p))

  pub part_ok : (k : ℕ → Answer) (n : ℕ) → r ≡ Ok n → (x >>= k) ≡ k n
  part_ok k n p = bind_good x k n (ok_is n p)

-- the same of a row, whose good answer has no number
module _ {A : Type 0} (x : Answer) (r : Result A Refusal) (is : row_of r ≡ x) where
  pub row_err_is : (e : Refusal) → r ≡ Err e → x ≡ refused_by e
  row_err_is e p = sym is ∙ ap row_of p

  pub row_ok_is : (a : A) → r ≡ Ok a → x ≡ Good 0
  row_ok_is a p = sym is ∙ ap row_of p

  pub row_err : (k : ℕ → Answer) (e : Refusal) → r ≡ Err e → refused_by e ≡ (x >>= k)
  row_err k e p = sym (bind_refused x k _ _ (row_err_is e p))

  pub row_ok : (k : ℕ → Answer) (a : A) → r ≡ Ok a → (x >>= k) ≡ k 0
  row_ok k a p = bind_good x k 0 (row_ok_is a p)

-- the same of a result with more than a number
module _ {A : Type 0} (f : A → ℕ) (x : Answer) (r : Result A Refusal) (is : answer_by f r ≡ x) where
  pub by_err_is : (e : Refusal) → r ≡ Err e → x ≡ refused_by e
  by_err_is e p = sym is ∙ ap (answer_by f) p

  pub by_ok_is : (a : A) → r ≡ Ok a → x ≡ Good (f a)
  by_ok_is a p = sym is ∙ ap (answer_by f) p

-- a turn of a loop that walks, by what the item's call returned (Turns has the same of answers)
module _ (item : ℕ → Answer) (whole : Answer) (n at : ℕ) (left : walk item n at ≡ whole) (some : 0 < n) (r : Result ℕ Refusal) (is : answer_of r ≡ item at) where
  pub turn_err : (e : Refusal) → r ≡ Err e → refused_by e ≡ whole
  turn_err e p = turn_refused item whole n at _ _ (answer_of r) left some is (ap answer_of p)

  pub turn_ok : (next : ℕ) → r ≡ Ok next → walk item (n - 1) next ≡ whole
  turn_ok next p = turn_good item whole n at next (answer_of r) left some is (ap answer_of p)
