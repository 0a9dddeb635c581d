-- A state's rows as the code meets them, and what format/proofs/States says of facts and states, for this crate's callers.
use Prim.Native.Nat.{ℕ, ◌+◌, ◌≤◌}
use mathlib.Core.Path.{◌≡◌, refl}
use mathlib.Core.Bool.{true, false}
use mathlib.Core.List.{List}
use lib.Dec.{ltb}
use borrow.Author.Tests.{le-ltb}
use Rattle.answer.specs.Answer.{Refused}
use Rattle.answer.proofs.Laws.{refuse_met, refuse_unmet}
use Rattle.input.specs.Bytes.{two}
use Rattle.terms.specs.Schema.{Schema, TypedObjects}
use Rattle.terms.specs.Facts.{no_fact}
use Rattle.format.specs.Filed.{as_written}
use Rattle.format.specs.States.{cut, count_bad, facts, list}

module _ (most : ℕ) (s : List ℕ) (end : ℕ) where
  pub count_whole : (at n : ℕ) → at + 2 ≤ end → n ≡ two s at → ltb most n ≡ count_bad most s end at
  unfolding count_bad cut
  count_whole at n h e = rw (e, le-ltb end (at + 2) h) refl

module _ (num most : ℕ) (sch : Schema) (ob : TypedObjects) (s : List ℕ) (end : ℕ) where
  -- a list whose count is refused, and one whose count is not
  pub list_refused : (at : ℕ) → count_bad most s end at ≡ true → list as_written num most sch ob s end at ≡ Refused num at
  unfolding list
  list_refused at e = refuse_met _ _ _ _ e

  pub list_facts : (at n : ℕ) → count_bad most s end at ≡ false → n ≡ two s at → list as_written num most sch ob s end at ≡ facts as_written num sch ob s end n no_fact (at + 2)
  unfolding list
  list_facts at n e q = rw q (refuse_unmet _ _ _ _ e)
