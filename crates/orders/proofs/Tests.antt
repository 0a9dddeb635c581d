-- The tests of rows 16 to 18, and the tables' objects, put together from what the calls in the code return.
use Prim.Native.Nat.{ℕ, ◌+◌, ◌≤◌, ◌<◌}
use mathlib.Core.Path.{◌≡◌, sym, ap, ◌∙◌}
use mathlib.Core.Bool.{Bool, ◌||◌, not, or_assoc}
use mathlib.Core.List.{List}
use lib.Dec.{ltb}
use native.Mathlib.Omega.{arith}
use borrow.Author.Tests.{lt-ltb, le-ltb}
use Rattle.answer.specs.Answer.{Good, Refused}
use Rattle.answer.proofs.Laws.{bind_good, refuse_met, refuse_unmet}
use Rattle.answer.specs.Walk.{walk}
use Rattle.std.proofs.Common.{Result, Ok, Err, IsErrAnd, MatchResult}
use Rattle.answer.specs.declared.Refusal.{Refusal}
use Rattle.answer.specs.Refusal.{refused_by, answer_of}
use Rattle.states.specs.declared.WrongFact.{WrongFact}
use Rattle.states.specs.Wrong.{refused_as}
use Rattle.input.specs.Bytes.{byte_at}
use Rattle.terms.specs.declared.Objects.{Objects}
use Rattle.terms.specs.Schema.{Schema, TypedObjects, typed_objects}
use Rattle.terms.specs.Facts.{fact_at, fact_bad, precedes}
use Rattle.limits.specs.Limits.{max_objects, entry_size, near_ceiling}
use Rattle.format.specs.Filed.{as_written}
use Rattle.format.specs.States.{state}
use Rattle.format.specs.Order.{object_count, start_count, start_at, goal_at, order_objects, starts_form, entry_bad}
use Rattle.tables.specs.Tables.{RightByKind}
use Rattle.states.specs.declared.FactCursor.{FactCursor}
use Rattle.states.specs.Cursor.{misplaced}
use Rattle.states.proofs.Cursors.{fact_of_lem}

module _ (sch : Schema) (ob : TypedObjects) (o : List ℕ) where
  -- row 16 behind the starts, by what their walk and the header say
  module _ (last end : ℕ) (walked : walk (state as_written 16 sch ob o (goal_at o)) (start_count o) (start_at o) ≡ Good last) (at : end ≡ goal_at o) where
    pub at_rest : last < end → Refused 16 last ≡ starts_form sch ob o
    unfolding starts_form
    at_rest h = sym (bind_good _ _ _ walked ∙ refuse_met _ _ _ _ (lt-ltb last (goal_at o) (omega arith)))

    pub at_goal : end ≤ last → Good end ≡ starts_form sch ob o
    unfolding starts_form
    at_goal h = ap Good at ∙ sym (bind_good _ _ _ walked ∙ refuse_unmet _ _ _ _ (le-ltb last (goal_at o) (omega arith)))

  -- row 17, as the code meets it
  pub entry_bad_by : (c : FactCursor) (wanted : ℕ) (b : Bool)
      → c.size ≡ entry_size
      → wanted ≡ byte_at o c.at
      → b ≡ misplaced sch ob o c
      → (ltb 1 wanted || b) ≡ entry_bad sch ob o c.last c.at
  unfolding entry_bad misplaced
  entry_bad_by c wanted b e p q =
      rw (p, q, fact_of_lem sch ob o c (c.at + 1) (omega arith))
      (sym (or_assoc (ltb 1 (byte_at o c.at)) (fact_bad sch ob (fact_at o (c.at + 1))) (not (precedes c.last (fact_at o (c.at + 1))))))

-- what a start comes to, by what its list came to
pub as_start : (r : Result ℕ WrongFact) (m : Result ℕ Refusal) (Q : WrongFact → Refusal → Type 0)
    → MatchResult r (λ n. m ≡ Ok n) (λ w. IsErrAnd m (Q w))
    → ((w : WrongFact) (e : Refusal) → Q w e → refused_by e ≡ Refused 16 w.0)
    → answer_of m ≡ refused_as 16 r
as_start (Ok n) m Q cases same = ap answer_of cases
as_start (Err w) (Ok n) Q cases same = absurd cases
as_start (Err w) (Err e) Q cases same = same w e cases

-- the objects stand after the header, and are few enough for a table
pub objects_fit : (o : List ℕ) (objects : Objects) → objects ≡ order_objects o → object_count o ≤ max_objects → (objects.at ≤ near_ceiling) × (objects.count < 32)
unfolding order_objects
objects_fit o objects e l = rw e (omega arith, omega arith)

-- the tables are those of the order's own objects
pub own_kinds : (sch : Schema) (o ks : List ℕ) (objects : Objects) → objects ≡ order_objects o
    → RightByKind sch (typed_objects objects o) ks → RightByKind sch (typed_objects (order_objects o) o) ks
own_kinds sch o ks objects e right = rw e at right
