-- What a good answer says of the masks that it came from.
use Prim.Native.Nat.{ℕ, zero, suc}
use mathlib.Core.Path.{◌≡◌, refl, sym}
use mathlib.Core.List.{List}
use Rattle.answer.specs.Answer.{Good}
use Rattle.answer.proofs.Laws.{good_refused}
use Rattle.format.specs.Order.{GoalEntry}
use Rattle.jobs.specs.Check.{goal_answer}
use Rattle.statemask.specs.Statemask.{Executed, missed}
use Rattle.statemask.specs.Executing.{executed_answer}

-- masks that come to a good answer have not stopped, and its place is the plan's step count
pub executed_ends : (c : Executed) (steps : ℕ) (goals : List GoalEntry) (m : ℕ) → executed_answer steps goals c ≡ Good m → (c.stop ≡ 0) × (m ≡ steps)
unfolding executed_answer goal_answer
executed_ends c steps goals m e = go c.stop refl
  where
    reach : (i : ℕ) → goal_answer steps i ≡ Good m → m ≡ steps
    reach zero h = cc
    reach (suc i) h = good_refused m 20 (suc i) (sym h)

    go : (k : ℕ) → c.stop ≡ k → (k ≡ 0) × (m ≡ steps)
    go zero h = (refl, reach (missed c.mask goals) (rw h at e))
    go (suc k) h = good_refused m 19 (suc k) (sym (rw h at e))
