-- What a plan comes to from one start, as a verdict and as an answer, and from a list of starts: the first that fails. No book is asked.
use Prim.Native.Nat.{ℕ, zero, suc}
use mathlib.Core.Path.{◌≡◌, refl, sym, ap, ◌∙◌}
use mathlib.Core.Bool.{true, false}
use mathlib.Core.List.{List, [], ◌∷◌, map}
use native.Mathlib.Omega.{arith}
use Rattle.answer.specs.Answer.{Answer, Good, Refused, Positioned, is_refused, unpositioned}
use Rattle.answer.specs.Table.{table, row_from, row, up_to, MetFrom}
use Rattle.answer.proofs.Refusals.{from_good, from_refused}
use Rattle.quantify.specs.Quantify.{first}
use Rattle.model.specs.Domain.{State, GoalLiteral}
use Rattle.model.specs.Model.{Run, stopped, ended}
use Rattle.model.specs.Judge.{Verdict, stops, misses, passes, wrong}
use Rattle.model.specs.Check.{reached, judged_run}
use Rattle.jobs.specs.Check.{goal_answer, run_answer, first_failing}
use Rattle.jobs.proofs.Starts.{failing_none, failing_here, failing_later}
use Rattle.demand.specs.Demand3.{answer_by}

-- ---- one start
-- what a run comes to, with the goal: as a verdict, and as an answer
pub data Comes (steps : ℕ) : Run → Verdict → Answer → Type 0 where
  stopping : (k : ℕ) → Comes steps (stopped k) (stops k) (Refused 19 k)
  missing : (end : State) (i : ℕ) → Comes steps (ended end) (misses i) (Refused 20 i)
  passing : (end : State) → Comes steps (ended end) (passes end) (Good steps)

pub comes : (steps : ℕ) (goal : List GoalLiteral) (r : Run) → Comes steps r (judged_run goal r) (run_answer steps goal r)
unfolding judged_run reached run_answer goal_answer
comes steps goal (stopped k) = stopping k
comes steps goal (ended end) = go (first (wrong end) goal)
  where
    go : (i : ℕ) → Comes steps (ended end) (reached end i) (goal_answer steps i)
    go zero = passing end
    go (suc i) = missing end (suc i)

-- no run is refused with a row before 13
from_comes : (steps : ℕ) (r : Run) (v : Verdict) (a : Answer) → Comes steps r v a → MetFrom 13 a
unfolding table row_from row up_to
from_comes steps r v a (stopping k) = from_refused 13 19 k refl
from_comes steps r v a (missing end i) = from_refused 13 20 i refl
from_comes steps r v a (passing end) = from_good 13 steps

-- a run that comes to a pass ended there, and its answer is good
pub pass_comes : (steps : ℕ) (r : Run) (v : Verdict) (a : Answer) → Comes steps r v a → (end : State) → v ≡ passes end → (r ≡ ended end) × (a ≡ Good steps)
pass_comes steps r v a (stopping k) end e = absurd (let z : ◌≡◌ {A = ℕ} 0 1 = cc in omega arith)
pass_comes steps r v a (missing st i) end e = absurd (let z : ◌≡◌ {A = ℕ} 0 1 = cc in omega arith)
pass_comes steps r v a (passing st) end e = (let z : st ≡ end = cc in ap ended z, refl)

-- ---- the first start that fails
-- a start that fails gives the whole answer, at its position; where it passes, those after it do
abbrev Turn : ℕ → Answer → Positioned → Positioned → Type 0
Turn k a next whole = (is_refused a ≡ true → whole ≡ record { answer = a; position = k }) × (is_refused a ≡ false → whole ≡ next)

from_turn : (k : ℕ) (a : Answer) (next whole : Positioned) → Turn k a next whole → MetFrom 13 a → MetFrom 13 next.answer → MetFrom 13 whole.answer
unfolding is_refused
from_turn k (Good n) next whole t from later = rw (t.1 refl) later
from_turn k (Refused num p) next whole t from later = rw (t.0 refl) from

by_none : (refusal : Answer) (steps k : ℕ) → answer_by refusal steps k [] ≡ unpositioned (Good steps)
unfolding answer_by
by_none refusal steps k = refl

-- what a start's verdict and those after it come to is the answer, too
turn_by : (refusal : Answer) (steps k : ℕ) (next whole : Positioned) (r : Run) (v : Verdict) (a : Answer) (vs : List Verdict)
    → Comes steps r v a → Turn k a next whole → next ≡ answer_by refusal steps (suc k) vs → whole ≡ answer_by refusal steps k (v ∷ vs)
unfolding is_refused answer_by
turn_by refusal steps k next whole r v a vs (stopping j) t e = t.0 refl
turn_by refusal steps k next whole r v a vs (missing end i) t e = t.0 refl
turn_by refusal steps k next whole r v a vs (passing end) t e = t.1 refl ∙ e

module _ (steps : ℕ) (goal : List GoalLiteral) (runs : State → Run) where
  -- the answer of each start alone, and that of the first in a list that fails
  abbrev pub alone : State → Answer
  alone start = run_answer steps goal (runs start)

  abbrev pub failing : ℕ → List State → Positioned
  failing = first_failing alone steps

  first_turn : (k : ℕ) (start : State) (rest : List State) → Turn k (alone start) (failing (suc k) rest) (failing k (start ∷ rest))
  first_turn k start rest = (failing_here alone steps k start rest, failing_later alone steps k start rest)

  pub from_failing : (k : ℕ) (starts : List State) → MetFrom 13 (failing k starts).answer
  unfolding first_failing unpositioned
  from_failing k [] = from_good 13 steps
  from_failing k (start ∷ rest) =
      from_turn k _ _ _ (first_turn k start rest) (from_comes steps _ _ _ (comes steps goal (runs start))) (from_failing (suc k) rest)

  -- The first start that fails gives what the verdicts come to.
  pub failing_by : (refusal : Answer) (k : ℕ) (starts : List State) → failing k starts ≡ answer_by refusal steps k (map (λ start. judged_run goal (runs start)) starts)
  failing_by refusal k [] = failing_none alone steps k ∙ sym (by_none refusal steps k)
  failing_by refusal k (start ∷ rest) =
      turn_by refusal steps k _ _ _ _ _ _ (comes steps goal (runs start)) (first_turn k start rest) (failing_by refusal (suc k) rest)
