-- The judge: the semantics over all models that he holds, as a verdict. This file cites nothing that is learned.
use Rattle.std.specs.Prelude.{ℕ, ◌≤◌, ◌≡◌, Bool, true, not, List}
use Rattle.quantify.specs.Quantify.{same, has}
use Rattle.model.specs.Domain.{Domain, State, GroundAction, GoalLiteral}
use Rattle.model.specs.Model.{Model, stopped, ended, run}

pub data Verdict : Type 0 where
  impossible : Verdict
  stops : ℕ → Verdict
  misses : ℕ → Verdict
  passes : State → Verdict

-- the end state has not the value that the entry wants
unfoldable pub wrong : State → GoalLiteral → Bool
wrong end e = not (same (end e.fact) e.wanted)

-- `P` are the models that the judge holds; the plan starts in `st`
module _ (D : Domain) (P : Model → Type 0) (plan : List GroundAction) (st : State) (goal : List GoalLiteral) where
  abbrev pub StopsAt : Model → ℕ → Type 0
  StopsAt M k = run D M plan st 1 ≡ stopped k

  abbrev pub MissesAt : Model → ℕ → Type 0
  MissesAt M i = (end : State) × (run D M plan st 1 ≡ ended end) × (has (wrong end) goal i ≡ true)

  abbrev pub Some : (Model → Type 0) → Type 0
  Some Q = (M : Model) × P M × Q M

  abbrev pub All : (Model → Type 0) → Type 0
  All Q = (M : Model) → P M → Q M

  -- the four cases of the verdict: no model; the smallest step at which any model stops; the smallest entry that any model misses;
  -- the end state that all models share
  abbrev pub Judged : Verdict → Type 0
  Judged impossible = All (λ M. ⊥)
  Judged (stops k) = Some (λ M. StopsAt M k) × All (λ M. (j : ℕ) → StopsAt M j → k ≤ j)
  Judged (misses i) = All (λ M. (j : ℕ) → StopsAt M j → ⊥) × Some (λ M. MissesAt M i) × All (λ M. (j : ℕ) → MissesAt M j → i ≤ j)
  Judged (passes end) = Some (λ M. Unit {0}) × All (λ M. run D M plan st 1 ≡ ended end) × All (λ M. (j : ℕ) → MissesAt M j → ⊥)
