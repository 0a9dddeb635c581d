-- What a step asks of the rules that are lent and of its objects, and names for what the functions pass on to each other.
use Rattle.std.specs.Prelude.{ℕ, ◌+◌, ◌*◌, ◌≤◌, ◌≡◌, Bool, true, false, cond, List, length}
use Rattle.limits.specs.Limits.{atoms_per_relation, rule_size}
use Rattle.terms.specs.declared.Step.{Step}
use Rattle.terms.specs.Schema.{Schema}
use Rattle.terms.specs.Steps.{ground}
use Rattle.quantify.specs.Quantify.{below}
use Rattle.factgroups.specs.Groups.{put_at}
use Rattle.grounding.specs.Grounding.{Bounded}
use Rattle.statemask.specs.Statemask.{MoveRules, unmet, step_inapplicable, step_next, touched}

-- ---- what is asked

-- the rules have those of the step's move, and a state has room for the step's objects
pub record Steppable (l : List ℕ) (st : Step) : Type 0 where
  pub counted : 1 ≤ st.action.0
  pub known : rule_size * st.action.0 ≤ length l
  pub bounded : Bounded st.binding

-- ---- needs

-- a need of one of a relation's bound facts is unmet, n being the first of them
unfoldable pub relation_unmet : Schema → (ℕ → MoveRules) → Step → List ℕ → ℕ → Bool
relation_unmet sch R st m n = below atoms_per_relation (λ j. unmet (R st.action.0) (ground sch st.binding) m (n + j))

-- ---- effects

-- the state after a step, of the bound facts below n alone
unfoldable pub next_below : Schema → (ℕ → MoveRules) → Step → List ℕ → ℕ → List ℕ
next_below sch R st m n =
    put_at true (touched (R st.action.0).added (ground sch st.binding) n)
    (put_at false (touched (R st.action.0).removed (ground sch st.binding) n) m)

-- Where a state has the effects of the bound facts below n, it gets those of a relation's sixteen more.
abbrev pub Advances : Schema → (ℕ → MoveRules) → Step → ℕ → List ℕ → List ℕ → Type 0
Advances sch R st n old new = (m : List ℕ) → old ≡ next_below sch R st m n → new ≡ next_below sch R st m (n + atoms_per_relation)

-- ---- one step

-- whether it is inapplicable in the state `old`, and the state after it, which is `old` if it is
pub record StepExecuted (sch : Schema) (R : ℕ → MoveRules) (st : Step) (old : List ℕ) (r : Bool) (new : List ℕ) : Type 0 where
  pub inapplicable : r ≡ step_inapplicable sch R st old
  pub state : new ≡ cond r old (step_next sch R st old)
