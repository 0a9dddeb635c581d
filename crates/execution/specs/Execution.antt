-- Names for what the functions pass on: a plan that can be executed and what it comes to.
use Rattle.std.specs.Prelude.{ℕ, ◌+◌, ◌*◌, ◌≤◌, ◌<◌, ◌≡◌, List, length}
use Rattle.terms.specs.declared.Step.{Step}
use Rattle.terms.specs.Schema.{Schema}
use Rattle.terms.specs.Steps.{step_at}
use Rattle.limits.specs.Limits.{step_size, far_ceiling}
use Rattle.statemask.specs.Statemask.{MoveRules, execute}
use Rattle.stepping.specs.Stepping.{Steppable}

-- the steps lie within the input, and each one can be taken by the rules
pub record Executable (l o : List ℕ) (steps at : ℕ) : Type 0 where
  pub end : at + step_size * steps ≤ far_ceiling
  pub within : at + step_size * steps ≤ length o
  pub steppable : (i : ℕ) → i < steps → Steppable l (step_at o (at + step_size * i))

-- the step where a plan stops, 0 for none, and the mask that it comes to from a mask
pub record Executes (sch : Schema) (R : ℕ → MoveRules) (plan : List Step) (old : List ℕ) (stopped : ℕ) (new : List ℕ) : Type 0 where
  pub stop : stopped ≡ (execute sch R plan old 1).stop
  pub mask : new ≡ (execute sch R plan old 1).mask
