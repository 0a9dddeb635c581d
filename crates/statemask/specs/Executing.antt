-- What it takes for masks to execute a plan as a model does over states, and what "as the model does" means.
use Rattle.std.specs.Prelude.{ℕ, zero, suc, ◌≤◌, ◌<◌, ◌≡◌, true, false, List}
use Rattle.limits.specs.Limits.{set_size, state_size, max_atoms, max_fact_numbers}
use Rattle.answer.specs.Answer.{Answer, Refused}
use Rattle.terms.specs.declared.Step.{Step}
use Rattle.terms.specs.Schema.{Schema}
use Rattle.format.specs.Order.{GoalEntry}
use Rattle.mask.specs.Sets.{mask_of}
use Rattle.quantify.specs.Quantify.{Mem}
use Rattle.model.specs.Domain.{Domain, State, GroundAction}
use Rattle.model.specs.Model.{Model, Valid, Run, stopped, ended}
use Rattle.jobs.specs.Planning.{ground_action}
use Rattle.jobs.specs.Check.{goal_answer}
use Rattle.statemask.specs.Statemask.{MoveRules, Executed, missed}
use Rattle.model.specs.Formed.{Under}

-- each fact that holds has a bit in the mask
abbrev pub AllInMask : State → Type 0
AllInMask st = Under max_fact_numbers st

-- the four sets are the model's for the action
pub record Ruled (M : Model) (a : ℕ) (R : MoveRules) : Type 0 where
  pub needed : R.needed ≡ mask_of set_size (M.precondition true a)
  pub needed_not : R.needed_not ≡ mask_of set_size (M.precondition false a)
  pub added : R.added ≡ mask_of set_size (M.effect true a)
  pub removed : R.removed ≡ mask_of set_size (M.effect false a)

-- the atoms of the step's action are counted by the domain, and become facts that the mask has a bit for
pub record InMask (D : Domain) (s : GroundAction) : Type 0 where
  pub ranged : (n : ℕ) → D.atom s.action n ≡ true → n < D.atoms
  pub under : (n : ℕ) → D.atom s.action n ≡ true → s.ground n < max_fact_numbers

-- what is asked of a plan, its schema and the rules of each move, for a model and its domain
pub record Executing (D : Domain) (M : Model) (sch : Schema) (R : ℕ → MoveRules) (plan : List Step) : Type 0 where
  pub few : D.atoms ≤ max_atoms
  pub valid : Valid D M
  pub ruled : (st : Step) → Mem st plan → Ruled M st.action.0 (R st.action.0)
  pub in_mask : (st : Step) → Mem st plan → InMask D (ground_action sch st)

-- the masks stop where the run stops; where it ends they have its end state
abbrev pub Agrees : Executed → Run → Type 0
Agrees c (stopped k) = (c.stop ≡ k) × (1 ≤ k)
Agrees c (ended end) = (c.stop ≡ 0) × (c.mask ≡ mask_of state_size end) × AllInMask end

-- rows 19 and 20 from what the masks came to
unfoldable pub executed_answer : ℕ → List GoalEntry → Executed → Answer
executed_answer steps goal c = elim c.stop [ zero ↦ goal_answer steps (missed c.mask goal) | suc k ↦ Refused 19 (suc k) ]
