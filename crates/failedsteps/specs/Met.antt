-- Row 28 of one step as the code asks it: by the state before the step as a mask. `l` is what is observed.
use Rattle.std.specs.Prelude.{ℕ, Bool, cond, ◌&&◌, not, List}
use Rattle.limits.specs.Limits.{state_size}
use Rattle.mask.specs.Sets.{mask_of}
use Rattle.terms.specs.declared.Step.{Step}
use Rattle.terms.specs.Schema.{Schema}
use Rattle.format.specs.Filed.{went_at, filed_step_at}
use Rattle.format.specs.Lists.{list_at}
use Rattle.format.specs.Form.{Form}
use Rattle.factsets.specs.Holding.{holding}
use Rattle.grounding.specs.Grounding.{held_atoms}
use Rattle.observed.specs.Observed.{bound, observed_set}
use Rattle.observed.specs.Rules.{in_use, unmet_set}

-- all preconditions of the step's move are met in the state m
unfoldable pub met_in : Schema → List ℕ → Step → List ℕ → Bool
met_in sch l st m =
    not (in_use (unmet_set l st.action.0 (held_atoms sch st.binding (observed_set l st.action.0 bound) m)))

-- the state before a step: in a full book that of the list at `pre`, in a short one the mask m that is carried on
unfoldable pub mask_before : Form → List ℕ → ℕ → List ℕ → List ℕ
mask_before form s pre m = cond form m (mask_of state_size (holding (list_at s pre)))

-- the step at an offset did not go though all preconditions are met in the state before it
unfoldable pub refuted_at : Form → Schema → List ℕ → ℕ → ℕ → List ℕ → List ℕ → Bool
refuted_at form sch s pre at m l = not (went_at s at) && met_in sch l (filed_step_at s at) (mask_before form s pre m)
