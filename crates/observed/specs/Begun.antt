-- What is asked of masks before a step is observed in them: their size, and the bound facts of each move.
use Rattle.std.specs.Prelude.{ℕ, ◌≤◌, ◌≡◌, List, length}
use Rattle.limits.specs.Limits.{max_moves, observed_size}
use Rattle.terms.specs.Schema.{Schema}
use Rattle.atoms.specs.Atoms.{atom_set}
use Rattle.observed.specs.Observed.{bound, observed_set}

pub record Begun (sch : Schema) (masks : List ℕ) : Type 0 where
  pub sized : length masks ≡ observed_size
  pub atoms : (a : ℕ) → 1 ≤ a → a ≤ max_moves → observed_set masks a bound ≡ atom_set sch a
