-- What the seven sets of each move mean, said of a list of transitions.
use Rattle.std.specs.Prelude.{ℕ, zero, suc, ◌≤◌, ◌<◌, ◌≡◌, Bool, true, false, ◌&&◌, not, List, length}
use Rattle.limits.specs.Limits.{max_moves, observed_size, max_atoms}
use Rattle.mask.specs.Bits.{test_bit, Bytes}
use Rattle.terms.specs.Schema.{Schema}
use Rattle.terms.specs.Steps.{is_atom}
use Rattle.model.specs.Domain.{Transition}
use Rattle.model.specs.Learned.{before, after, turned}
use Rattle.atoms.specs.Atoms.{atom_set}
use Rattle.observed.specs.Observed.{bound, observed_set}

-- whether bound fact n is in set k of the move, the first six in their order: always_before, ever_before, always_after, ever_after, added, deleted (Observed.antt)
unfoldable pub in_set : List Transition → ℕ → ℕ → ℕ → Bool
in_set ts zero a n = not (before ts false a n)
in_set ts (suc zero) a n = before ts true a n
in_set ts (suc (suc zero)) a n = not (after ts false a n)
in_set ts (suc (suc (suc zero))) a n = after ts true a n
in_set ts (suc (suc (suc (suc zero)))) a n = turned ts true a n
in_set ts (suc (suc (suc (suc (suc k))))) a n = turned ts false a n

-- the masks are those of the transitions, with bound facts alone; the last set of a move has all of these
pub record Seen (sch : Schema) (ts : List Transition) (masks : List ℕ) : Type 0 where
  pub sized : length masks ≡ observed_size
  pub bytes : Bytes masks
  pub atoms : (a : ℕ) → 1 ≤ a → a ≤ max_moves → observed_set masks a bound ≡ atom_set sch a
  pub says :
      (k : ℕ) → k < bound → (a : ℕ) → 1 ≤ a → a ≤ max_moves → (n : ℕ) → n < max_atoms
      → test_bit (observed_set masks a k) n ≡ (is_atom sch a n && in_set ts k a n)
