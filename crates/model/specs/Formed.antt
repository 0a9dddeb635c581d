-- What the theorems ask of numbers and grounding. Bytes of good form give all of it.
use Rattle.std.specs.Prelude.{ℕ, ◌≤◌, ◌<◌, ◌≡◌, true, false, List}
use Rattle.quantify.specs.Quantify.{Mem}
use Rattle.model.specs.Domain.{Domain, GroundAction, Transition, State}

-- The atoms of the step's action are counted by the domain, and no two of them become one fact: the binding is injective.
pub record Proper (D : Domain) (s : GroundAction) : Type 0 where
  pub ranged : (n : ℕ) → D.atom s.action n ≡ true → n < D.atoms
  pub apart : (m n : ℕ) → D.atom s.action m ≡ true → D.atom s.action n ≡ true → s.ground m ≡ s.ground n → m ≡ n

-- each step is proper, its action is one of the domain, and a fact that the domain does not count stays as it is
pub record Formed (D : Domain) (ts : List Transition) : Type 0 where
  pub proper : (t : Transition) → Mem t ts → Proper D t.step
  pub known : (t : Transition) → Mem t ts → (1 ≤ t.step.action) × (t.step.action ≤ D.actions)
  pub within : (t : Transition) → Mem t ts → (f : ℕ) → D.facts ≤ f → t.pre f ≡ t.post f

-- the same of a plan, of which no more is asked
abbrev pub Grounded : Domain → List GroundAction → Type 0
Grounded D plan = (s : GroundAction) → Mem s plan → Proper D s

-- no fact from the bound on holds
abbrev pub Under : ℕ → State → Type 0
Under bound st = (f : ℕ) → bound ≤ f → st f ≡ false
