-- The bound facts (lifted atoms) of a move in a state, by the objects of a step: where a relation's stand, and which of a set hold.
use Rattle.std.specs.Prelude.{ℕ, ◌+◌, ◌-◌, ◌≤◌, ◌<◌, ◌≡◌, ◌&&◌, List, [], ◌∷◌}
use Rattle.limits.specs.Limits.{max_objects, max_params, atoms_per_relation, set_size}
use Rattle.mask.specs.Bits.{test_bit}
use Rattle.mask.specs.Sets.{mask_of}
use Rattle.terms.specs.declared.Param.{Param}
use Rattle.terms.specs.declared.Binding.{Binding}
use Rattle.terms.specs.Schema.{Schema}
use Rattle.terms.specs.Steps.{object_of, ground}
use Rattle.factgroups.specs.declared.Placement.{Placement}
use Rattle.factgroups.specs.Groups.{Indices, Tabled, Tables, Within, facts}

-- ---- the objects of a step

-- a state has a group and a column for every object of the binding
abbrev pub Bounded : Binding → Type 0
Bounded b = (p : Param) → 1 ≤ p.0 → p.0 ≤ max_params → (object_of b p).0 ≤ max_objects

-- the numbers of a step's objects from 0, one for each parameter: their groups or columns in a state
unfoldable pub indices : Binding → List ℕ
indices b =
    ((object_of b (record { 0 = 1 })).0 - 1)
    ∷ ((object_of b (record { 0 = 2 })).0 - 1)
    ∷ ((object_of b (record { 0 = 3 })).0 - 1)
    ∷ ((object_of b (record { 0 = 4 })).0 - 1)
    ∷ []

-- ---- a relation's bound facts

-- The placement p with the columns ys stands for the facts that a relation's sixteen bound facts, from n on, become under the binding b; and a table
-- of the objects xs has these columns.
pub record Grounds (sch : Schema) (b : Binding) (xs : List ℕ) (n : ℕ) (p : Placement) (ys : List ℕ) : Type 0 where
  pub small : Indices ys
  pub right : (t : List ℕ) → Tables t xs → Tabled t p.at ys
  pub is : (j : ℕ) → j < atoms_per_relation → facts p ys j ≡ ground sch b (n + j)

-- the placement p is right for every binding that has the objects xs
pub record Placed (sch : Schema) (xs : List ℕ) (n : ℕ) (p : Placement) : Type 0 where
  pub within : Within p
  pub grounds : (b : Binding) → Bounded b → xs ≡ indices b → (ys : List ℕ) × Grounds sch b xs n p ys

-- ---- the bound facts that hold

-- the bound facts of a set whose facts hold in a state
unfoldable pub held_atoms : Schema → Binding → List ℕ → List ℕ → List ℕ
held_atoms sch b atoms m = mask_of set_size (λ n. test_bit atoms n && test_bit m (ground sch b n))

-- what holds for every binding of these objects
abbrev pub ForBindings : List ℕ → (Binding → Type 0) → Type 0
ForBindings xs P = (b : Binding) → Bounded b → xs ≡ indices b → P b
