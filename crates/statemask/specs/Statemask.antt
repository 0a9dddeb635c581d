-- States as masks of 512 bytes, one step and a plan over them, and the goal at the end, by whatever rules are given. `g n` is the fact that
-- bound fact n is under the step's binding.
use Rattle.std.specs.Prelude.{ℕ, zero, suc, Bool, true, false, cond, ◌&&◌, ◌||◌, not, List, [], ◌∷◌, eqb}
use Rattle.limits.specs.Limits.{state_size, max_atoms}
use Rattle.jobs.specs.SheetBits.{needed_set, needed_not_set, added_set, removed_set, sheet_set}
use Rattle.mask.specs.Bits.{test_bit, set_bit, put_bit}
use Rattle.mask.specs.Sets.{empty}
use Rattle.terms.specs.declared.Fact.{Fact}
use Rattle.terms.specs.declared.Step.{Step}
use Rattle.terms.specs.Schema.{Schema}
use Rattle.terms.specs.Facts.{fact_number}
use Rattle.terms.specs.Steps.{ground}
use Rattle.format.specs.Order.{GoalEntry}
use Rattle.quantify.specs.Quantify.{same, below, first}

-- the rules that a step of a move goes by, four sets of its bound facts: needed to hold, needed not to hold, added, removed
pub record MoveRules : Type 0 where
  pub needed : List ℕ
  pub needed_not : List ℕ
  pub added : List ℕ
  pub removed : List ℕ

-- the rules of move a in memory that has the sets of each move as a rule sheet has them
unfoldable pub rules_in : List ℕ → ℕ → MoveRules
rules_in l a =
    record {
      needed = sheet_set l needed_set a;
      needed_not = sheet_set l needed_not_set a;
      added = sheet_set l added_set a;
      removed = sheet_set l removed_set a;
    }

-- the facts put into a mask
unfoldable pub with_facts : List Fact → List ℕ → List ℕ
with_facts [] m = m
with_facts (f ∷ fs) m = with_facts fs (set_bit m (fact_number f))

unfoldable pub start_mask : List Fact → List ℕ
start_mask fs = with_facts fs (empty state_size)

-- a need of bound fact n is unmet
unfoldable pub unmet : MoveRules → (ℕ → ℕ) → List ℕ → ℕ → Bool
unmet R g m n = test_bit R.needed n && not (test_bit m (g n)) || test_bit R.needed_not n && test_bit m (g n)

unfoldable pub inapplicable_in : MoveRules → (ℕ → ℕ) → List ℕ → Bool
inapplicable_in R g m = below max_atoms (unmet R g m)

-- f is the fact of a bound fact below n that the set has
unfoldable pub touched : List ℕ → (ℕ → ℕ) → ℕ → ℕ → Bool
touched set g n f = below n (λ j. test_bit set j && eqb (g j) f)

-- The value put at the facts of those bound facts below n that the set has: true adds them, false removes them.
unfoldable pub effects : Bool → List ℕ → (ℕ → ℕ) → List ℕ → ℕ → List ℕ
effects value set g m zero = m
effects value set g m (suc n) = cond (test_bit set n) (put_bit value (effects value set g m n) (g n)) (effects value set g m n)

-- A fact that is both removed and added holds after the step: the removed ones go first.
unfoldable pub next_in : MoveRules → (ℕ → ℕ) → List ℕ → List ℕ
next_in R g m = effects true R.added g (effects false R.removed g m max_atoms) max_atoms

-- one step by the rules of each move: whether it is inapplicable, and the mask after it
unfoldable pub step_inapplicable : Schema → (ℕ → MoveRules) → Step → List ℕ → Bool
step_inapplicable sch R st m = inapplicable_in (R st.action.0) (ground sch st.binding) m

unfoldable pub step_next : Schema → (ℕ → MoveRules) → Step → List ℕ → List ℕ
step_next sch R st m = next_in (R st.action.0) (ground sch st.binding) m

-- what a plan comes to: the number of the step that is inapplicable, 0 where none is, and the mask where it stopped or ended
pub record Executed : Type 0 where
  pub stop : ℕ
  pub mask : List ℕ

unfoldable pub execute : Schema → (ℕ → MoveRules) → List Step → List ℕ → ℕ → Executed
execute sch R [] m k = record { stop = 0; mask = m }
execute sch R (st ∷ plan) m k =
    elim (step_inapplicable sch R st m)
    [ true ↦ record { stop = k; mask = m } | false ↦ execute sch R plan (step_next sch R st m) (suc k) ]

-- a goal entry that the mask misses
unfoldable pub misses : List ℕ → GoalEntry → Bool
misses m e = not (same (test_bit m (fact_number e.fact)) e.wanted)

-- the number, from 1, of the first goal entry that the mask misses, 0 where it misses none
unfoldable pub missed : List ℕ → List GoalEntry → ℕ
missed m goal = first (misses m) goal
