-- What is observed after a step, in the parts that the functions compute. `IsObserved` and `observed_step` are for callers. Uses the definitions of observed and format.
use Rattle.std.specs.Prelude.{ℕ, ◌+◌, ◌≤◌, ◌≡◌, false, List, length}
use Rattle.limits.specs.Limits.{max_length, max_moves, step_size, state_size, observed_size}
use Rattle.mask.specs.Bits.{test_bit}
use Rattle.mask.specs.Sets.{intersection, union}
use Rattle.terms.specs.declared.Fact.{Fact}
use Rattle.terms.specs.declared.Sections.{Sections}
use Rattle.terms.specs.declared.Step.{Step}
use Rattle.terms.specs.Schema.{Schema}
use Rattle.format.specs.Filed.{filed_step_at}
use Rattle.format.specs.Lists.{list_end}
use Rattle.atoms.specs.Atoms.{atoms_end}
use Rattle.grounding.specs.Grounding.{Bounded, held_atoms}
use Rattle.turning.specs.Turning.{flipped}
use Rattle.observed.specs.Inverse.{turn_marks, some_unbound}
use Rattle.format.specs.Form.{Form}
use Rattle.format.specs.Decode.{recorded_step}
use Rattle.observed.specs.Observed.{always_before, always_after, bound, Observed, set_at, observed_set, noted, first_named, observe_by}
use Rattle.observed.specs.OnSet.{on_set}

-- the set at an offset, intersected and united with another
unfoldable pub narrowed : ℕ → List ℕ → List ℕ → List ℕ
narrowed at m l = on_set at (λ x. intersection x m) l

unfoldable pub widened : ℕ → List ℕ → List ℕ → List ℕ
widened at m l = on_set at (λ x. union x m) l

-- what is observed after the step at an offset, if it went, with the facts that hold before it, of what was observed before it
unfoldable pub observed_step : Form → List ℕ → List Fact → ℕ → List ℕ → ℕ → Observed
observed_step form s before at masks named =
    observe_by (observed_set masks (filed_step_at s at).action.0 bound) (recorded_step form s before at) (record { masks = masks; named = named; failed = false })

-- bytes and an offset are the masks that are observed, and the step that row 11 names
pub record IsObserved (seen : Observed) (bytes : List ℕ) (offset : ℕ) : Type 0 where
  pub masks : bytes ≡ seen.masks
  pub named : offset ≡ seen.named

-- the sets of a move before any record, made from empty ones: no step has been seen that lacks a bound fact, so the two sets of what held at every
-- step begin with all bound facts, and so does the set of these
unfoldable pub first_sets : ℕ → List ℕ → List ℕ → List ℕ
first_sets a atoms l = widened (set_at a bound) atoms (widened (set_at a always_after) atoms (widened (set_at a always_before) atoms l))

-- ---- a short book

-- what is asked of the step at an offset: its list lies within the book, its move is one that there may be, a state has room for its objects, and the
-- bound facts of its move are of relations that the book has
pub record StepTurnable (h : Sections) (s : List ℕ) (at : ℕ) (m masks : List ℕ) : Type 0 where
  pub near : at ≤ max_length
  pub within : list_end s (at + step_size) ≤ length s
  pub counted : 1 ≤ (filed_step_at s at).action.0
  pub known : (filed_step_at s at).action.0 ≤ max_moves
  pub bounded : Bounded (filed_step_at s at).binding
  pub ended : (n : ℕ) → atoms_end h.relations.count ≤ n → test_bit (observed_set masks (filed_step_at s at).action.0 bound) n ≡ false
  pub sized : length masks ≡ observed_size
  pub long : length m ≡ state_size

-- what is observed of a step by the state before it and the facts that turn, `atoms` being the bound facts of its move
unfoldable pub observed_turned : Schema → Step → List ℕ → List ℕ → List Fact → ℕ → List ℕ → ℕ → Observed
observed_turned sch st atoms m ts at masks named =
    let held = held_atoms sch st.binding atoms m in
    record {
      masks = noted st.action.0 held (turn_marks atoms st.binding held ts) masks;
      named = first_named named (some_unbound atoms st.binding ts) at;
      failed = false;
    }

pub record TurnObserved (sch : Schema) (st : Step) (ts : List Fact) (at : ℕ) (masks : List ℕ) (named : ℕ) (masks' : List ℕ) (r : ℕ) (m m' : List ℕ) : Type 0 where
  pub observed : IsObserved (observed_turned sch st (observed_set masks st.action.0 bound) m ts at masks named) masks' r
  pub state : m' ≡ flipped ts m
