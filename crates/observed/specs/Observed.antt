-- What the learner has observed: seven sets of bound facts for each move, 224 bytes a move, the offset of the first step that row 11 names, and whether
-- some step did not go. Such a step is passed over otherwise.
-- One of the seven is made before any record and stays: all bound facts of the move. Uses terms for these, and jobs for the schema of a book.
use Rattle.std.specs.Prelude.{ℕ, ◌+◌, ◌-◌, ◌*◌, ◌/◌, ◌%◌, ◌≤◌, ◌≡◌, Bool, true, false, cond, ◌&&◌, ◌||◌, List, [], ◌∷◌, ◌++◌, length, take, drop, eqb}
use Rattle.limits.specs.Limits.{set_size, observed_sets, observed_per_move, observed_size, max_atoms, max_moves}
use Rattle.mask.specs.Sets.{mask_of, intersection, union, difference}
use Rattle.terms.specs.Sections.{sections_of}
use Rattle.terms.specs.Schema.{Schema}
use Rattle.terms.specs.Steps.{is_atom}
use Rattle.format.specs.Form.{Form}
use Rattle.format.specs.Decode.{RecordedStep, steps_of_record, moved_by}
use Rattle.format.specs.Parts.{records_at, sections_part}
use Rattle.jobs.specs.Planning.{schema_of}
use Rattle.observed.specs.Inverse.{atoms_in, unbound_changed}

-- ---- the seven sets of a move, numbered in their order; src/lib.rt has an enum of them for code

-- what held before every step of the move, and before some
abbrev pub always_before : ℕ
always_before = 0

abbrev pub ever_before : ℕ
ever_before = 1

-- what held after every step, and after some
abbrev pub always_after : ℕ
always_after = 2

abbrev pub ever_after : ℕ
ever_after = 3

-- what some step added, and what some step removed
abbrev pub added : ℕ
added = 4

abbrev pub deleted : ℕ
deleted = 5

-- what there is to observe: all bound facts of the move
abbrev pub bound : ℕ
bound = 6

-- ---- what is observed

-- `named` is 0 where no step is named; `failed` says that some step did not go
pub record Observed : Type 0 where
  pub masks : List ℕ
  pub named : ℕ
  pub failed : Bool

-- where set k of a move stands
unfoldable pub set_at : ℕ → ℕ → ℕ
set_at a k = observed_per_move * (a - 1) + set_size * k

unfoldable pub observed_set : List ℕ → ℕ → ℕ → List ℕ
observed_set l a k = take set_size (drop (set_at a k) l)

-- what is observed has its size, and the move is one of those that it has sets of
abbrev pub MoveObserved : List ℕ → ℕ → Type 0
MoveObserved l a = (length l ≡ observed_size) × (1 ≤ a) × (a ≤ max_moves)

-- ---- the seven sets of a move together

pub record MoveSets : Type 0 where
  pub always_before : List ℕ
  pub ever_before : List ℕ
  pub always_after : List ℕ
  pub ever_after : List ℕ
  pub added : List ℕ
  pub deleted : List ℕ
  pub bound : List ℕ

unfoldable pub sets_of : List ℕ → ℕ → MoveSets
sets_of l a =
    record {
      always_before = observed_set l a always_before;
      ever_before = observed_set l a ever_before;
      always_after = observed_set l a always_after;
      ever_after = observed_set l a ever_after;
      added = observed_set l a added;
      deleted = observed_set l a deleted;
      bound = observed_set l a bound;
    }

-- their bytes
unfoldable pub encoded : MoveSets → List ℕ
encoded m = m.always_before ++ m.ever_before ++ m.always_after ++ m.ever_after ++ m.added ++ m.deleted ++ m.bound

-- what is observed, with other sets of a move
unfoldable pub with_sets : ℕ → MoveSets → List ℕ → List ℕ
with_sets a m l = take (set_at a 0) l ++ encoded m ++ drop (set_at a 0 + observed_per_move) l

-- the sets of a move after one step more, by its bound facts that hold before and after it
unfoldable pub after_step : List ℕ → List ℕ → MoveSets → MoveSets
after_step before after m =
    record {
      always_before = intersection m.always_before before;
      ever_before = union m.ever_before before;
      always_after = intersection m.always_after after;
      ever_after = union m.ever_after after;
      added = union m.added (difference after before);
      deleted = union m.deleted (difference before after);
      bound = m.bound;
    }

unfoldable pub noted : ℕ → List ℕ → List ℕ → List ℕ → List ℕ
noted a before after l = with_sets a (after_step before after (sets_of l a)) l

-- ---- a walk over steps and records

-- the offset of the first step that row 11 names, by what it named before and whether it names the step at an offset
unfoldable pub first_named : ℕ → Bool → ℕ → ℕ
first_named named unbound at = cond (eqb named 0) (cond unbound at 0) named

-- what is observed after one step more that went, of a move whose bound facts are `atoms`
unfoldable pub observe_by : List ℕ → RecordedStep → Observed → Observed
observe_by atoms x seen =
    record {
      masks =
          noted x.step.action.0 (atoms_in atoms x.step.binding x.pre) (atoms_in atoms x.step.binding x.post) seen.masks;
      named = first_named seen.named (unbound_changed atoms x.step.binding x.pre x.post) x.place;
      failed = seen.failed;
    }

-- and after one that did not go
unfoldable pub failure_seen : Observed → Observed
failure_seen seen = record { masks = seen.masks; named = seen.named; failed = true }

-- after one step more, the bound facts being those that were made before any record
unfoldable pub observe : RecordedStep → Observed → Observed
observe x seen =
    elim x.went [ true ↦ observe_by (observed_set seen.masks x.step.action.0 bound) x seen | false ↦ failure_seen seen ]

unfoldable pub observe_all : List RecordedStep → Observed → Observed
observe_all [] seen = seen
observe_all (x ∷ xs) seen = observe_all xs (observe x seen)

-- what is held after a record: made from what was held before, the record's bytes `r` and its offset
unfoldable pub observed_after : Form → List ℕ → ℕ → Observed → Observed
observed_after form r at seen = observe_all (moved_by at (steps_of_record form r 0)) seen

-- after records in a row, the first at an offset, each next one where the one before it ends
unfoldable pub observed_after_all : Form → List (List ℕ) → ℕ → Observed → Observed
observed_after_all form [] at seen = seen
observed_after_all form (r ∷ rs) at seen = observed_after_all form rs (at + length r) (observed_after form r at seen)

-- number n in set k of move a before any record. No step has been seen that lacks a bound fact, so the two sets of what held at every step begin with all
-- bound facts; the sets of what held, was added or was removed at some step begin empty
unfoldable pub at_first : Schema → ℕ → ℕ → ℕ → Bool
at_first sch a k n = is_atom sch a n && (eqb k always_before || eqb k always_after || eqb k bound)

-- before any record
unfoldable pub nothing_seen : Schema → Observed
nothing_seen sch =
    record {
      masks = mask_of observed_size (λ i. at_first sch (i / max_atoms / observed_sets + 1) (i / max_atoms % observed_sets) (i % max_atoms));
      named = 0;
      failed = false;
    }

-- what is held after so many records of a book, from the bytes of its sections and of these records
unfoldable pub held_after : Form → ℕ → List ℕ → Observed
held_after form k s =
    observed_after_all form (records_at s k (sections_of s).records.at) (sections_of s).records.at (nothing_seen (schema_of (sections_part s)))

-- and after all
unfoldable pub observed_of : Form → List ℕ → Observed
observed_of form s = held_after form (sections_of s).records.count s
