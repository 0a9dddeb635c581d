-- What is learned from transitions: the safe action model (document 001, formulas 1 and 2, over lifted atoms), and when there is none.
use Rattle.std.specs.Prelude.{ℕ, Bool, true, false, ◌&&◌, ◌||◌, not, List, eqb}
use Rattle.quantify.specs.Quantify.{same, below, any}
use Rattle.model.specs.Domain.{Domain, Transition}
use Rattle.model.specs.Model.{Model, image}

-- some transition of the action has, at the atom's fact, values before and after that pass the test
unfoldable pub saw : List Transition → (Bool → Bool → Bool) → ℕ → ℕ → Bool
saw ts test a n = any (λ t. eqb t.step.action a && test (t.pre (t.step.ground n)) (t.post (t.step.ground n))) ts

-- the atom was seen with the value b before, after, or turned to it
unfoldable pub before : List Transition → Bool → ℕ → ℕ → Bool
before ts b = saw ts (λ x y. same b x)

unfoldable pub after : List Transition → Bool → ℕ → ℕ → Bool
after ts b = saw ts (λ x y. same b y)

unfoldable pub turned : List Transition → Bool → ℕ → ℕ → Bool
turned ts b = saw ts (λ x y. same (not b) x && same b y)

-- The rules: the four sets of lifted atoms of each action that the rule sheet has. Needed to hold, needed not to hold, added, removed.
pub record Rules : Type 0 where
  pub needed : ℕ → ℕ → Bool
  pub needed_not : ℕ → ℕ → Bool
  pub added : ℕ → ℕ → Bool
  pub removed : ℕ → ℕ → Bool

-- An atom is needed to have a value if it had that value before every transition of the action; it is added or removed if some transition turned it.
-- So an action never seen needs each of its atoms both ways, and has no effect.
unfoldable pub learned_rules : Domain → List Transition → Rules
learned_rules D ts =
    record {
      needed = λ a n. D.atom a n && not (before ts false a n);
      needed_not = λ a n. D.atom a n && not (before ts true a n);
      added = λ a n. D.atom a n && turned ts true a n;
      removed = λ a n. D.atom a n && turned ts false a n;
    }

-- one set for the value true, another for false
abbrev pub by_value : (ℕ → ℕ → Bool) → (ℕ → ℕ → Bool) → Bool → ℕ → ℕ → Bool
by_value p q true a n = p a n
by_value p q false a n = q a n

-- the model that the rules are
unfoldable pub model_of : Rules → Model
model_of R = record { precondition = by_value R.needed R.needed_not; effect = by_value R.added R.removed }

unfoldable pub learned : Domain → List Transition → Model
learned D ts = model_of (learned_rules D ts)

-- row 11: a fact changed that is no atom of the step
unfoldable pub unbound_effect : Domain → Transition → Bool
unbound_effect D t = below D.facts (λ f. not (same (t.pre f) (t.post f)) && not (image D (D.atom t.step.action) t.step f))

-- row 12: an atom of the action turned to one value, and has the other after another of its steps
unfoldable pub conflicting : Domain → List Transition → ℕ → Bool
conflicting D ts a = below D.atoms (λ n. D.atom a n && ((turned ts true a n && after ts false a n) || (turned ts false a n && after ts true a n)))
