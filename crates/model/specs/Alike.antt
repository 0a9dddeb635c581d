-- When two lists of transitions show the same of an action: the words in which "the sequence does not matter",
-- "only its own steps count" and "renumbered objects change nothing" are said.
use Rattle.std.specs.Prelude.{ℕ, ◌≡◌, ◌↔◌, true, List, [], ◌∷◌}
use Rattle.quantify.specs.Quantify.{Mem}
use Rattle.model.specs.Domain.{Domain, Transition, Failed}
use Rattle.model.specs.Learned.{Rules}

-- the same action, and at each of its atoms, each under its own binding, the same values before and after
pub record Alike (D : Domain) (t u : Transition) : Type 0 where
  pub action : t.step.action ≡ u.step.action
  pub was : (n : ℕ) → D.atom t.step.action n ≡ true → t.pre (t.step.ground n) ≡ u.pre (u.step.ground n)
  pub got : (n : ℕ) → D.atom t.step.action n ≡ true → t.post (t.step.ground n) ≡ u.post (u.step.ground n)

-- each transition of the action in the one list has one alike in the other, however often and wherever
abbrev pub EachAlike : Domain → ℕ → List Transition → List Transition → Type 0
EachAlike D a ts us = (t : Transition) → Mem t ts → t.step.action ≡ a → (u : Transition) × Mem u us × Alike D t u

pub record SameOfAction (D : Domain) (a : ℕ) (ts us : List Transition) : Type 0 where
  pub forth : EachAlike D a ts us
  pub back : EachAlike D a us ts

-- the same rules at an atom of an action
pub record SameRules (R S : Rules) (a n : ℕ) : Type 0 where
  pub needed : R.needed a n ≡ S.needed a n
  pub needed_not : R.needed_not a n ≡ S.needed_not a n
  pub added : R.added a n ≡ S.added a n
  pub removed : R.removed a n ≡ S.removed a n

-- the same transitions, in whatever sequence and number
abbrev pub SameMembers : List Transition → List Transition → Type 0
SameMembers ts us = (t : Transition) → Mem t ts ↔ Mem t us

-- the same steps that did not go, likewise
abbrev pub SameFailed : List Failed → List Failed → Type 0
SameFailed us vs = (u : Failed) → Mem u us ↔ Mem u vs

-- one by one alike: what a list becomes when the objects of its records are renumbered
pub data Renumbered (D : Domain) : List Transition → List Transition → Type 0 where
  none : Renumbered D [] []
  more : {t u : Transition} {ts us : List Transition} → Alike D t u → Renumbered D ts us → Renumbered D (t ∷ ts) (u ∷ us)
