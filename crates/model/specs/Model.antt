-- Action models (the paper's rule lists), when one is consistent with transitions (fits them) and bars the steps that did not go, and how one
-- executes a plan. This file cites nothing that is learned.
use Rattle.std.specs.Prelude.{ℕ, suc, ◌≡◌, Bool, true, false, ◌&&◌, ◌||◌, not, List, [], ◌∷◌, eqb}
use Rattle.quantify.specs.Quantify.{below, Mem}
use Rattle.model.specs.Domain.{Domain, State, GroundAction, Transition, Failed}

-- Four sets of lifted atoms for each action. `precondition true`: needed to hold; `precondition false`: needed not to hold;
-- `effect true`: added; `effect false`: deleted.
pub record Model : Type 0 where
  pub precondition : Bool → ℕ → ℕ → Bool
  pub effect : Bool → ℕ → ℕ → Bool

-- the sets hold atoms of their action alone, and no atom is both added and deleted
pub record Valid (D : Domain) (M : Model) : Type 0 where
  pub needed_atom : (b : Bool) (a n : ℕ) → M.precondition b a n ≡ true → D.atom a n ≡ true
  pub effect_atom : (b : Bool) (a n : ℕ) → M.effect b a n ≡ true → D.atom a n ≡ true
  pub exclusive : (a n : ℕ) → M.effect true a n ≡ true → M.effect false a n ≡ true → ⊥

-- `f` is the fact of an atom of the set `q` under the step's binding
unfoldable pub image : Domain → (ℕ → Bool) → GroundAction → State
image D q s f = below D.atoms (λ n. q n && eqb (s.ground n) f)

-- the step is not applicable: some atom is needed to have the value that its fact does not have
unfoldable pub inapplicable : Domain → Model → GroundAction → State → Bool
inapplicable D M s st = below D.atoms (λ n. M.precondition (not (st (s.ground n))) s.action n)

-- the state after an applicable step: added facts hold, deleted ones do not, all others stay
unfoldable pub next : Domain → Model → GroundAction → State → State
next D M s st f = image D (M.effect true s.action) s f || (st f && not (image D (M.effect false s.action) s f))

-- the model fits the transition: the step is applicable and yields the state after it
pub record Fits (D : Domain) (M : Model) (t : Transition) : Type 0 where
  pub goes : inapplicable D M t.step t.pre ≡ false
  pub yields : (f : ℕ) → t.post f ≡ next D M t.step t.pre f

-- consistent with a list of transitions, by membership: the sequence does not matter
pub record Consistent (D : Domain) (ts : List Transition) (M : Model) : Type 0 where
  pub valid : Valid D M
  pub fits : (t : Transition) → Mem t ts → Fits D M t

-- fits the steps that went and those that did not: consistent with the former, and each of the latter has a need unmet in the state in which it was tried
pub record Fitting (D : Domain) (ts : List Transition) (us : List Failed) (M : Model) : Type 0 where
  pub consistent : Consistent D ts M
  pub bars : (u : Failed) → Mem u us → inapplicable D M u.step u.state ≡ true

-- what a plan comes to: the number of the step that is not applicable, or the end state
pub data Run : Type 0 where
  stopped : ℕ → Run
  ended : State → Run

-- the plan from a state on, its first step having the number given
unfoldable pub run : Domain → Model → List GroundAction → State → ℕ → Run
run D M [] st k = ended st
run D M (s ∷ plan) st k = elim (inapplicable D M s st) [ true ↦ stopped k | false ↦ run D M plan (next D M s st) (suc k) ]
