-- Sheet, row 11 and row 12 from what is observed; and row 28 of a step that did not go, by the preconditions that are observed and the state before
-- it. Uses jobs for the answer of row 12 and for the steps that did not go.
use Rattle.std.specs.Prelude.{ℕ, zero, suc, Bool, not, List, [], ◌++◌, eqb}
use Rattle.answer.specs.Answer.{Answer, Good, Refused, first_refused}
use Rattle.mask.specs.Sets.{intersection, union, difference}
use Rattle.quantify.specs.Quantify.{any, least}
use Rattle.format.specs.Decode.{RecordedStep}
use Rattle.jobs.specs.Planning.{failed_steps}
use Rattle.jobs.specs.Learn.{conflict_answer}
use Rattle.jobs.specs.SheetBits.{needed_set, needed_not_set, added_set, removed_set}
use Rattle.observed.specs.Inverse.{atoms_in}
use Rattle.observed.specs.Observed.{always_before, ever_before, always_after, ever_after, added, deleted, bound, observed_set}

-- one of the four sets of a move's rules, in their order (jobs/specs/SheetBits.antt)
unfoldable pub rule_set : List ℕ → ℕ → ℕ → List ℕ
rule_set l a zero = observed_set l a always_before
rule_set l a (suc zero) = difference (observed_set l a bound) (observed_set l a ever_before)
rule_set l a (suc (suc zero)) = observed_set l a added
rule_set l a (suc (suc (suc k))) = observed_set l a deleted

unfoldable pub rules_observed : List ℕ → ℕ → List ℕ
rules_observed l a =
    rule_set l a needed_set ++ rule_set l a needed_not_set ++ rule_set l a added_set ++ rule_set l a removed_set

unfoldable pub sheet_observed : List ℕ → ℕ → ℕ → List ℕ
sheet_observed l zero a = []
sheet_observed l (suc n) a = rules_observed l a ++ sheet_observed l n (suc a)

-- row 11
unfoldable pub unbound_answer : ℕ → Answer
unbound_answer zero = Good 0
unbound_answer (suc p) = Refused 11 (suc p)

-- something is in the set
unfoldable pub in_use : List ℕ → Bool
in_use m = any (λ x. not (eqb x 0)) m

-- the bound facts in conflict of a move: added and not held after every step, or removed and held after some
unfoldable pub conflict_set : List ℕ → ℕ → List ℕ
conflict_set l a = union (difference (observed_set l a added) (observed_set l a always_after)) (intersection (observed_set l a deleted) (observed_set l a ever_after))

-- row 12, of one move: a bound fact is in conflict
unfoldable pub conflict_observed : List ℕ → ℕ → Bool
conflict_observed l a = in_use (conflict_set l a)

unfoldable pub conflict_among : List ℕ → ℕ → Answer
conflict_among l moves = conflict_answer (least moves (conflict_observed l))

-- ---- row 28

-- the preconditions of a move that are unmet where `held` are its bound facts that hold: needed not to hold and held, or needed to hold and not held
unfoldable pub unmet_set : List ℕ → ℕ → List ℕ → List ℕ
unmet_set l a held = union (intersection (rule_set l a needed_not_set) held) (difference (rule_set l a needed_set) held)

-- all preconditions of the step's move are met in the state before it
unfoldable pub met_before : List ℕ → RecordedStep → Bool
met_before l x =
    not (in_use (unmet_set l x.step.action.0 (atoms_in (observed_set l x.step.action.0 bound) x.step.binding x.pre)))

-- the first of some recorded steps that did not go though all preconditions are met
unfoldable pub refuted_observed : List ℕ → List RecordedStep → Answer
refuted_observed l xs = first_refused (met_before l) 28 (λ x. x.place) (failed_steps xs)
