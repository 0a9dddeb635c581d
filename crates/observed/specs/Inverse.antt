-- From a fact back to the bound fact (lifted atom) that it is under a binding: the facts of a state as a set of a step's atoms, and those left over.
-- `atoms` is the set of the bound facts of the step's move.
use Rattle.std.specs.Prelude.{ℕ, ◌+◌, ◌-◌, ◌*◌, Bool, true, false, cond, ◌&&◌, ◌||◌, not, List, [], ◌∷◌, eqb}
use Rattle.limits.specs.Limits.{set_size}
use Rattle.mask.specs.Bits.{test_bit, set_bit, flip_bit}
use Rattle.mask.specs.Sets.{empty}
use Rattle.terms.specs.declared.Object.{Object}
use Rattle.terms.specs.declared.Binding.{Binding}
use Rattle.terms.specs.declared.Fact.{Fact}
use Rattle.terms.specs.Facts.{precedes}
use Rattle.terms.specs.Steps.{object_of}
use Rattle.quantify.specs.Quantify.{any}

-- the binding gives parameter i the object
unfoldable pub gives : Binding → ℕ → Object → Bool
gives b i x = eqb (object_of b (record { 0 = i })).0 x.0

-- the number of the parameter that has the object, 0 where none has. The object 0 of an unused place has none
unfoldable pub param_of : Binding → Object → ℕ
param_of b x =
    cond (eqb x.0 0) 0 (cond (gives b 1 x) 1 (cond (gives b 2 x) 2 (cond (gives b 3 x) 3 (cond (gives b 4 x) 4 0))))

-- a place is unused, or its object is one of the binding's
unfoldable pub place_bound : Binding → Object → Bool
place_bound b x = eqb x.0 0 || not (eqb (param_of b x) 0)

-- the number n of the parameters that have the objects of a fact, with its relation
unfoldable pub atom_of : Binding → Fact → ℕ
atom_of b f = 16 * (f.relation.0 - 1) + 4 * (param_of b f.first - 1) + (param_of b f.second - 1)

-- A fact is a bound fact of the step: its objects are the binding's, and the move has the bound fact. An object may be of a kind below its
-- parameter's and suit a place that the parameter does not suit: then the move has no such bound fact.
unfoldable pub fact_bound : List ℕ → Binding → Fact → Bool
fact_bound atoms b f = place_bound b f.first && place_bound b f.second && test_bit atoms (atom_of b f)

unfoldable pub mark : List ℕ → Binding → List ℕ → Fact → List ℕ
mark atoms b m f = cond (fact_bound atoms b f) (set_bit m (atom_of b f)) m

unfoldable pub marks : List ℕ → Binding → List ℕ → List Fact → List ℕ
marks atoms b m [] = m
marks atoms b m (f ∷ fs) = marks atoms b (mark atoms b m f) fs

-- the bound facts of a step that hold in a state
unfoldable pub atoms_in : List ℕ → Binding → List Fact → List ℕ
atoms_in atoms b fs = marks atoms b (empty set_size) fs

-- the facts that are no bound facts of the step
unfoldable pub unbound : List ℕ → Binding → List Fact → List Fact
unbound atoms b [] = []
unbound atoms b (f ∷ fs) = cond (fact_bound atoms b f) (unbound atoms b fs) (f ∷ unbound atoms b fs)

-- the facts that are in f ∷ fs or in a second list but not in both; both are in order, and `more` gives the same for fs and a second list. Of the
-- first facts of the two, if they differ, the one that precedes is in its list alone, and the other is compared with the facts that follow
unfoldable pub merge_from : Fact → List Fact → (List Fact → List Fact) → List Fact → List Fact
merge_from f fs more [] = f ∷ fs
merge_from f fs more (g ∷ gs) = cond (precedes f g) (f ∷ more (g ∷ gs)) (cond (precedes g f) (g ∷ merge_from f fs more gs) (more gs))

-- the facts that stand in one alone of two lists in order (symmetric difference), by a merge. It is `toggled` of format where the second list is in order, which
-- is not known of a list that is still being looked over.
unfoldable pub in_one_alone : List Fact → List Fact → List Fact
in_one_alone [] gs = gs
in_one_alone (f ∷ fs) gs = merge_from f fs (λ hs. in_one_alone fs hs) gs

unfoldable pub some_fact : List Fact → Bool
some_fact [] = false
some_fact (f ∷ fs) = true

-- row 11, for facts in order: some fact that is no bound fact holds before the step alone, or after it alone
unfoldable pub unbound_changed : List ℕ → Binding → List Fact → List Fact → Bool
unbound_changed atoms b pre post = some_fact (in_one_alone (unbound atoms b pre) (unbound atoms b post))

-- ---- facts that turn

-- a set in which the bound fact that f is turns; unchanged if f is no bound fact
unfoldable pub turn_mark : List ℕ → Binding → List ℕ → Fact → List ℕ
turn_mark atoms b m f = cond (fact_bound atoms b f) (flip_bit m (atom_of b f)) m

unfoldable pub turn_marks : List ℕ → Binding → List ℕ → List Fact → List ℕ
turn_marks atoms b m [] = m
turn_marks atoms b m (f ∷ fs) = turn_marks atoms b (turn_mark atoms b m f) fs

-- row 11, for facts that turn: one is no bound fact
unfoldable pub some_unbound : List ℕ → Binding → List Fact → Bool
some_unbound atoms b fs = any (λ f. not (fact_bound atoms b f)) fs
