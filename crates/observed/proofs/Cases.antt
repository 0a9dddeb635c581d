-- A roll of the small hall, computed: bound facts come from parameters, not from object numbers, and row 11 asks about all other facts.
-- Relation 1 is "bank at spot", 2 "spot clear"; the roll's parameters are the bank and two spots.
use Prim.Native.Nat.{ℕ}
use mathlib.Core.Path.{◌≡◌, refl}
use mathlib.Core.Bool.{true, false}
use mathlib.Core.List.{List, [], ◌∷◌, ◌++◌}
use lib.ListN.{replicate}
use Rattle.mask.specs.Bits.{bit_of, without, test_bit, set_bit}
use Rattle.mask.specs.Sets.{bytewise, intersection, union, difference, empty}
use Rattle.terms.specs.declared.Binding.{Binding}
use Rattle.terms.specs.declared.Fact.{Fact}
use Rattle.terms.specs.Facts.{precedes}
use Rattle.terms.specs.Steps.{object_of}
use Rattle.observed.specs.Observed.{ever_before, added, deleted, set_at, observed_set, noted, sets_of, encoded, with_sets, after_step}
use Rattle.observed.specs.Inverse.{gives, param_of, place_bound, fact_bound, atom_of, mark, marks, atoms_in, unbound, merge_from, in_one_alone, some_fact, unbound_changed}

abbrev roll : ℕ → ℕ → ℕ → Binding
roll bank from to = record { objects = record { 0 = bank } ∷ record { 0 = from } ∷ record { 0 = to } ∷ record { 0 = 0 } ∷ [] }

abbrev fact : ℕ → ℕ → ℕ → Fact
fact r x y = record { relation = record { 0 = r }; first = record { 0 = x }; second = record { 0 = y } }

-- a move that has every bound fact, and one that lacks number 24, as where "spot clear" is of a kind below the third parameter's
abbrev everything : List ℕ
everything = replicate 32 255

abbrev lacking : List ℕ
lacking = (255 ∷ 255 ∷ 255 ∷ 254 ∷ []) ++ replicate 28 255

-- bank at the first spot, the second clear: bound facts 1 and 24, in a hall of bank 1 and spots 2, 3 and in one of bank 3 and spots 1, 2;
-- a third spot that is clear is no bound fact, and row 11 is met where it is so before the step alone; so is a fact over the step's own objects
-- that the move has no bound fact for
roll-right :
    (atoms_in everything (roll 1 2 3) (fact 1 1 2 ∷ fact 2 3 0 ∷ fact 2 4 0 ∷ []) ≡ (2 ∷ 0 ∷ 0 ∷ 1 ∷ []) ++ replicate 28 0)
    × (atoms_in everything (roll 3 1 2) (fact 1 3 1 ∷ fact 2 2 0 ∷ fact 2 4 0 ∷ []) ≡ (2 ∷ 0 ∷ 0 ∷ 1 ∷ []) ++ replicate 28 0)
    × (unbound_changed everything (roll 1 2 3) (fact 1 1 2 ∷ fact 2 3 0 ∷ fact 2 4 0 ∷ []) (fact 1 1 3 ∷ fact 2 2 0 ∷ fact 2 4 0 ∷ []) ≡ false)
    × (unbound_changed everything (roll 1 2 3) (fact 1 1 2 ∷ fact 2 3 0 ∷ fact 2 4 0 ∷ []) (fact 1 1 3 ∷ fact 2 2 0 ∷ []) ≡ true)
    × (atoms_in lacking (roll 1 2 3) (fact 1 1 2 ∷ fact 2 3 0 ∷ []) ≡ (2 ∷ []) ++ replicate 31 0)
    × (unbound_changed lacking (roll 1 2 3) (fact 1 1 2 ∷ fact 2 3 0 ∷ []) (fact 1 1 3 ∷ fact 2 2 0 ∷ []) ≡ true)
    × (unbound_changed lacking (roll 1 2 3) (fact 1 1 2 ∷ fact 2 3 0 ∷ []) (fact 1 1 3 ∷ fact 2 2 0 ∷ fact 2 3 0 ∷ []) ≡ false)
unfolding object_of bit_of test_bit set_bit empty gives param_of place_bound fact_bound atom_of mark marks atoms_in unbound precedes merge_from in_one_alone some_fact unbound_changed
roll-right = (refl, refl, refl, refl, refl, refl, refl)

-- a fact that stands in one list alone does not end the comparison
alone_right : in_one_alone (fact 1 1 2 ∷ fact 2 3 0 ∷ fact 2 4 0 ∷ []) (fact 1 1 3 ∷ fact 2 3 0 ∷ []) ≡ fact 1 1 2 ∷ fact 1 1 3 ∷ fact 2 4 0 ∷ []
unfolding precedes merge_from in_one_alone
alone_right = refl

-- ---- two steps, in either sequence

-- nothing in any of the sets of one move, and a set of some of its first eight bound facts, as the byte that has them
abbrev none : List ℕ
none = replicate 224 0

abbrev some : ℕ → List ℕ
some bits = bits ∷ replicate 31 0

-- One step changes bound fact 1 to holding, and does not have number 2. The other leaves number 1 as it is, holding, and removes number 2. Whichever comes
-- last, number 1 is added and number 2 removed, and both held before some step.
sequence-right :
    (observed_set (noted 1 (some 6) (some 2) (noted 1 (some 0) (some 2) none)) 1 added ≡ some 2)
    × (observed_set (noted 1 (some 0) (some 2) (noted 1 (some 6) (some 2) none)) 1 added ≡ some 2)
    × (observed_set (noted 1 (some 6) (some 2) (noted 1 (some 0) (some 2) none)) 1 deleted ≡ some 4)
    × (observed_set (noted 1 (some 0) (some 2) (noted 1 (some 6) (some 2) none)) 1 deleted ≡ some 4)
    × (observed_set (noted 1 (some 6) (some 2) (noted 1 (some 0) (some 2) none)) 1 ever_before ≡ some 6)
    × (observed_set (noted 1 (some 0) (some 2) (noted 1 (some 6) (some 2) none)) 1 ever_before ≡ some 6)
unfolding without bytewise intersection union difference set_at observed_set sets_of encoded with_sets after_step noted
sequence-right = (refl, refl, refl, refl, refl, refl)
