-- Facts and bound facts of a right step: a right fact found to be a bound fact is that bound fact, and each bound fact is found.
use Prim.Native.Nat.{ℕ, ◌-◌, ◌≤◌, ◌<◌}
use native.Mathlib.Decide.{dec_lt}
use native.Mathlib.Omega.{arith}
use mathlib.Core.Path.{◌≡◌, refl, sym, ap, ◌∙◌}
use mathlib.Core.Bool.{Bool, true, false, cond, ◌&&◌}
use mathlib.Core.List.{List}
use lib.Dec.{eqb, leb}
use borrow.Author.Tests.{eqb-true, eq-eqb}
use Rattle.truth.specs.Bools.{clash, and_in, and_out, bool_eq}
use Rattle.mask.specs.Bits.{test_bit}
use Rattle.mask.proofs.Bytes.{test_past}
use Rattle.mask.proofs.Whole.{length_mask_of, test_mask_of}
use Rattle.terms.specs.declared.Param.{Param}
use Rattle.terms.specs.declared.Relation.{Relation}
use Rattle.terms.specs.declared.Step.{Step}
use Rattle.terms.specs.declared.Fact.{Fact}
use Rattle.terms.specs.Schema.{Schema, TypedObjects}
use Rattle.terms.specs.Facts.{fact_bad, fact_number}
use Rattle.terms.specs.Steps.{object_of, atom_relation, atom_first, atom_second, parameter_fills, is_atom, ground}
use Rattle.terms.proofs.Atoms.{range_out, first_range, second_range, atom_number, atom_number_lem, number_relation, number_first, number_second, fills_used, fills_unused, atom_out}
use Rattle.limits.specs.Limits.{max_objects, max_atoms}
use Rattle.atoms.specs.Atoms.{atom_set}
use Rattle.observed.specs.Inverse.{param_of, place_bound, fact_bound, atom_of}
use Rattle.observed.proofs.Params.{param_most}
use Rattle.factsets.specs.Right.{RightStep}
use Rattle.wellformed.specs.Grounding.{object_in, fact_of}
use Rattle.factsets.proofs.Suits.{used_out, argument_used}
use Rattle.factsets.proofs.Numbers.{fact_parts}
use Rattle.wellformed.proofs.Inverse.{fact_of_atom, fact_of_places}
use Rattle.onewalk.proofs.Params.{param_none, bound_out, bound_in}

-- what is in the set of a move's bound facts is one of them
atom_in_set : (sch : Schema) (a n : ℕ) → test_bit (atom_set sch a) n ≡ true → is_atom sch a n ≡ true
unfolding atom_set
atom_in_set sch a n e = go (dec_lt n max_atoms)
  where
    go : Dec (n < max_atoms) → is_atom sch a n ≡ true
    go (yes l) = sym (test_mask_of 32 (is_atom sch a) n l) ∙ e
    go (no l) = clash _ e (test_past _ n (omega (arith, length_mask_of 32 (is_atom sch a))))

module _ (sch : Schema) (ob : TypedObjects) (st : Step) (right : RightStep sch ob st) where
  -- ---- from a bound fact to the fact that it becomes, and back by the objects
  place_found : (r : Relation) (i : ℕ) (p : Param) → 1 ≤ p.0 → p.0 ≤ 4 → parameter_fills sch st.action r i p ≡ true
      → (place_bound st.binding (object_in sch st.binding r i p) ≡ true) × (param_of st.binding (object_in sch st.binding r i p) - 1 ≡ p.0 - 1)
  unfolding object_in
  place_found r i p low high fills = go (leb i (sch.places r)) refl
    where
      go : (used : Bool) → leb i (sch.places r) ≡ used
          → (place_bound st.binding (record { 0 = cond used (object_of st.binding p).0 0 }) ≡ true)
          × (param_of st.binding (record { 0 = cond used (object_of st.binding p).0 0 }) - 1 ≡ p.0 - 1)
      go true u =
          let (own, fits) = fills_used sch st.action r i p fills u in
          let (some, most, suits) = argument_used sch ob st right p.0 low high own in
          let (bound, found) = bound_in sch ob st right (object_of st.binding p) some p.0 low high refl in
          (bound, ap (λ (k : ℕ). k - 1) found)
      go false u =
          let (bound, none) = param_none st.binding (record { 0 = 0 }) refl in
          (bound, omega (arith, none, fills_unused sch st.action r i p fills u))

  -- the bound facts of the step's move
  abbrev pub atoms_of : List ℕ
  atoms_of = atom_set sch st.action.0

  atom_found : (n : ℕ) → n < max_atoms → is_atom sch st.action.0 n ≡ true
      → (fact_bound atoms_of st.binding (fact_of sch st.binding n) ≡ true) × (atom_of st.binding (fact_of sch st.binding n) ≡ n)
  unfolding fact_bound atom_of fact_of atom_number atom_set
  atom_found n l atom =
      let parts = atom_out sch st.action.0 n atom in
      let (first, p) = place_found (atom_relation n) 1 (atom_first n) (first_range n).0 (first_range n).1 parts.first in
      let (second, q) = place_found (atom_relation n) 2 (atom_second n) (second_range n).0 (second_range n).1 parts.second in
      let same : atom_number (atom_relation n).0 (param_of st.binding (object_in sch st.binding (atom_relation n) 1 (atom_first n))) (param_of st.binding (object_in sch st.binding (atom_relation n) 2 (atom_second n))) ≡ n =
      rw (p, q) (atom_number_lem n) in
      (and_in _ _ (and_in _ _ first second) (rw same (test_mask_of 32 (is_atom sch st.action.0) n l ∙ atom)), same)

  module _ (few : ob.count ≤ max_objects) (f : Fact) (good : fact_bad sch ob f ≡ false) where
    -- A bound fact of the step with the fact's number is found from the fact.
    pub found_in : (n : ℕ) → n < max_atoms → is_atom sch st.action.0 n ≡ true → ground sch st.binding n ≡ fact_number f
        → (fact_bound atoms_of st.binding f ≡ true) × (atom_of st.binding f ≡ n)
    found_in n l atom e = rw (fact_of_atom sch ob few st right f good n atom e) (atom_found n l atom)

    -- ---- from a fact to the bound fact

    -- the parameters found from the fact's objects have them, in a used place
    grounds : place_bound st.binding f.first ≡ true → place_bound st.binding f.second ≡ true
        → ground sch st.binding (atom_of st.binding f) ≡ fact_number f
    unfolding atom_of atom_number
    grounds x y =
        let (number, first, second) = fact_parts sch ob f good in
        let (some, most) = range_out sch.relations f.relation.0 number in
        let p : ℕ = param_of st.binding f.first in
        let q : ℕ = param_of st.binding f.second in
        let high = param_most st.binding f.first in
        let high' = param_most st.binding f.second in
        fact_of_places sch ob st.binding f good (atom_number f.relation.0 p q) (number_relation f.relation.0 p q high high' some)
        (λ u.
        let b = bound_out st.binding f.first (used_out sch ob _ f.first _ first u).0 x in
        rw (number_first f.relation.0 p q high high' b.0) b.1)
        (λ u.
        let b = bound_out st.binding f.second (used_out sch ob _ f.second _ second u).0 y in
        rw (number_second f.relation.0 p q high high' b.0) b.1)

    -- What is found from the fact is a bound fact of the step, and becomes the fact.
    pub found_out : fact_bound atoms_of st.binding f ≡ true
        → (is_atom sch st.action.0 (atom_of st.binding f) ≡ true) × (ground sch st.binding (atom_of st.binding f) ≡ fact_number f)
    unfolding fact_bound
    found_out e =
        let (places, own) = and_out (place_bound st.binding f.first && place_bound st.binding f.second) _ e in
        let (x, y) = and_out (place_bound st.binding f.first) (place_bound st.binding f.second) places in
        (atom_in_set sch st.action.0 (atom_of st.binding f) own, grounds x y)

    -- The test on what is found from the fact is the test on what bound fact n becomes.
    pub found : (n : ℕ) → n < max_atoms → (fact_bound atoms_of st.binding f && eqb (atom_of st.binding f) n)
        ≡ (is_atom sch st.action.0 n && eqb (fact_number f) (ground sch st.binding n))
    found n l = bool_eq _ _ into out
      where
        into : (fact_bound atoms_of st.binding f && eqb (atom_of st.binding f) n) ≡ true
            → (is_atom sch st.action.0 n && eqb (fact_number f) (ground sch st.binding n)) ≡ true
        into e =
            let (bound, same) = and_out (fact_bound atoms_of st.binding f) (eqb (atom_of st.binding f) n) e in
            let q : atom_of st.binding f ≡ n = eqb-true _ _ same in
            let (atom, becomes) = rw q at (found_out bound) in
            and_in _ _ atom (eq-eqb _ _ (sym becomes))

        out : (is_atom sch st.action.0 n && eqb (fact_number f) (ground sch st.binding n)) ≡ true
            → (fact_bound atoms_of st.binding f && eqb (atom_of st.binding f) n) ≡ true
        out e =
            let (atom, same) = and_out (is_atom sch st.action.0 n) (eqb (fact_number f) (ground sch st.binding n)) e in
            let (bound, q) = found_in n l atom (sym (eqb-true _ _ same)) in
            and_in _ _ bound (eq-eqb _ _ q)
