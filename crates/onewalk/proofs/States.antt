-- A right state as a set of the bound facts of a right step: those whose facts hold, and no others.
use Prim.Native.Nat.{ℕ, ◌≤◌, ◌<◌}
use native.Mathlib.Omega.{arith}
use mathlib.Core.Path.{◌≡◌, sym, ap, ◌∙◌}
use mathlib.Core.Bool.{Bool, true, false, cond, ◌&&◌, ◌||◌, or-false, or_assoc, and-false, and-or_distrib_left}
use mathlib.Core.List.{List, [], ◌∷◌}
use lib.Dec.{eqb}
use lib.ListN.{length}
use Rattle.mask.specs.Bits.{test_bit, set_bit}
use Rattle.mask.specs.Sets.{empty}
use Rattle.mask.proofs.Laws.{test_empty, length_empty, test_set_below}
use Rattle.terms.specs.declared.Step.{Step}
use Rattle.terms.specs.declared.Fact.{Fact}
use Rattle.terms.specs.Schema.{Schema, TypedObjects}
use Rattle.terms.specs.Facts.{fact_bad}
use Rattle.terms.specs.Steps.{is_atom, ground}
use Rattle.limits.specs.Limits.{max_objects}
use Rattle.quantify.specs.Quantify.{any, Mem, here, there}
use Rattle.factsets.specs.Holding.{holding}
use Rattle.observed.specs.Inverse.{fact_bound, atom_of, mark, marks, atoms_in}
use Rattle.observed.specs.Faithful.{Found}
use Rattle.observed.proofs.Observe.{length_mark}
use Rattle.factsets.specs.Right.{RightStep}
use Rattle.onewalk.proofs.Atoms.{atoms_of, found}

-- a bit put in if a test holds
test_mark : (c : Bool) (m : List ℕ) (k n : ℕ) → n < 256 → length m ≡ 32 → test_bit (cond c (set_bit m k) m) n ≡ (test_bit m n || c && eqb k n)
test_mark true m k n h e = test_set_below m k n (omega arith)
test_mark false m k n h e = sym (or-false (test_bit m n))

-- two sights of one atom
gather : (t a b c : Bool) → (t || a && b || a && c) ≡ (t || a && (b || c))
gather t a b c = or_assoc t (a && b) (a && c) ∙ ap (λ (d : Bool). t || d) (sym (and-or_distrib_left a b c))

module _ (sch : Schema) (ob : TypedObjects) (few : ob.count ≤ max_objects) (st : Step) (right : RightStep sch ob st) where
  marks_found : (fs : List Fact) → ((f : Fact) → Mem f fs → fact_bad sch ob f ≡ false) → (m : List ℕ) → length m ≡ 32 → (n : ℕ) → n < 256
      → test_bit (marks (atoms_of sch ob st right) st.binding m fs) n ≡ (test_bit m n || is_atom sch st.action.0 n && holding fs (ground sch st.binding n))
  unfolding marks mark holding any
  marks_found [] good m e n h = sym (ap (λ (b : Bool). test_bit m n || b) (and-false (is_atom sch st.action.0 n)) ∙ or-false (test_bit m n))
  marks_found (f ∷ fs) good m e n h =
      marks_found fs (λ g k. good g (there k)) _ (length_mark (fact_bound (atoms_of sch ob st right) st.binding f) m (atom_of st.binding f) ∙ e) n h
      ∙ rw (test_mark (fact_bound (atoms_of sch ob st right) st.binding f) m (atom_of st.binding f) n h e, found sch ob st right few f (good f here) n h)
      (gather (test_bit m n) (is_atom sch st.action.0 n) _ _)

  -- The bound facts found from a right state are those whose facts hold in it.
  pub atoms_found : (fs : List Fact) → ((f : Fact) → Mem f fs → fact_bad sch ob f ≡ false) → (n : ℕ) → n < 256
      → test_bit (atoms_in (atoms_of sch ob st right) st.binding fs) n ≡ (is_atom sch st.action.0 n && holding fs (ground sch st.binding n))
  unfolding atoms_in
  atoms_found fs good n h = marks_found fs good (empty 32) (length_empty 32) n h ∙ rw (test_empty 32 n)

  pub state_found : (fs : List Fact) → ((f : Fact) → Mem f fs → fact_bad sch ob f ≡ false) → Found sch st fs
  state_found fs good n h = atoms_found fs good n h
