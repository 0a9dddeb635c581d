-- Bound facts under the binding of a right step: each becomes a right fact, of the number that `ground` says, and no two become one.
use Prim.Native.Nat.{ℕ, ◌-◌, ◌*◌, ◌≤◌, ◌<◌}
use mathlib.Core.Path.{◌≡◌, refl, sym, ap, ◌∙◌}
use mathlib.Core.Bool.{Bool, true, false, cond}
use lib.Dec.{leb}
use Rattle.terms.specs.declared.Object.{Object}
use Rattle.terms.specs.declared.Param.{Param}
use Rattle.terms.specs.declared.Relation.{Relation}
use Rattle.terms.specs.declared.Binding.{Binding}
use Rattle.terms.specs.declared.Step.{Step}
use Rattle.terms.specs.declared.Fact.{Fact}
use Rattle.terms.specs.Schema.{Schema, TypedObjects, object_bad}
use Rattle.terms.specs.Facts.{fact_bad, fact_number}
use Rattle.terms.specs.Steps.{object_of, atom_relation, atom_first, atom_second, parameter_fills, is_atom, placed, ground}
use Rattle.terms.proofs.Atoms.{range_in, first_range, second_range, relation_from_1, atom_same, fills_used, fills_unused, atom_out}
use Rattle.terms.proofs.Atoms.{atom_below}
use Rattle.terms.proofs.Suits.{suits_through}
use Rattle.limits.specs.Limits.{max_objects}
use Rattle.model.specs.Formed.{Proper}
use Rattle.jobs.specs.Planning.{domain, ground_action}
use Rattle.factsets.specs.Right.{RightStep}
use Rattle.wellformed.specs.Grounding.{object_in, fact_of}
use Rattle.factsets.proofs.Suits.{used_in, unused_in, argument_used, parameters_apart}
use Rattle.factsets.proofs.Numbers.{number_below, number_injective}

-- `ground` is the number of the fact that the bound fact becomes
pub ground_number : (sch : Schema) (b : Binding) (n : ℕ) → fact_number (fact_of sch b n) ≡ ground sch b n
unfolding fact_number fact_of object_in ground placed
ground_number sch b n =
    rw (less (leb 1 (sch.places (atom_relation n))) (object_of b (atom_first n)).0, less (leb 2 (sch.places (atom_relation n))) (object_of b (atom_second n)).0)
  where
    less : (used : Bool) (x : ℕ) → cond used x 0 - 1 ≡ cond used (x - 1) 0
    less true x = refl
    less false x = refl

module _ (sch : Schema) (ob : TypedObjects) (st : Step) (right : RightStep sch ob st) where
  place_right : (r : Relation) (i : ℕ) (p : Param) → 1 ≤ p.0 → p.0 ≤ 4 → parameter_fills sch st.action r i p ≡ true
      → object_bad sch ob (leb i (sch.places r)) (sch.place_kind r i) (object_in sch st.binding r i p) ≡ false
  unfolding object_in
  place_right r i p low high fills = go (leb i (sch.places r)) refl
    where
      go : (used : Bool) → leb i (sch.places r) ≡ used
          → object_bad sch ob used (sch.place_kind r i) (record { 0 = cond used (object_of st.binding p).0 0 }) ≡ false
      go true u =
          let (own, fits) = fills_used sch st.action r i p fills u in
          let (some, most, suits) = argument_used sch ob st right p.0 low high own in
          used_in sch ob (sch.place_kind r i) (object_of st.binding p) true refl some most (suits_through sch right.typed.falling _ _ _ (right.typed.known (object_of st.binding p) some most) fits suits)
      go false u = unused_in sch ob (sch.place_kind r i) (record { 0 = 0 }) false refl refl

  -- A bound fact becomes a right fact.
  pub fact_right : (n : ℕ) → is_atom sch st.action.0 n ≡ true → fact_bad sch ob (fact_of sch st.binding n) ≡ false
  unfolding fact_bad fact_of
  fact_right n atom =
      let parts = atom_out sch st.action.0 n atom in
      let low : 1 ≤ (atom_relation n).0 = relation_from_1 n in
      rw (
        range_in sch.relations (atom_relation n).0 low parts.relation,
        place_right (atom_relation n) 1 (atom_first n) (first_range n).0 (first_range n).1 parts.first,
        place_right (atom_relation n) 2 (atom_second n) (second_range n).0 (second_range n).1 parts.second,
      )

  param_same : (r : Relation) (i : ℕ) (p q : Param) → 1 ≤ p.0 → p.0 ≤ 4 → 1 ≤ q.0 → q.0 ≤ 4
      → parameter_fills sch st.action r i p ≡ true → parameter_fills sch st.action r i q ≡ true
      → (object_in sch st.binding r i p).0 ≡ (object_in sch st.binding r i q).0 → p.0 ≡ q.0
  unfolding object_in
  param_same r i p q low high low' high' fills fills' = go (leb i (sch.places r)) refl
    where
      go : (used : Bool) → leb i (sch.places r) ≡ used → cond used (object_of st.binding p).0 0 ≡ cond used (object_of st.binding q).0 0 → p.0 ≡ q.0
      go true u e =
          let (own, fits) = fills_used sch st.action r i p fills u in
          let (some, most, suits) = argument_used sch ob st right p.0 low high own in
          parameters_apart sch ob st right p.0 q.0 low high low' high' some e
      go false u e = fills_unused sch st.action r i p fills u ∙ sym (fills_unused sch st.action r i q fills' u)

  -- No two bound facts become one fact.
  pub facts_apart : (m n : ℕ) → is_atom sch st.action.0 m ≡ true → is_atom sch st.action.0 n ≡ true
      → fact_of sch st.binding m ≡ fact_of sch st.binding n → m ≡ n
  unfolding fact_of
  facts_apart m n atom atom' e =
      let parts = atom_out sch st.action.0 m atom in
      let parts' = atom_out sch st.action.0 n atom' in
      let r : atom_relation m ≡ atom_relation n = ap (λ (f : Fact). f.relation) e in
      let x : object_in sch st.binding (atom_relation m) 1 (atom_first m) ≡ object_in sch st.binding (atom_relation n) 1 (atom_first n) = ap (λ (f : Fact). f.first) e in
      let y : object_in sch st.binding (atom_relation m) 2 (atom_second m) ≡ object_in sch st.binding (atom_relation n) 2 (atom_second n) = ap (λ (f : Fact). f.second) e in
      atom_same m n (ap (λ (k : Relation). k.0) r)
      (param_same (atom_relation n) 1 (atom_first m) (atom_first n) (first_range m).0 (first_range m).1 (first_range n).0 (first_range n).1
      (rw r at parts.first) parts'.first (ap (λ (o : Object). o.0) (rw r at x)))
      (param_same (atom_relation n) 2 (atom_second m) (atom_second n) (second_range m).0 (second_range m).1 (second_range n).0 (second_range n).1
      (rw r at parts.second) parts'.second (ap (λ (o : Object). o.0) (rw r at y)))

  module _ (few : ob.count ≤ max_objects) where
    -- The facts of bound facts are counted by the domain,
    pub ground_below : (n : ℕ) → is_atom sch st.action.0 n ≡ true → ground sch st.binding n < 256 * sch.relations
    ground_below n atom =
        let h = number_below sch ob few (fact_of sch st.binding n) (fact_right n atom) in
        rw (ground_number sch st.binding n) at h

    -- grounding is injective on bound facts,
    pub ground_injective : (m n : ℕ) → is_atom sch st.action.0 m ≡ true → is_atom sch st.action.0 n ≡ true
        → ground sch st.binding m ≡ ground sch st.binding n → m ≡ n
    ground_injective m n atom atom' e =
        facts_apart m n atom atom'
        (number_injective sch ob few (fact_of sch st.binding m) (fact_of sch st.binding n) (fact_right m atom) (fact_right n atom')
        (ground_number sch st.binding m ∙ e ∙ sym (ground_number sch st.binding n)))

    -- and a right step is proper in the sense of `model`.
    pub step_proper : Proper (domain sch) (ground_action sch st)
    unfolding domain ground_action
    step_proper = record { ranged = λ n atom. atom_below sch st.action.0 n atom; apart = ground_injective }
