-- From facts back to bound facts: a right fact with the number of a bound fact is what this becomes, and so is one with its relation and its
-- objects. For a learner that meets facts and asks which bound facts they are.
use Prim.Native.Nat.{ℕ, ◌≤◌}
use mathlib.Core.Path.{◌≡◌, refl, sym, ap, ◌∙◌}
use mathlib.Core.Bool.{Bool, true, false, cond}
use lib.Dec.{leb}
use Rattle.terms.specs.declared.Object.{Object}
use Rattle.terms.specs.declared.Param.{Param}
use Rattle.terms.specs.declared.Relation.{Relation}
use Rattle.terms.specs.declared.Binding.{Binding}
use Rattle.terms.specs.declared.Step.{Step}
use Rattle.terms.specs.declared.Fact.{Fact}
use Rattle.terms.specs.Schema.{Schema, TypedObjects, object_bad}
use Rattle.terms.specs.Facts.{fact_bad, fact_number}
use Rattle.terms.specs.Steps.{object_of, atom_relation, atom_first, atom_second, is_atom, ground}
use Rattle.terms.proofs.Atoms.{fact_path}
use Rattle.limits.specs.Limits.{max_objects}
use Rattle.factsets.specs.Right.{RightStep}
use Rattle.wellformed.specs.Grounding.{object_in, fact_of}
use Rattle.factsets.proofs.Suits.{unused_out}
use Rattle.factsets.proofs.Numbers.{fact_parts, number_injective}
use Rattle.wellformed.proofs.Atoms.{ground_number, fact_right}

module _ (sch : Schema) (ob : TypedObjects) (few : ob.count ≤ max_objects) (st : Step) (right : RightStep sch ob st) where
  -- A right fact that a bound fact of the step has the number of, is what the bound fact becomes: its objects are the binding's.
  pub fact_of_atom : (f : Fact) → fact_bad sch ob f ≡ false → (n : ℕ) → is_atom sch st.action.0 n ≡ true
      → ground sch st.binding n ≡ fact_number f → f ≡ fact_of sch st.binding n
  fact_of_atom f good n atom e =
      number_injective sch ob few f (fact_of sch st.binding n) good (fact_right sch ob st right n atom) (sym (ground_number sch st.binding n ∙ e))

-- the object in a place of a right fact, where a used place has the parameter's
place_of : (sch : Schema) (ob : TypedObjects) (b : Binding) (r : Relation) (i : ℕ) (p : Param) (x : Object)
    → object_bad sch ob (leb i (sch.places r)) (sch.place_kind r i) x ≡ false
    → (leb i (sch.places r) ≡ true → (object_of b p).0 ≡ x.0) → (object_in sch b r i p).0 ≡ x.0
unfolding object_in
place_of sch ob b r i p x good used = go (leb i (sch.places r)) refl
  where
    go : (u : Bool) → leb i (sch.places r) ≡ u → cond u (object_of b p).0 0 ≡ x.0
    go true e = used e
    go false e = sym (unused_out sch ob _ x _ good e)

-- A right fact of a bound fact's relation whose used places have the parameters' objects is what the bound fact becomes.
pub fact_of_places : (sch : Schema) (ob : TypedObjects) (b : Binding) (f : Fact) → fact_bad sch ob f ≡ false → (n : ℕ) → atom_relation n ≡ f.relation
    → (leb 1 (sch.places f.relation) ≡ true → (object_of b (atom_first n)).0 ≡ f.first.0)
    → (leb 2 (sch.places f.relation) ≡ true → (object_of b (atom_second n)).0 ≡ f.second.0)
    → ground sch b n ≡ fact_number f
unfolding fact_of
fact_of_places sch ob b f good n same x y =
    let (number, first, second) = fact_parts sch ob f good in
    let fact : fact_of sch b n ≡ f =
    fact_path (fact_of sch b n) f (ap (λ (k : Relation). k.0) same)
    (rw same (place_of sch ob b f.relation 1 (atom_first n) f.first first x))
    (rw same (place_of sch ob b f.relation 2 (atom_second n) f.second second y)) in
    sym (ground_number sch b n) ∙ ap fact_number fact
