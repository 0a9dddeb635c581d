-- Row 11 of one right step: a fact that is no bound fact is in one of the two states alone, exactly if such a fact changed its value.
use Prim.Native.Nat.{ℕ, ◌*◌, ◌≤◌}
use native.Mathlib.Omega.{arith}
use mathlib.Core.Path.{◌≡◌, sym, ap, ◌∙◌}
use mathlib.Core.Logic.{◌⊎◌, inl, inr}
use mathlib.Core.Bool.{Bool, true, false, ◌&&◌}
use mathlib.Core.List.{List}
use lib.Dec.{eqb}
use borrow.Author.Tests.{eqb-true, eq-eqb}
use Rattle.truth.specs.Bools.{clash, decide, bool_eq, and_in, and_out}
use Rattle.terms.specs.declared.Step.{Step}
use Rattle.terms.specs.declared.Fact.{Fact}
use Rattle.terms.specs.Schema.{Schema, TypedObjects}
use Rattle.terms.specs.Facts.{fact_bad, fact_number}
use Rattle.terms.specs.Steps.{is_atom, ground}
use Rattle.terms.proofs.Atoms.{atom_below}
use Rattle.limits.specs.Limits.{max_relations, max_objects}
use Rattle.format.specs.Decode.{RecordedStep}
use Rattle.quantify.specs.Quantify.{below, Mem}
use Rattle.model.specs.Model.{image}
use Rattle.model.specs.Learned.{unbound_effect}
use Rattle.quantify.proofs.Quantify.{below_in, below_out}
use Rattle.model.proofs.Rows as rows
use Rattle.jobs.specs.Planning.{domain, ground_action, transition}
use Rattle.atoms.specs.Atoms.{atom_set}
use Rattle.observed.specs.Inverse.{fact_bound, unbound_changed}
use Rattle.wellformed.specs.Right.{Right}
use Rattle.factsets.proofs.Numbers.{number_below, number_injective}
use Rattle.factsets.proofs.Holding.{holding_in, holding_out}
use Rattle.onewalk.proofs.Atoms.{atoms_of, found_in, found_out}
use Rattle.factsets.proofs.Toggled.{OneOf}
use Rattle.onewalk.proofs.Unbound.{changed_in, changed_out}
use Rattle.factsets.specs.Holding.{holding}
use Rattle.factsets.specs.Right.{RightStep}

-- the fact is that of a bound fact of the step
pub imaged : Schema → Step → ℕ → Bool
imaged sch st x = image (domain sch) (is_atom sch st.action.0) (ground_action sch st) x

module _ (sch : Schema) (relations : sch.relations ≤ max_relations) (ob : TypedObjects) (few : ob.count ≤ max_objects) (st : Step) (right : RightStep sch ob st) where
  -- A right fact is that of a bound fact of the step exactly if it is found to be one.
  pub bound_image : (f : Fact) → fact_bad sch ob f ≡ false → fact_bound (atoms_of sch ob st right) st.binding f ≡ imaged sch st (fact_number f)
  unfolding imaged image domain ground_action
  bound_image f good = bool_eq _ _ into out
    where
      atomic : ℕ → Bool
      atomic n = is_atom sch st.action.0 n && eqb (ground sch st.binding n) (fact_number f)

      into : fact_bound (atoms_of sch ob st right) st.binding f ≡ true → below (16 * sch.relations) atomic ≡ true
      into e =
          let (atom, grounds) = found_out sch ob st right few f good e in
          below_in _ atomic _ (atom_below sch st.action.0 _ atom) (and_in _ _ atom (eq-eqb _ _ grounds))

      out : below (16 * sch.relations) atomic ≡ true → fact_bound (atoms_of sch ob st right) st.binding f ≡ true
      out e =
          let (n, l, h) = below_out _ atomic e in
          let (atom, grounds) = and_out (is_atom sch st.action.0 n) (eqb (ground sch st.binding n) (fact_number f)) h in
          (found_in sch ob st right few f good n (omega arith) atom (eqb-true _ _ grounds)).0

  -- a fact in the first alone of two states that suit holds there alone
  alone_holds : (fs gs : List Fact) → ((g : Fact) → Mem g gs → fact_bad sch ob g ≡ false)
      → (f : Fact) → fact_bad sch ob f ≡ false → Mem f fs → (Mem f gs → ⊥) → holding fs (fact_number f) ≡ holding gs (fact_number f) → ⊥
  alone_holds fs gs suit f good m away same =
      let (g, l, e) = holding_out gs (fact_number f) (sym same ∙ holding_in fs m) in
      away (rw (number_injective sch ob few g f (suit g l) good e) at l)

  -- what holds in the first alone is a fact in it alone, and no bound fact if its number is none's
  holds_alone : (fs gs : List Fact) → ((g : Fact) → Mem g fs → fact_bad sch ob g ≡ false) → (x : ℕ) → imaged sch st x ≡ false → holding fs x ≡ true → holding gs x ≡ false
      → (f : Fact) × (fact_bound (atoms_of sch ob st right) st.binding f ≡ false) × Mem f fs × (Mem f gs → ⊥)
  holds_alone fs gs suit x off here-x gone =
      let (f, m, e) = holding_out fs x here-x in
      (f, bound_image f (suit f m) ∙ ap (imaged sch st) e ∙ off, m, λ l. clash (holding gs x) (rw e at (holding_in gs l)) gone)

module _ (sch : Schema) (relations : sch.relations ≤ max_relations) (ob : TypedObjects) (few : ob.count ≤ max_objects) (f : RecordedStep) (right : Right sch ob f) where
  abbrev changes : Bool
  changes = unbound_changed (atom_set sch f.step.action.0) f.step.binding f.pre f.post

  abbrev Unbound : Fact → Type 0
  Unbound g = fact_bound (atom_set sch f.step.action.0) f.step.binding g ≡ false

  -- Row 11 found from the facts is row 11 of the transition.
  pub unbound_changed_right : changes ≡ unbound_effect (domain sch) (transition sch f)
  unfolding domain transition imaged ground_action
  unbound_changed_right = bool_eq _ _ into out
    where
      suit : (g : Fact) → Mem g f.pre → fact_bad sch ob g ≡ false
      suit = right.pre.suits

      suit' : (g : Fact) → Mem g f.post → fact_bad sch ob g ≡ false
      suit' = right.post.suits

      effect : (g : Fact) → fact_bad sch ob g ≡ false → Unbound g → (holding f.pre (fact_number g) ≡ holding f.post (fact_number g) → ⊥)
          → unbound_effect (domain sch) (transition sch f) ≡ true
      effect g good e turns =
          rows.unbound_in (domain sch) (transition sch f) (fact_number g) (number_below sch ob few g good) turns
          (sym (bound_image sch relations ob few f.step right.step g good) ∙ e)

      into : changes ≡ true → unbound_effect (domain sch) (transition sch f) ≡ true
      into h =
          let (g, e, one) = changed_out _ _ _ _ right.pre.increasing right.post.increasing h in
          go g e one
        where
          go : (g : Fact) → Unbound g → OneOf (Mem g f.pre) (Mem g f.post) → unbound_effect (domain sch) (transition sch f) ≡ true
          go g e (inl (m, a)) = effect g (suit g m) e (alone_holds sch relations ob few f.step right.step f.pre f.post suit' g (suit g m) m a)
          go g e (inr (a, m)) = effect g (suit' g m) e (λ q. alone_holds sch relations ob few f.step right.step f.post f.pre suit g (suit' g m) m a (sym q))

      out : unbound_effect (domain sch) (transition sch f) ≡ true → changes ≡ true
      out h =
          let (x, turns, off) = rows.unbound_out (domain sch) (transition sch f) h in
          go x turns off (decide (holding f.pre x)) (decide (holding f.post x))
        where
          changed : (g : Fact) → Unbound g → OneOf (Mem g f.pre) (Mem g f.post) → changes ≡ true
          changed = changed_in _ _ _ _ right.pre.increasing right.post.increasing

          go : (x : ℕ) → (holding f.pre x ≡ holding f.post x → ⊥) → imaged sch f.step x ≡ false
              → (holding f.pre x ≡ true) ⊎ (holding f.pre x ≡ false) → (holding f.post x ≡ true) ⊎ (holding f.post x ≡ false) → changes ≡ true
          go x turns off (inl p) (inl q) = absurd (turns (p ∙ sym q))
          go x turns off (inr p) (inr q) = absurd (turns (p ∙ sym q))
          go x turns off (inl p) (inr q) =
              let (g, e, m, a) = holds_alone sch relations ob few f.step right.step f.pre f.post suit x off p q in
              changed g e (inl (m, a))
          go x turns off (inr p) (inl q) =
              let (g, e, m, a) = holds_alone sch relations ob few f.step right.step f.post f.pre suit' x off q p in
              changed g e (inr (a, m))
