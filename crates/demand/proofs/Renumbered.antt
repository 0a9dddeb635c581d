-- Two books that differ by the numbers of their objects alone give the same rule sheet.
-- A bound fact is found again in the renumbered states: the fact that it becomes there is the one that it became here, renumbered.
use Prim.Native.Nat.{ℕ, ◌≤◌}
use mathlib.Core.Path.{◌≡◌, refl, sym, ap, ◌∙◌, subst}
use mathlib.Core.Bool.{Bool, true, false, cond}
use mathlib.Core.List.{List, [], ◌∷◌}
use lib.Dec.{leb}
use Rattle.truth.specs.Bools.{bool_eq}
use Rattle.terms.specs.declared.Param.{Param}
use Rattle.terms.specs.declared.Binding.{Binding}
use Rattle.terms.specs.declared.Fact.{Fact}
use Rattle.terms.specs.Schema.{Schema, TypedObjects}
use Rattle.terms.specs.Steps.{object_of, atom_relation, atom_first, atom_second, is_atom, ground}
use Rattle.terms.specs.Typing.{RightSchema}
use Rattle.terms.specs.Agree.{SameSchema}
use Rattle.terms.proofs.Atoms.{fact_path, first_range, second_range}
use Rattle.terms.proofs.Agree.{atoms_same}
use Rattle.limits.specs.Limits.{max_objects}
use Rattle.answer.specs.Answer.{Good}
use Rattle.format.specs.Form.{Form}
use Rattle.format.specs.Decode.{RecordedStep}
use Rattle.format.specs.LookOver.{look_over}
use Rattle.quantify.specs.Quantify.{Mem, here, there}
use Rattle.jobs.specs.Planning.{domain, ground_action, transition, went_steps, schema_of, steps_of_book}
use Rattle.jobs.proofs.Parted.{went_out}
use Rattle.jobs.specs.Learn.{rules_from, rule_blocks, rule_sheet}
use Rattle.wellformed.proofs.Headers.{right_schema}
use Rattle.wellformed.specs.Right.{RightSomewhere}
use Rattle.wellformed.specs.Grounding.{object_in, fact_of}
use Rattle.wellformed.proofs.Records.{recorded_right}
use Rattle.wellformed.proofs.Values.{holds_in, holds_out}
use Rattle.demand.specs.TwoBooks.{Renumbering, renumbered, RenumberedFacts, RenumberedStep, RenumberedSteps, RenumberedSameSheet}
use Rattle.demand.proofs.Agree.{fact_same}
use Rattle.jobs.proofs.Sheet.{blocks_same}
use Rattle.demand.proofs.TwoBooks.{AlikeRecorded, same_block}
use Rattle.factsets.specs.Holding.{holding}
use Rattle.factsets.specs.Right.{RightStep, RightState}

-- facts that are one when renumbered are one
renumbered_apart : (to : ℕ → ℕ) → Renumbering to → (f g : Fact) → renumbered to f ≡ renumbered to g → f ≡ g
unfolding renumbered
renumbered_apart to numbering f g e =
    fact_path f g (ap (λ (h : Fact). h.relation.0) e) (numbering.apart _ _ (ap (λ (h : Fact). h.first.0) e))
    (numbering.apart _ _ (ap (λ (h : Fact). h.second.0) e))

-- what a bound fact becomes under renumbered objects is what it becomes, renumbered
renumbered_fact : (sch : Schema) (to : ℕ → ℕ) → Renumbering to → (b c : Binding)
    → ((p : ℕ) → 1 ≤ p → p ≤ 4 → to (object_of b (record { 0 = p })).0 ≡ (object_of c (record { 0 = p })).0)
    → (n : ℕ) → renumbered to (fact_of sch b n) ≡ fact_of sch c n
unfolding renumbered fact_of object_in
renumbered_fact sch to numbering b c objects n =
    fact_path _ _ refl (place (leb 1 (sch.places (atom_relation n))) (atom_first n) (first_range n).0 (first_range n).1)
    (place (leb 2 (sch.places (atom_relation n))) (atom_second n) (second_range n).0 (second_range n).1)
  where
    place : (used : Bool) (p : Param) → 1 ≤ p.0 → p.0 ≤ 4 → to (cond used (object_of b p).0 0) ≡ cond used (object_of c p).0 0
    place true p low high = objects p.0 low high
    place false p low high = numbering.none

module _ (F G : Form) (s t : List ℕ) (agree : SameSchema (schema_of s) (schema_of t)) (right-s : RightSchema (schema_of s)) (right-t : RightSchema (schema_of t)) where
  -- a bound fact holds in a state exactly if it holds in the renumbered one, under the renumbered step
  value_same : (f g : RecordedStep) (h : RenumberedStep f g) → (ob : TypedObjects) → ob.count ≤ max_objects → RightStep (schema_of s) ob f.step
      → (k : TypedObjects) → k.count ≤ max_objects → RightStep (schema_of t) k g.step
      → (fs gs : List Fact) → RightState (schema_of s) ob fs → RightState (schema_of t) k gs → RenumberedFacts h.to fs gs
      → (n : ℕ) → is_atom (schema_of s) f.step.action.0 n ≡ true
      → holding fs (ground (schema_of s) f.step.binding n) ≡ holding gs (ground (schema_of t) g.step.binding n)
  value_same f g h ob few right k few' right' fs gs state state' facts n atom =
      let there-atom : is_atom (schema_of t) g.step.action.0 n ≡ true =
      sym (atoms_same (schema_of s) (schema_of t) agree right-s right-t g.step.action.0 n) ∙ subst (λ x. is_atom (schema_of s) x.0 n ≡ true) h.action atom
      in
      let fact : renumbered h.to (fact_of (schema_of s) f.step.binding n) ≡ fact_of (schema_of t) g.step.binding n =
      ap (renumbered h.to) (fact_same (schema_of s) (schema_of t) agree f.step.binding f.step.action.0 n atom)
      ∙ renumbered_fact (schema_of t) h.to h.numbering f.step.binding g.step.binding h.objects n
      in
      bool_eq
      _
      _
      (λ e.
      let m = holds_out (schema_of s) ob few f.step right fs state n atom e in
      holds_in (schema_of t) g.step.binding gs n (subst (λ (x : Fact). Mem x gs) fact (facts.forth _ m)))
      (λ e.
      let m = holds_out (schema_of t) k few' g.step right' gs state' n there-atom e in
      let (x, l, q) = facts.back _ m in
      let same = renumbered_apart h.to h.numbering x (fact_of (schema_of s) f.step.binding n) (q ∙ sym fact) in
      holds_in (schema_of s) f.step.binding fs n (subst (λ (y : Fact). Mem y fs) same l))

  alike_of_renumbered : (f g : RecordedStep) → RightSomewhere (schema_of s) f → RightSomewhere (schema_of t) g → RenumberedStep f g → AlikeRecorded F G s t agree right-s right-t f g
  unfolding transition ground_action domain
  alike_of_renumbered f g (ob, few, right) (k, few', right') h =
      record {
        action = ap (λ x. x.0) h.action;
        was = value_same f g h ob few right.step k few' right'.step f.pre g.pre right.pre right'.pre h.pre;
        got = value_same f g h ob few right.step k few' right'.step f.post g.post right.post right'.post h.post;
      }

-- each step has its renumbered one, and the other way round
renumbered_forth : (fs gs : List RecordedStep) → RenumberedSteps fs gs → {f : RecordedStep} → Mem f fs → (g : RecordedStep) × Mem g gs × RenumberedStep f g
renumbered_forth [] gs h {f = f} x'' = elim x'' [ ]
renumbered_forth (f ∷ fs) [] h _ = elim h [ ]
renumbered_forth (f ∷ fs) (g ∷ gs) h here = (g, here, h.0)
renumbered_forth (f ∷ fs) (g ∷ gs) h (there m) = let (x, k, e) = renumbered_forth fs gs h.1 m in (x, there k, e)

renumbered_back : (fs gs : List RecordedStep) → RenumberedSteps fs gs → {g : RecordedStep} → Mem g gs → (f : RecordedStep) × Mem f fs × RenumberedStep f g
renumbered_back [] [] h {g = g} m = elim m [ ]
renumbered_back (f ∷ fs) [] h {g = g} m = elim h [ ]
renumbered_back [] (g ∷ gs) h m = absurd h
renumbered_back (f ∷ fs) (g ∷ gs) h here = (f, here, h.0)
renumbered_back (f ∷ fs) (g ∷ gs) h (there m) = let (x, k, e) = renumbered_back fs gs h.1 m in (x, there k, e)

went_right : (form : Form) (s : List ℕ) (n : ℕ) → look_over form s ≡ Good n → (x : RecordedStep) → Mem x (went_steps (steps_of_book form s)) → RightSomewhere (schema_of s) x
went_right form s n good x m = recorded_right form s n good x (went_out (steps_of_book form s) m).0

-- Objects renumbered: the same sheet.
pub renumbered_same_sheet : RenumberedSameSheet
unfolding rule_sheet
renumbered_same_sheet F G s t m n good good' agree steps =
    blocks_same (rules_from F s) (rules_from G t)
    (λ a.
    same_block F G s t agree (right_schema F s m good) (right_schema G t n good') a
    (record {
      forth = λ f k e.
          let (g, l, h) = renumbered_forth (went_steps (steps_of_book F s)) (went_steps (steps_of_book G t)) steps k in
          (g, l, alike_of_renumbered F G s t agree (right_schema F s m good) (right_schema G t n good') f g (went_right F s m good f k) (went_right G t n good' g l) h);
      back = λ g k e.
          let (f, l, h) = renumbered_back (went_steps (steps_of_book F s)) (went_steps (steps_of_book G t)) steps k in
          (f, l, alike_of_renumbered F G s t agree (right_schema F s m good) (right_schema G t n good') f g (went_right F s m good f l) (went_right G t n good' g k) h);
    }))
    (schema_of s).moves 1
    ∙ ap (λ (k : ℕ). rule_blocks (rules_from G t) k 1) agree.moves
