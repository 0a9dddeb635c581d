-- Two books that show the same of a move give it the same block of the sheet: the same steps, or steps with their objects renumbered.
use Prim.Native.Nat.{ℕ, ◌+◌, ◌-◌, ◌≤◌}
use mathlib.Core.Path.{◌≡◌, sym, ap, ap₂, ◌∙◌, subst}
use mathlib.Core.List.{List}
use native.Mathlib.Omega.{arith}
use Rattle.terms.specs.Steps.{ground}
use Rattle.terms.specs.Typing.{RightSchema}
use Rattle.terms.specs.Agree.{SameSchema}
use Rattle.terms.proofs.Agree.{ground_same}
use Rattle.format.specs.Form.{Form}
use Rattle.format.specs.Decode.{RecordedStep}
use Rattle.quantify.specs.Quantify.{Mem}
use Rattle.model.specs.Domain.{Domain, Transition}
use Rattle.model.specs.Learned.{learned_rules}
use Rattle.model.specs.Alike.{Alike, SameOfAction}
use Rattle.model.proofs.OneAction.{alike_sym, rules_same}
use Rattle.jobs.specs.Planning.{domain, ground_action, transition, went_steps, schema_of, steps_of_book, transitions_of}
use Rattle.jobs.specs.Learn.{rules_from, rule_block, rule_sheet}
use Rattle.wellformed.proofs.Headers.{right_schema}
use Rattle.quantify.proofs.Mapped.{mem_map_out, mem_map_in}
use Rattle.demand.specs.TwoBooks.{SameStep, SameSteps, block_of, SameStepsSameBlock}
use Rattle.demand.proofs.Agree.{domain_same}
use Rattle.jobs.proofs.Sheet.{block_part, block_same}
use Rattle.factsets.specs.Holding.{holding}

module _ (F G : Form) (s t : List ℕ) (agree : SameSchema (schema_of s) (schema_of t)) (right-s : RightSchema (schema_of s)) (right-t : RightSchema (schema_of t)) where
  -- a recorded step of the one book shows what a recorded step of the other shows
  abbrev pub AlikeRecorded : RecordedStep → RecordedStep → Type 0
  AlikeRecorded f g = Alike (domain (schema_of s)) (transition (schema_of s) f) (transition (schema_of t) g)

  -- each recorded step of move a that went has one alike in the other book
  pub record AlikeSteps (a : ℕ) : Type 0 where
    pub forth : (f : RecordedStep) → Mem f (went_steps (steps_of_book F s)) → f.step.action.0 ≡ a → (g : RecordedStep) × Mem g (went_steps (steps_of_book G t)) × AlikeRecorded f g
    pub back : (g : RecordedStep) → Mem g (went_steps (steps_of_book G t)) → g.step.action.0 ≡ a → (f : RecordedStep) × Mem f (went_steps (steps_of_book F s)) × AlikeRecorded f g

  same_of_alike : (a : ℕ) → AlikeSteps a → SameOfAction (domain (schema_of s)) a (transitions_of F s) (transitions_of G t)
  unfolding transitions_of transition ground_action
  same_of_alike a h =
      record {
        forth = λ u m e.
            let (f, k, q) = mem_map_out (transition (schema_of s)) (went_steps (steps_of_book F s)) m in
            let (g, l, alike) = h.forth f k (subst (λ (v : Transition). v.step.action ≡ a) (sym q) e) in (
              transition (schema_of t) g,
              mem_map_in (transition (schema_of t)) (went_steps (steps_of_book G t)) l,
              subst (λ (v : Transition). Alike (domain (schema_of s)) v (transition (schema_of t) g)) q alike,
            );
        back = λ u m e.
            let (g, k, q) = mem_map_out (transition (schema_of t)) (went_steps (steps_of_book G t)) m in
            let (f, l, alike) = h.back g k (subst (λ (v : Transition). v.step.action ≡ a) (sym q) e) in (
              transition (schema_of s) f,
              mem_map_in (transition (schema_of s)) (went_steps (steps_of_book F s)) l,
              subst (λ (v : Transition). Alike (domain (schema_of s)) v (transition (schema_of s) f)) q
                  (alike_sym (domain (schema_of s)) (transition (schema_of s) f) (transition (schema_of t) g) alike),
            );
      }

  -- Such books give the move the same block.
  pub same_block : (a : ℕ) → AlikeSteps a → rule_block (rules_from F s) a ≡ rule_block (rules_from G t) a
  unfolding rules_from
  same_block a h =
      let alike = same_of_alike a h in
      let D : Domain = domain (schema_of s) in
      block_same (learned_rules D (transitions_of F s)) (learned_rules D (transitions_of G t)) a (rules_same D a (transitions_of F s) (transitions_of G t) alike)
      ∙ ap (λ (E : Domain). rule_block (learned_rules E (transitions_of G t)) a) (domain_same (schema_of s) (schema_of t) agree right-s right-t)

  -- ---- the same steps
  alike_of_same : (f g : RecordedStep) → SameStep f g → AlikeRecorded f g
  unfolding transition ground_action domain
  alike_of_same f g h =
      record {
        action = ap (λ x. x.action.0) h.step;
        was = λ n atom.
            ap₂ holding h.pre (ap (λ x. ground (schema_of s) x.binding n) h.step ∙ ground_same (schema_of s) (schema_of t) agree g.step.binding f.step.action.0 n atom);
        got = λ n atom.
            ap₂ holding h.post (ap (λ x. ground (schema_of s) x.binding n) h.step ∙ ground_same (schema_of s) (schema_of t) agree g.step.binding f.step.action.0 n atom);
      }

  alike_of_steps : (a : ℕ) → SameSteps F G s t a → AlikeSteps a
  alike_of_steps a h =
      record {
        forth = λ f m e. let (g, k, same) = h.forth f m e in (g, k, alike_of_same f g same);
        back = λ g m e. let (f, k, same) = h.back g m e in (f, k, alike_of_same f g same);
      }

-- the block of a move in the sheet of a book
block_of_sheet : (form : Form) (s : List ℕ) (a : ℕ) → 1 ≤ a → a ≤ (schema_of s).moves → block_of form s a ≡ rule_block (rules_from form s) a
unfolding rule_sheet
block_of_sheet form s a low high =
    let e : 1 + (a - 1) ≡ a = omega arith in
    block_part (rules_from form s) (schema_of s).moves 1 (a - 1) (omega arith) ∙ ap (rule_block (rules_from form s)) e

-- The same steps of one move, states included: the same 128 bytes.
pub same_steps_same_block : SameStepsSameBlock
same_steps_same_block F G s t m n good good' agree a low high steps =
    let high' : a ≤ (schema_of t).moves = omega (arith, agree.moves) in
    block_of_sheet F s a low high ∙ same_block F G s t agree (right_schema F s m good) (right_schema G t n good') a (alike_of_steps F G s t agree (right_schema F s m good) (right_schema G t n good') a steps) ∙ sym (block_of_sheet G t a low high')
