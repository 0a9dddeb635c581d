-- A book of good form meets the hypotheses of `model`.
use Prim.Native.Nat.{ℕ, ◌≤◌}
use mathlib.Core.Path.{◌≡◌, sym, ◌∙◌, subst}
use mathlib.Core.List.{List}
use Rattle.answer.specs.Answer.{Good}
use Rattle.format.specs.Form.{Form}
use Rattle.format.specs.LookOver.{look_over}
use Rattle.model.specs.Domain.{Transition}
use Rattle.model.specs.Formed.{Proper, Formed}
use Rattle.jobs.specs.Planning.{domain, ground_action, transition, schema_of, transitions_of}
use Rattle.jobs.proofs.Parted.{transition_out}
use Rattle.wellformed.proofs.Records.{recorded_right}
use Rattle.factsets.proofs.Suits.{move_known}
use Rattle.wellformed.proofs.Atoms.{step_proper}
use Rattle.factsets.proofs.Holding.{holding_below}

-- The transitions of a book of good form meet the hypotheses of `model`.
pub formed : (form : Form) (s : List ℕ) (n : ℕ) → look_over form s ≡ Good n → Formed (domain (schema_of s)) (transitions_of form s)
unfolding transition ground_action domain
formed form s n good =
    record {
      proper = λ t m.
          let (f, k, went, e) = transition_out form s m in
          let (ob, few, right) = recorded_right form s n good f k in
          subst (λ (u : Transition). Proper (domain (schema_of s)) u.step) e (step_proper (schema_of s) ob f.step right.step few);
      known = λ t m.
          let (f, k, went, e) = transition_out form s m in
          let (ob, few, right) = recorded_right form s n good f k in
          subst (λ (u : Transition). (1 ≤ u.step.action) × (u.step.action ≤ (schema_of s).moves)) e (move_known (schema_of s) ob f.step right.step);
      within = λ t m x h.
          let (f, k, went, e) = transition_out form s m in
          let (ob, few, right) = recorded_right form s n good f k in
          subst (λ (u : Transition). u.pre x ≡ u.post x) e
          (holding_below (schema_of s) ob few f.pre right.pre x h ∙ sym (holding_below (schema_of s) ob few f.post right.post x h));
    }
