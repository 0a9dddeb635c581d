-- For a book of good form, what is observed after its steps is right.
use Prim.Native.Nat.{ℕ, suc, ◌+◌, ◌≤◌}
use native.Mathlib.Omega.{arith}
use mathlib.Core.Path.{◌≡◌}
use mathlib.Core.List.{List}
use Rattle.answer.specs.Answer.{Good}
use Rattle.limits.specs.Limits.{step_size}
use Rattle.terms.specs.declared.Fact.{Fact}
use Rattle.format.specs.Form.{Form, state_after}
use Rattle.format.specs.LookOver.{look_over}
use Rattle.format.specs.Lists.{list_end}
use Rattle.format.specs.Decode.{RecordedStep, first_at, recorded_steps_at, steps_of_record, recorded_step}
use Rattle.quantify.specs.Quantify.{Mem, here, there}
use Rattle.jobs.specs.Planning.{schema_of, steps_of_book}
use Rattle.observed.specs.Observed.{observe_all, nothing_seen}
use Rattle.observed.specs.Faithful.{Faithful}
use Rattle.observed.specs.Taught.{Taught}
use Rattle.observed.proofs.Taught.{taught}
use Rattle.wellformed.proofs.Records.{recorded_somewhere, recorded_right}
use Rattle.factsets.proofs.Suits.{move_known}
use Rattle.wellformed.proofs.Headers.{relations_few, moves_few}
use Rattle.onewalk.proofs.States.{state_found}
use Rattle.onewalk.proofs.UnboundEffects.{unbound_changed_right}

-- ---- a step stands after a state, so not at 0
steps_placed : (form : Form) (s : List ℕ) (n : ℕ) (before : List Fact) (at : ℕ) {f : RecordedStep} → 1 ≤ at → Mem f (recorded_steps_at form s n before at) → 1 ≤ f.place
unfolding recorded_steps_at recorded_step list_end
steps_placed form s Prim.Native.Nat.zero before at {f = f} l x'' = elim x'' [ ]
steps_placed form s (suc n) before at l here = l
steps_placed form s (suc n) before at l (there m) = steps_placed form s n (state_after form s before (at + step_size)) (list_end s (at + step_size)) (omega arith) m

module _ (form : Form) (s : List ℕ) (n : ℕ) (good : look_over form s ≡ Good n) where
  -- Every step that is recorded in a book of good form is faithful.
  pub recorded_faithful : (f : RecordedStep) → Mem f (steps_of_book form s) → Faithful (schema_of s) f
  unfolding steps_of_record list_end
  recorded_faithful f m =
      let (ob, few, right) = recorded_right form s n good f m in
      let (from, next, whole, k) = recorded_somewhere form s n good m in
      let (counted, known) = move_known (schema_of s) ob f.step right.step in
      record {
        counted = counted;
        known = known;
        placed = steps_placed form s _ _ (list_end s (first_at s from)) (omega arith) k;
        was = state_found (schema_of s) ob few f.step right.step f.pre right.pre.suits;
        got = state_found (schema_of s) ob few f.step right.step f.post right.post.suits;
        unbound_effects = unbound_changed_right (schema_of s) (relations_few form s n good) ob few f right;
      }

  -- What is observed after the steps of a book of good form gives exactly its sheet, its row 11 and its row 12.
  pub observed_right : Taught (schema_of s) (steps_of_book form s) (observe_all (steps_of_book form s) (nothing_seen (schema_of s)))
  observed_right = taught (schema_of s) (relations_few form s n good) (moves_few form s n good) (steps_of_book form s) recorded_faithful
