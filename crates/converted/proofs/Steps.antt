-- The steps of a record, read in one form and rendered in any: where they stand they are of good form, and say the same.
use Prim.Native.Nat.{ℕ, zero, suc, ◌+◌, ◌≤◌, ◌<◌}
use mathlib.Core.Path.{◌≡◌, refl, sym, ap, ◌∙◌}
use mathlib.Core.Bool.{false}
use mathlib.Core.List.{List, [], ◌∷◌, ◌++◌}
use native.Mathlib.Omega.{arith}
use borrow.Author.Tests.{le-ltb}
use lib.ListN.{length, length-append}
use Rattle.answer.specs.Answer.{Good}
use Rattle.answer.proofs.Laws.{refuse_unmet, bind_good}
use Rattle.terms.specs.declared.Fact.{Fact}
use Rattle.terms.specs.Schema.{Schema, TypedObjects}
use Rattle.terms.specs.Facts.{fact_bad}
use Rattle.terms.specs.Typing.{Falling}
use Rattle.terms.specs.Agree.{SameSchema}
use Rattle.terms.proofs.Agree.{SameObjects, fact_over, step_over}
use Rattle.limits.specs.Limits.{step_size}
use Rattle.format.specs.Lists.{list_at, list_end}
use Rattle.format.specs.Filed.{went_at, filed_step_at, filed_fact}
use Rattle.format.specs.Form.{Form, most_listed, state_after}
use Rattle.format.specs.States.{cut}
use Rattle.format.specs.Records.{failed_changes, step, steps, step_refused}
use Rattle.format.specs.Decode.{RecordedStep, recorded_step, recorded_steps_at, placed_at, placed_by}
use Rattle.format.proofs.States.{next_in_lem}
use Rattle.format.proofs.Records.{step_good, step_kept, steps_parted}
use Rattle.jobs.specs.Convert.{list_bytes, filed_step_bytes, listed, steps_bytes}
use Rattle.factsets.specs.Right.{RightState}
use Rattle.factsets.proofs.States.{next_right}
use Rattle.converted.proofs.Stands.{Stands, stands_at, stands_left, stands_right}
use Rattle.converted.proofs.Rendered.{length_filed_step_bytes, list_read, list_end_read, step_read}
use Rattle.converted.proofs.Listed.{most_told, listed_suits, listed_increasing, listed_few, listed_after}
use Rattle.converted.proofs.Lists.{list_in}

-- the bytes that recorded steps are rendered as do not depend on the places of the steps
pub bytes_unplaced : (to : Form) (fs : List RecordedStep) → steps_bytes to (placed_by (λ p. 0) fs) ≡ steps_bytes to fs
unfolding steps_bytes filed_step_bytes placed_by placed_at listed
bytes_unplaced to [] = refl
bytes_unplaced to (f ∷ fs) = rw (bytes_unplaced to fs)

pub bytes_same : (to : Form) (fs gs : List RecordedStep) → placed_by (λ p. 0) fs ≡ placed_by (λ p. 0) gs → steps_bytes to fs ≡ steps_bytes to gs
bytes_same to fs gs e = sym (bytes_unplaced to fs) ∙ ap (steps_bytes to) e ∙ bytes_unplaced to gs

module _ (form to : Form) (S T : Schema) (same : SameSchema S T) (fall : Falling S) (kinds : S.kinds ≡ T.kinds) (H K : TypedObjects) (typed : SameObjects S.kinds H K) (s t : List ℕ) (end end' : ℕ) where
  -- one step of good form, rendered
  module _ (before : List Fact) (at next at' : ℕ) (good : step form S H s end before at ≡ Good next) (right : RightState S H before)
      (h : Stands (filed_step_bytes (recorded_step form s before at) ++ list_bytes (listed to (recorded_step form s before at))) t at') where
    after_right : RightState S H (state_after form s before (at + step_size))
    after_right = next_right form S H s end before (at + step_size) next right (step_good form S H s end before at next good).2

    step_again : (filed_step_at t at' ≡ filed_step_at s at) × (went_at t at' ≡ went_at s at)
    step_again = step_read form s before at t at' (stands_left _ (list_bytes (listed to (recorded_step form s before at))) t at' h)

    list_stands : Stands (list_bytes (listed to (recorded_step form s before at))) t (at' + step_size)
    list_stands = rw (length_filed_step_bytes form s before at) at (stands_right (filed_step_bytes (recorded_step form s before at)) (list_bytes (listed to (recorded_step form s before at))) t at' h)

    few : length (listed to (recorded_step form s before at)) < 65536
    unfolding recorded_step
    few = omega (arith, most_told to, listed_few S H (recorded_step form s before at) right after_right to)

    list_told : list_at t (at' + step_size) ≡ listed to (recorded_step form s before at)
    list_told = list_read _ t (at' + step_size) few list_stands

    -- the state after it is the same,
    after_same : state_after to t before (at' + step_size) ≡ state_after form s before (at + step_size)
    unfolding recorded_step
    after_same = listed_after S H (recorded_step form s before at) right after_right to t (at' + step_size) list_told

    -- so row 27 finds what it found,
    kept_same : failed_changes to t before at' ≡ false
    unfolding failed_changes
    kept_same = rw (step_again.1, after_same) (step_kept form S H s end before at next good)

    list_ends_told : list_end t (at' + step_size) ≡ at' + step_size + length (list_bytes (listed to (recorded_step form s before at)))
    list_ends_told = list_end_read _ t (at' + step_size) few list_stands

    -- and it is good
    step_in : at' + step_size + length (list_bytes (listed to (recorded_step form s before at))) ≤ end'
        → step to T K t end' before at' ≡ Good (at' + step_size + length (list_bytes (listed to (recorded_step form s before at))))
    unfolding step step_refused cut recorded_step filed_fact
    step_in l =
        let (suits, different, behind) = step_good form S H s end before at next good in
        let g = recorded_step form s before at in
        let over : (f : Fact) → fact_bad S H f ≡ false → fact_bad T K f ≡ false = fact_over S T same fall S.kinds (omega arith) (omega (arith, kinds)) H K typed in
        let list = list_in 8 T K t end' (most_listed to) (listed to g) (at' + step_size) list_stands
        (λ f m. over f (listed_suits S H g right after_right to f m))
        (listed_increasing S H g right after_right to) (listed_few S H g right after_right to) (omega (arith, most_told to)) l in
        refuse_unmet _ _ _ _ (rw (step_again.0, le-ltb end' (at' + step_size) (omega arith), step_over S T same fall S.kinds (omega arith) (omega (arith, kinds)) H K typed (filed_step_at s at) suits))
        ∙ refuse_unmet _ _ _ _ (rw step_again.0 different)
        ∙ bind_good _ _ _ (next_in_lem to T K t end' before (at' + step_size) _ list (rw after_same after_right.few))
        ∙ refuse_unmet _ _ _ _ kept_same

  -- Steps of good form are so where they stand rendered in any form, and say the same but for places.
  pub steps_rendered : (n : ℕ) (before : List Fact) (at last at' : ℕ) → steps form S H s end n before at ≡ Good last → RightState S H before
      → Stands (steps_bytes to (recorded_steps_at form s n before at)) t at' → at' + length (steps_bytes to (recorded_steps_at form s n before at)) ≤ end'
      → (steps to T K t end' n before at' ≡ Good (at' + length (steps_bytes to (recorded_steps_at form s n before at))))
      × (placed_by (λ p. 0) (recorded_steps_at to t n before at') ≡ placed_by (λ p. 0) (recorded_steps_at form s n before at))
  unfolding steps recorded_steps_at steps_bytes placed_by placed_at recorded_step
  steps_rendered zero before at last at' e right h l = (ap Good (omega arith), refl)
  steps_rendered (suc n) before at last at' e right h l =
      let (good, rest) = steps_parted form S H s end n before at last e in
      let a : List ℕ = filed_step_bytes (recorded_step form s before at) in
      let b : List ℕ = list_bytes (listed to (recorded_step form s before at)) in
      let c : List ℕ = steps_bytes to (recorded_steps_at form s n (state_after form s before (at + step_size)) (list_end s (at + step_size))) in
      let one : length (a ++ b) ≡ step_size + length b = length-append a b ∙ ap (λ (x : ℕ). x + length b) (length_filed_step_bytes form s before at) in
      let all : length (a ++ b ++ c) ≡ length (a ++ b) + length c = length-append (a ++ b) c in
      let first : Stands (a ++ b) t at' = stands_left (a ++ b) c t at' h in
      let place : at' + length (a ++ b) ≡ at' + step_size + length b = omega arith in
      let others : Stands c t (at' + step_size + length b) = stands_at c t _ _ place (stands_right (a ++ b) c t at' h) in
      let after = after_same before at _ at' good right first in
      let (deeper, told) = steps_rendered n (state_after form s before (at + step_size)) (list_end s (at + step_size)) last (at' + step_size + length b) rest (after_right before at _ at' good right first) others (omega arith) in (
        bind_good _ _ _ (step_in before at _ at' good right first (omega arith)) ∙ rw after (deeper ∙ ap Good (omega arith)),
        rw ((step_again before at _ at' good right first).0, (step_again before at _ at' good right first).1, after, list_ends_told before at _ at' good right first, told),
      )
