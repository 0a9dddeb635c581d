-- Bounds of what records answer, for packing it: places at most the book's length.
use Prim.Native.Nat.{ℕ, zero, suc, ◌+◌, ◌*◌, ◌≤◌}
use mathlib.Core.Path.{◌≡◌}
use mathlib.Core.List.{List}
use lib.ListN.{length}
use native.Mathlib.Omega.{arith}
use borrow.Author.Tests.{ltb-false}
use Rattle.answer.specs.Answer.{Good}
use Rattle.truth.specs.Bools.{neither}
use Rattle.answer.proofs.Laws.{parted}
use Rattle.answer.specs.Walk.{walk}
use Rattle.terms.specs.declared.Fact.{Fact}
use Rattle.terms.specs.declared.Sections.{Sections}
use Rattle.terms.specs.Schema.{Schema, TypedObjects}
use Rattle.limits.specs.Limits.{head_size, step_size, max_steps, max_facts}
use Rattle.format.specs.Lists.{list_at}
use Rattle.format.specs.Form.{Form, state_after}
use Rattle.format.specs.States.{cut}
use Rattle.format.specs.Records.{record_head, object, step, steps, trajectory, body, record_at, step_refused, closed}
use Rattle.format.specs.LookOver.{step_total}
use Rattle.answer.proofs.Bounds.{Bounded, bounded_good, bounded_then, bounded_row, bounded_walk, bounded_wider}
use Rattle.format.proofs.States.{list_bounded, next_bounded}
use Rattle.format.proofs.Records.{head_in_limits, head_limits, head_end, record_within, record_steps}

object_bounded : (kinds : ℕ) (s : List ℕ) (end at : ℕ) → at ≤ end → Bounded end (object kinds s end at)
unfolding object cut
object_bounded kinds s end at h =
    bounded_row end _ _ _ _ (omega arith) h (λ e. bounded_good end _ (ltb-false _ _ (neither _ _ e).0))

module _ (form : Form) (sch : Schema) (ob : TypedObjects) (s : List ℕ) (end : ℕ) where
  step_bounded : (before : List Fact) (at : ℕ) → at ≤ end → Bounded end (step form sch ob s end before at)
  unfolding step step_refused cut
  step_bounded before at h =
      bounded_row end _ _ _ _ (omega arith) h
      (λ e.
      bounded_row end _ _ _ _ (omega arith) h
      (λ f.
      bounded_then end _ _ (next_bounded form sch ob s end before _ (ltb-false _ _ (neither _ _ e).0))
      (λ next g i. bounded_row end _ _ _ _ (omega arith) h (λ k. bounded_good end next i))))

  steps_bounded : (n : ℕ) (before : List Fact) (at : ℕ) → at ≤ end → Bounded end (steps form sch ob s end n before at)
  unfolding steps
  steps_bounded zero before at h = bounded_good end at h
  steps_bounded (suc n) before at h =
      bounded_then end _ _ (step_bounded before at h) (λ next e i. steps_bounded n (state_after form s before (at + step_size)) next i)

  trajectory_bounded : (n at : ℕ) → at ≤ end → Bounded end (trajectory form sch ob s end n at)
  unfolding trajectory
  trajectory_bounded n at h =
      bounded_then end _ _ (list_bounded _ max_facts 8 sch ob s end (omega arith) at h)
      (λ next e i. steps_bounded n (list_at s at) next i)

head_bounded : (s : List ℕ) (at : ℕ) → at ≤ length s → Bounded (length s) (record_head s at)
unfolding record_head
head_bounded s at l =
    bounded_row (length s) _ _ _ _ (omega arith) l
    (λ e. bounded_row (length s) _ _ _ _ (omega arith) l (λ f. bounded_good (length s) _ (head_in_limits s at e).3))

module _ (form : Form) (h : Sections) (s : List ℕ) where
  body_bounded : (at end : ℕ) → at + head_size ≤ end → Bounded end (body form h s at end)
  unfolding body closed
  body_bounded at end l =
      bounded_then end _ _ (bounded_walk end _ (object_bounded h.kinds s end) _ _ l)
      (λ first e i.
      bounded_then end _ _ (trajectory_bounded form _ _ s end _ first i)
      (λ last f j. bounded_row end _ _ _ _ (omega arith) (omega arith) (λ g. bounded_good end end (omega arith))))

  pub record_bounded : (at : ℕ) → at ≤ length s → Bounded (length s) (record_at form h s at)
  unfolding record_at
  record_bounded at l =
      bounded_then (length s) _ _ (head_bounded s at l)
      (λ end e i.
      let w = head_limits s at e in
      let p = head_end s at e in
      bounded_wider _ (length s) _ i (body_bounded at end (omega arith)))

  pub records_bounded : (n at : ℕ) → at ≤ length s → Bounded (length s) (walk (record_at form h s) n at)
  records_bounded n at l = bounded_walk (length s) _ record_bounded n at l

  -- good records have at most 64 steps each
  pub total_bounded : (n at last : ℕ) → walk (record_at form h s) n at ≡ Good last → step_total s n at ≤ max_steps * n
  unfolding walk step_total
  total_bounded zero at last e = omega arith
  total_bounded (suc n) at last e =
      let p = parted _ _ _ e in
      let q = (record_within form h s at p.0 p.1).0 in
      let l = record_steps form h s at p.0 p.1 in
      let r = rw q at (total_bounded n p.0 last p.2) in
      omega arith
