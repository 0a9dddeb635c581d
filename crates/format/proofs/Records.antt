-- Rows 6 to 10 and 27, row 24 among them: what a good head, object, step, trajectory and record say, and where each of them ends.
use Prim.Native.Nat.{ℕ, zero, suc, ◌+◌, ◌≤◌}
use mathlib.Core.Path.{◌≡◌, refl, ap, ◌∙◌, subst}
use mathlib.Core.Bool.{false, ◌||◌}
use mathlib.Core.List.{List}
use lib.ListN.{length}
use native.Mathlib.Omega.{arith}
use lib.Dec.{eqb, ltb}
use borrow.Author.Tests.{ltb-false, eqb-false}
use Rattle.answer.specs.Answer.{Good}
use Rattle.truth.specs.Bools.{neither}
use Rattle.answer.proofs.Laws.{passed, parted, refuse_unmet, bind_good, none_over}
use Rattle.answer.specs.Walk.{walk}
use Rattle.answer.proofs.Entries.{Entry, item_good, entries_end}
use Rattle.input.specs.Bytes.{byte_at}
use Rattle.terms.specs.declared.Sections.{Sections}
use Rattle.terms.specs.declared.Fact.{Fact}
use Rattle.terms.specs.Schema.{Schema, TypedObjects, schema, typed_objects, out_of_range}
use Rattle.terms.specs.Steps.{step_bad, repeats}
use Rattle.limits.specs.Limits.{head_size, max_objects, max_steps, max_facts, step_size}
use Rattle.format.specs.Filed.{filed_step_at, filed_fact}
use Rattle.format.specs.Form.{Form, state_after}
use Rattle.format.specs.States.{cut, state, next_state}
use Rattle.format.specs.Records.{objects_in, steps_in, length_in, head_bad, record_head, object, failed_changes, step, steps, objects_of, trajectory, body, record_at, step_refused, closed}
use Rattle.format.specs.Lists.{list_at, list_end}
use Rattle.format.specs.Decode.{first_at}
use Rattle.format.proofs.States.{list_ends, next_ends}

-- a head that row 6 does not refuse
pub head_in_limits : (s : List ℕ) (at : ℕ) → head_bad s at ≡ false
    → (objects_in s at ≤ max_objects) × (steps_in s at ≤ max_steps) × (head_size ≤ length_in s at) × (at + length_in s at ≤ length s)
unfolding head_bad cut
head_in_limits s at good =
    let p = neither _ _ good in
    let w = none_over (at + head_size) (objects_in s at) (steps_in s at) head_size (length s) max_objects max_steps (length_in s at) p.0 in
    (w.1, w.2, w.3, ltb-false _ _ p.1)

-- a head that is not refused
module _ (s : List ℕ) (at : ℕ) {end : ℕ} (good : record_head s at ≡ Good end) where
  pub head_passed : (head_bad s at ≡ false) × (eqb (steps_in s at) 0 ≡ false) × (end ≡ at + length_in s at)
  unfolding record_head
  head_passed =
      let p = passed _ 6 at end _ good in
      let q = passed _ 24 at end _ p.1 in
      let r = q.1 in
      (p.0, q.0, cc)

  -- it says where its record ends
  pub head_end : end ≡ at + length_in s at
  head_end = head_passed.2

  pub head_objects : objects_in s at ≤ max_objects
  head_objects = (head_in_limits s at head_passed.0).0

  pub head_limits : (steps_in s at ≤ max_steps) × (head_size ≤ length_in s at) × (at + length_in s at ≤ length s)
  head_limits = let w = head_in_limits s at head_passed.0 in (w.1, w.2, w.3)

  -- its record has a step
  pub head_steps : 1 ≤ steps_in s at
  head_steps = some (steps_in s at) head_passed.1
    where
      some : (n : ℕ) → eqb n 0 ≡ false → 1 ≤ n
      some zero e = absurd (eqb-false 0 0 e refl)
      some (suc n) e = omega arith

module _ (kinds : ℕ) (s : List ℕ) (end : ℕ) where
  -- an object is an entry of one byte
  pub object_entry : Entry (object kinds s end) (λ at. cut end at 1 || out_of_range kinds (byte_at s at)) 7 1
  unfolding object
  object_entry at = refl

  pub object_end : (at next : ℕ) → object kinds s end at ≡ Good next → (next ≡ at + 1) × (next ≤ end)
  unfolding cut
  object_end at next e =
      let w = item_good _ _ 7 1 object_entry at next e in
      let l : at + 1 ≤ end = ltb-false _ _ (neither _ _ w.0).0 in
      (w.1, omega arith)

  pub objects_end : (n at next : ℕ) → walk (object kinds s end) n at ≡ Good next → next ≡ at + n
  objects_end n at next e = omega (arith, entries_end _ _ 7 1 object_entry n at next e)

module _ (form : Form) (sch : Schema) (ob : TypedObjects) (s : List ℕ) (end : ℕ) where
  -- what a step asks, row by row
  step_passed : (before : List Fact) (at next : ℕ) → step form sch ob s end before at ≡ Good next
      → (step_refused sch ob s end at ≡ false) × (repeats (filed_step_at s at) ≡ false) × (next_state form sch ob s end before (at + step_size) ≡ Good next)
      × (failed_changes form s before at ≡ false)
  unfolding step
  step_passed before at next e =
      let p = passed _ 9 at next _ e in
      let q = passed _ 10 at next _ p.1 in
      let (reach, good, rest) = parted (next_state form sch ob s end before (at + step_size)) next _ q.1 in
      let (kept, same) = passed _ 27 at next _ rest in
      (p.0, q.0, good ∙ same, kept)

  -- a good step suits, has no object twice, and the state after it is good
  pub step_good : (before : List Fact) (at next : ℕ)
      → step form sch ob s end before at ≡ Good next
      → (step_bad sch ob (filed_step_at s at) ≡ false) × (repeats (filed_step_at s at) ≡ false) × (next_state form sch ob s end before (at + step_size) ≡ Good next)
  unfolding step_refused
  step_good before at next e =
      let (right, different, good, kept) = step_passed before at next e in
      ((neither (cut end at step_size) (step_bad sch ob (filed_step_at s at)) right).1, different, good)

  -- and if it did not go, the state after it is the state before it
  pub step_kept : (before : List Fact) (at next : ℕ) → step form sch ob s end before at ≡ Good next → failed_changes form s before at ≡ false
  step_kept before at next e = (step_passed before at next e).3

  pub step_reach : (before : List Fact) (at next : ℕ) → step form sch ob s end before at ≡ Good next → at + step_size ≤ end
  unfolding step_refused cut
  step_reach before at next e = ltb-false end (at + step_size) (neither (ltb end (at + step_size)) (step_bad sch ob (filed_step_at s at)) (step_passed before at next e).0).0

  -- it ends after the list behind it, within the record
  pub step_ends : (before : List Fact) (at next : ℕ) → step form sch ob s end before at ≡ Good next → (next ≡ list_end s (at + step_size)) × (list_end s (at + step_size) ≤ end)
  step_ends before at next e = next_ends form sch ob s end before (at + step_size) next (step_good before at next e).2

  -- the first of a number of good steps, and the others from the state that it leaves
  pub steps_parted : (n : ℕ) (before : List Fact) (at last : ℕ) → steps form sch ob s end (suc n) before at ≡ Good last
      → (step form sch ob s end before at ≡ Good (list_end s (at + step_size)))
      × (steps form sch ob s end n (state_after form s before (at + step_size)) (list_end s (at + step_size)) ≡ Good last)
  unfolding steps
  steps_parted n before at last e =
      let (next, good, rest) = parted (step form sch ob s end before at) last _ e in
      let place = (step_ends before at next good).0 in
      (good ∙ ap Good place, subst (λ (x : ℕ). steps form sch ob s end n (state_after form s before (at + step_size)) x ≡ Good last) place rest)

  -- good steps end within the record, and not before they begin
  pub steps_within : (n : ℕ) (before : List Fact) (at last : ℕ) → at ≤ end → steps form sch ob s end n before at ≡ Good last → (at ≤ last) × (last ≤ end)
  unfolding steps list_end
  steps_within zero before at last h e = let p : at ≡ last = cc in (omega arith, omega arith)
  steps_within (suc n) before at last h e =
      let (good, rest) = steps_parted n before at last e in
      let (place, within) = step_ends before at _ good in
      let w = steps_within n _ _ last within rest in
      (omega arith, w.1)

-- a good record: its first state ends where its steps begin, and these at `last`, after which it has no bytes
pub record RecordGood (form : Form) (h : Sections) (s : List ℕ) (at next : ℕ) : Type 0 where
  pub last : ℕ
  pub head : record_head s at ≡ Good (at + length_in s at)
  pub objects : walk (object h.kinds s (at + length_in s at)) (objects_in s at) (at + head_size) ≡ Good (first_at s at)
  pub start : state (filed_fact form) 8 (schema h s) (typed_objects (objects_of s at) s) s (at + length_in s at) (first_at s at) ≡ Good (list_end s (first_at s at))
  pub steps : steps form (schema h s) (typed_objects (objects_of s at) s) s (at + length_in s at) (steps_in s at) (list_at s (first_at s at)) (list_end s (first_at s at)) ≡ Good last
  pub full : ltb last (at + length_in s at) ≡ false
  pub end : next ≡ at + length_in s at

pub record_in_lem : (form : Form) (h : Sections) (s : List ℕ) (at next : ℕ) → RecordGood form h s at next → record_at form h s at ≡ Good next
unfolding record_at body closed trajectory
record_in_lem form h s at next g =
    rw g.end
    (bind_good _ _ _ g.head ∙ bind_good _ _ _ g.objects ∙ bind_good _ _ _ (bind_good _ _ _ g.start ∙ g.steps) ∙ refuse_unmet _ _ _ _ g.full)

module _ (form : Form) (h : Sections) (s : List ℕ) (at next : ℕ) (good : record_at form h s at ≡ Good next) where
  pub record_good : RecordGood form h s at next
  unfolding record_at body closed trajectory
  record_good =
      let end : ℕ = at + length_in s at in
      let (reach, head, rest) = parted (record_head s at) next _ good in
      let place' = head_end s at head in
      let whole : body form h s at end ≡ Good next = subst (λ (x : ℕ). body form h s at x ≡ Good next) place' rest in
      let (first, objects, behind) = parted (walk (object h.kinds s end) (objects_in s at) (at + head_size)) next _ whole in
      let (last, way, tail) = parted (trajectory form (schema h s) (typed_objects (objects_of s at) s) s end (steps_in s at) first) next _ behind in
      let place = objects_end h.kinds s end (objects_in s at) (at + head_size) first objects in
      let way' : trajectory form (schema h s) (typed_objects (objects_of s at) s) s end (steps_in s at) (first_at s at) ≡ Good last = subst (λ (x : ℕ). trajectory form (schema h s) (typed_objects (objects_of s at) s) s end (steps_in s at) x ≡ Good last) place way in
      let (after, start, behind') = parted (state (filed_fact form) 8 (schema h s) (typed_objects (objects_of s at) s) s end (first_at s at)) last _ way' in
      let ends = (list_ends _ max_facts 8 (schema h s) (typed_objects (objects_of s at) s) s end (first_at s at) after start).0 in
      let (full, same) = passed _ 6 at next _ tail in
      record {
        last = last;
        head = head ∙ ap Good place';
        objects = objects ∙ ap Good place;
        start = start ∙ ap Good ends;
        steps = subst (λ (x : ℕ). steps form (schema h s) (typed_objects (objects_of s at) s) s end (steps_in s at) (list_at s (first_at s at)) x ≡ Good last) ends behind';
        full = full;
        end = cc;
      }

  -- a good record ends where its head says, which is within the book
  pub record_within : (next ≡ at + length_in s at) × (next ≤ length s)
  record_within = (record_good.end, omega (arith, record_good.end, (head_limits s at record_good.head).2))

  pub record_steps : steps_in s at ≤ max_steps
  record_steps = (head_limits s at record_good.head).0

  -- and has a step
  pub record_stepped : 1 ≤ steps_in s at
  record_stepped = head_steps s at record_good.head
