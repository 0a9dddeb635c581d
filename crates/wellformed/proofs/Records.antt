-- Records of good form, up to the whole book: every recorded step is right.
use Prim.Native.Nat.{ℕ, suc, ◌+◌, ◌≤◌}
use mathlib.Core.Path.{◌≡◌, subst}
use mathlib.Core.Logic.{◌⊎◌, inl, inr}
use mathlib.Core.List.{List}
use lib.ListN.{length}
use Rattle.answer.specs.Answer.{Good}
use Rattle.answer.specs.Walk.{walk}
use Rattle.terms.specs.declared.Sections.{Sections}
use Rattle.terms.specs.declared.Fact.{Fact}
use Rattle.terms.specs.Sections.{sections_of}
use Rattle.terms.specs.Schema.{Schema, TypedObjects, schema, typed_objects}
use Rattle.terms.specs.declared.Object.{Object}
use Rattle.terms.specs.Typing.{IsKind, Falling, RightObjects}
use Rattle.limits.specs.Limits.{max_length, step_size, max_objects}
use Rattle.format.specs.Filed.{filed_fact}
use Rattle.format.specs.Form.{Form, state_after}
use Rattle.format.specs.Records.{objects_in, steps_in, length_in, step, steps, objects_of, record_at}
use Rattle.format.specs.LookOver.{look_over}
use Rattle.format.specs.Lists.{list_at, list_end}
use Rattle.format.specs.Decode.{RecordedStep, first_at, recorded_steps_at, steps_of_record, steps_of_records, recorded_steps, recorded_step}
use Rattle.format.proofs.Records.{head_objects, head_limits, step_good, steps_parted, record_good, step_reach}
use Rattle.format.proofs.Typing.{schema_right, objects_known}
use Rattle.format.proofs.LookOver.{look_over_good}
use Rattle.quantify.specs.Quantify.{Mem, here, there}
use Rattle.quantify.proofs.Members.{mem_out}
use Rattle.jobs.specs.Planning.{schema_of, steps_of_book}
use Rattle.wellformed.specs.Right.{Right, RightSomewhere}
use Rattle.factsets.proofs.States.{state_right, next_right}
use Rattle.factsets.specs.Right.{RightState}
use Rattle.answer.proofs.Walks.{walk_parted}
use native.Mathlib.Omega.{arith}

module _ (form : Form) (sch : Schema) (ob : TypedObjects) (typed : RightObjects sch ob) (s : List ℕ) (end : ℕ) where
  -- a step of good form is right, and so is the state after it if the state before it is
  pub step_right : (before : List Fact) (at next : ℕ) → step form sch ob s end before at ≡ Good next → RightState sch ob before → Right sch ob (recorded_step form s before at)
  unfolding recorded_step
  step_right before at next e right =
      let (suits, different, rest) = step_good form sch ob s end before at next e in
      record {
        step = record { typed = typed; suits = suits; different = different };
        pre = right;
        post = next_right form sch ob s end before (at + step_size) next right rest;
      }

  -- The steps of a good trajectory are right, with the states about them.
  pub steps_right : (n : ℕ) (before : List Fact) (at last : ℕ) → RightState sch ob before → steps form sch ob s end n before at ≡ Good last
      → (f : RecordedStep) → Mem f (recorded_steps_at form s n before at) → Right sch ob f
  unfolding recorded_steps_at
  steps_right Prim.Native.Nat.zero before at last right e f x3 = elim x3 [ ]
  steps_right (suc n) before at last right e f here =
      step_right before at _ (steps_parted form sch ob s end n before at last e).0 right
  steps_right (suc n) before at last right e f (there m) =
      let (good, rest) = steps_parted form sch ob s end n before at last e in
      let behind = (step_good form sch ob s end before at _ good).2 in
      steps_right n (state_after form s before (at + step_size)) (list_end s (at + step_size)) last (next_right form sch ob s end before (at + step_size) _ right behind) rest f m

module _ (form : Form) (h : Sections) (s : List ℕ) (fall : Falling (schema h s)) where
  -- A record of good form ends where its length says, has at most 16 objects, and every step recorded in it is right over them.
  pub record_right : (at next : ℕ) → record_at form h s at ≡ Good next
      → (next ≡ at + length_in s at) × ((typed_objects (objects_of s at) s).count ≤ max_objects) × ((f : RecordedStep) → Mem f (steps_of_record form s at) → Right (schema h s) (typed_objects (objects_of s at) s) f)
  unfolding steps_of_record typed_objects objects_of schema filed_fact
  record_right at next e =
      let g = record_good form h s at next e in
      let known : (x : Object) → 1 ≤ x.0 → x.0 ≤ objects_in s at → IsKind (schema h s) ((typed_objects (objects_of s at) s).kind x) =
      λ x low high. objects_known s h.kinds _ _ _ _ g.objects x.0 low high in (
        g.end,
        head_objects s at g.head,
        steps_right form (schema h s) (typed_objects (objects_of s at) s) (record { falling = fall; known = known }) s (at + length_in s at) (steps_in s at) (list_at s (first_at s at)) (list_end s (first_at s at)) g.last
            (state_right 8 _ _ s _ _ _ g.start) g.steps,
      )

  -- A step that is recorded in good records is recorded in one of them.
  records_recorded : (n at last : ℕ) → walk (record_at form h s) n at ≡ Good last → {f : RecordedStep} → Mem f (steps_of_records form s n at)
      → (from next : ℕ) × (record_at form h s from ≡ Good next) × Mem f (steps_of_record form s from)
  unfolding steps_of_records
  records_recorded Prim.Native.Nat.zero at last e {f = f} m = elim m [ ]
  records_recorded (suc n) at last e {f} m =
      let (next, good, rest) = walk_parted (record_at form h s) n at last e in
      let place = (record_right at next good).0 in
      go next good (mem_out (steps_of_record form s at) m)
      (λ k. records_recorded n (at + length_in s at) last (subst (λ (x : ℕ). walk (record_at form h s) n x ≡ Good last) place rest) k)
    where
      go : (next : ℕ) → record_at form h s at ≡ Good next → Mem f (steps_of_record form s at) ⊎ Mem f (steps_of_records form s n (at + length_in s at))
          → (Mem f (steps_of_records form s n (at + length_in s at)) → (from next : ℕ) × (record_at form h s from ≡ Good next) × Mem f (steps_of_record form s from))
          → (from next : ℕ) × (record_at form h s from ≡ Good next) × Mem f (steps_of_record form s from)
      go next good (inl k) deeper = (at, next, good, k)
      go next good (inr k) deeper = deeper k

module _ (form : Form) (s : List ℕ) (n : ℕ) (e : look_over form s ≡ Good n) where
  falls : Falling (schema (sections_of s) s)
  falls = (schema_right (sections_of s) s _ (look_over_good form s n e).sections).falling

  -- Every step that is recorded in a book of good form is recorded in a good record,
  pub recorded_somewhere : {f : RecordedStep} → Mem f (steps_of_book form s) → (from next : ℕ) × (record_at form (sections_of s) s from ≡ Good next) × Mem f (steps_of_record form s from)
  unfolding steps_of_book recorded_steps
  recorded_somewhere m =
      let h : Sections = sections_of s in
      records_recorded form h s falls h.records.count h.records.at (length s) (look_over_good form s n e).records m

  -- and is right, over typed objects, at most 16 of them.
  pub recorded_right : (f : RecordedStep) → Mem f (steps_of_book form s) → RightSomewhere (schema_of s) f
  unfolding schema_of
  recorded_right f m =
      let (from, next, good, k) = recorded_somewhere m in
      let (place, few, right) = record_right form (sections_of s) s falls from next good in
      (typed_objects (objects_of s from) s, few, right f k)

-- A step stands within its record.
pub steps_before : (form : Form) (sch : Schema) (ob : TypedObjects) (s : List ℕ) (end n : ℕ) (before : List Fact) (at last : ℕ) → steps form sch ob s end n before at ≡ Good last
    → {f : RecordedStep} → Mem f (recorded_steps_at form s n before at) → f.place ≤ end
unfolding recorded_steps_at recorded_step
steps_before form sch ob s end Prim.Native.Nat.zero before at last e {f = f} x'' = elim x'' [ ]
steps_before form sch ob s end (suc n) before at last e here =
    let reach = step_reach form sch ob s end before at _ (steps_parted form sch ob s end n before at last e).0 in
    omega arith
steps_before form sch ob s end (suc n) before at last e (there m) =
    steps_before form sch ob s end n (state_after form s before (at + step_size)) (list_end s (at + step_size)) last (steps_parted form sch ob s end n before at last e).1 m

-- So its offset is within the greatest length of a book.
pub recorded_placed : (form : Form) (s : List ℕ) (n : ℕ) → look_over form s ≡ Good n → (f : RecordedStep) → Mem f (steps_of_book form s) → f.place ≤ max_length
unfolding steps_of_record
recorded_placed form s n e f m =
    let (from, next, good, k) = recorded_somewhere form s n e m in
    let g = record_good form (sections_of s) s from next good in
    let low = steps_before form _ _ s _ _ _ _ g.last g.steps k in
    omega (arith, low, (head_limits s from g.head).2, (look_over_good form s n e).sections.size.most)
