-- What is observed of a record at its offset in a book is what is observed of the record's own bytes.
use Prim.Native.Nat.{ℕ, ◌+◌, ◌≤◌}
use mathlib.Core.Path.{◌≡◌, refl, sym, ◌∙◌, subst}
use mathlib.Core.List.{List}
use Rattle.std.proofs.Common.{Result, Ok, Err, IfOk}
use Rattle.answer.specs.Answer.{Answer, Good}
use Rattle.answer.specs.declared.Refusal.{Refusal}
use Rattle.answer.specs.Refusal.{refused_by}
use Rattle.answer.proofs.Laws.{bind_good, bind_refused}
use Rattle.terms.specs.declared.Sections.{Sections}
use Rattle.terms.specs.Schema.{Schema, TypedObjects, schema, typed_objects}
use Rattle.terms.specs.Typing.{Falling}
use Rattle.limits.specs.Limits.{max_facts, max_moves, head_size}
use Rattle.format.specs.Filed.{filed_fact}
use Rattle.format.specs.Lists.{list_at, list_end}
use Rattle.format.specs.Form.{Form}
use Rattle.format.specs.States.{state}
use Rattle.format.specs.Records.{objects_in, steps_in, length_in, object, objects_of, steps, trajectory, closed, body, record_at}
use Rattle.format.specs.Decode.{recorded_steps_at, steps_of_record}
use Rattle.format.proofs.States.{list_ends}
use Rattle.format.proofs.Typing.{objects_known}
use Rattle.answer.specs.Walk.{walk}
use Rattle.terms.specs.declared.Head.{Head}
use Rattle.records.specs.declared.Scope.{Scope}
use Rattle.terms.specs.Head.{head_of}
use Rattle.records.specs.Readable.{schema_in, scope_of, Readable}
use Rattle.records.proofs.Laws.{objects_at}
use Rattle.observed.specs.Observed.{Observed, observe_all}
use Rattle.observed.specs.Begun.{Begun}
use Rattle.observed.proofs.Records.{observed_record}
use Rattle.observerecords.specs.declared.noticed.Noticed.{Noticed}
use Rattle.observerecords.specs.declared.noticed.Walked.{Walked}
use Rattle.observerecords.specs.Observing.{IsHeld, Observable, Observes, RecordObserved}

-- a refusal says nothing of what is observed
pub refused_observes : (sch : Schema) (a : Answer) (after : Observed) (bytes : List ℕ) (e : Refusal) → refused_by e ≡ a → Observes sch a after bytes (Err e)
refused_observes sch a after bytes e p = record { says = p; observes = tt }

-- ---- a record

-- its steps behind a first state that was found good
pub trajectory_observes : (form : Form) (sch : Schema) (ob : TypedObjects) (s : List ℕ) (end n at v : ℕ) (before : Observed) (bytes : List ℕ) (w : Result Walked Refusal)
    → state (filed_fact form) 8 sch ob s end at ≡ Good v
    → Observes sch (steps form sch ob s end n (list_at s at) v) (observe_all (recorded_steps_at form s n (list_at s at) v) before) bytes w
    → Observes sch (trajectory form sch ob s end n at) (observe_all (recorded_steps_at form s n (list_at s at) (list_end s at)) before) bytes w
unfolding trajectory
trajectory_observes form sch ob s end n at v before bytes w good o =
    let place = (list_ends _ max_facts 8 sch ob s end at v good).0 in
    record {
      says = o.says ∙ sym (bind_good _ _ v good);
      observes = subst (λ (x : ℕ). IfOk w (λ y. IsHeld (observe_all (recorded_steps_at form s n (list_at s at) x) before) bytes y.noticed × Begun sch bytes)) place o.observes;
    }

module _ (form : Form) (h : Sections) (s : List ℕ) (at end : ℕ) (head : Head) (read : head ≡ head_of s at) (c : Scope) (is : c ≡ scope_of form h head at end) where
  -- what its good objects give
  pub record_observable : (ks table : List ℕ) (last : ℕ) → walk (object h.kinds s end) head.objects c.objects.at ≡ Good last
      → Falling (schema h s) → h.moves.count ≤ max_moves → Readable s c ks table → Observable s c ks table
  unfolding scope_of schema typed_objects
  record_observable ks table last good fall moves readable =
      record {
        readable = readable;
        typed = rw is (record { falling = fall; known = λ x low high. objects_known s h.kinds end head.objects (at + head_size) last (rw is at good) x.0 low high });
        moves = rw is moves;
      }

  pub begun_in : (bytes : List ℕ) → Begun (schema h s) bytes → Begun (schema_in s c) bytes
  unfolding scope_of
  begun_in bytes b = rw is b

  -- row 7, and then what its trajectory says
  pub body_err : (e : Refusal) → refused_by e ≡ walk (object h.kinds s end) head.objects c.objects.at → refused_by e ≡ body form h s at end
  unfolding body head_of objects_in steps_in length_in
  body_err e p = sym (bind_refused _ _ _ _ (sym (rw (objects_at form h s at end head read c is, read) at p)))

  pub body_ends : (v : ℕ) → Good v ≡ walk (object h.kinds s end) head.objects c.objects.at
      → (t : Answer) → t ≡ trajectory c.short (schema c.h s) (typed_objects c.objects s) s c.end c.steps v
      → closed at end t ≡ body form h s at end
  unfolding body objects_of closed head_of objects_in steps_in length_in scope_of
  body_ends v p t w =
      rw (w, is, read)
      (sym (bind_good _ (λ first. closed at end (trajectory form (schema h s) (typed_objects (objects_of s at) s) s end (steps_in s at) first)) v
      (sym (rw (objects_at form h s at end head read c is, read) at p))))

  pub body_stays : (v : ℕ) → Good v ≡ walk (object h.kinds s end) head.objects c.objects.at
      → (e : Refusal) → refused_by e ≡ trajectory c.short (schema c.h s) (typed_objects c.objects s) s c.end c.steps v
      → refused_by e ≡ body form h s at end
  unfolding closed
  body_stays v p e w = sym (bind_refused (refused_by e) _ _ _ refl) ∙ body_ends v p (refused_by e) w

  -- its steps are those behind its first state
  pub body_observes : (before : Observed) (bytes : List ℕ) (v : ℕ) (noticed : Noticed)
      → v ≡ at + head_size + head.objects
      → IsHeld (observe_all (recorded_steps_at c.short s c.steps (list_at s v) (list_end s v)) before) bytes noticed × Begun (schema c.h s) bytes
      → IsHeld (observe_all (steps_of_record form s at) before) bytes noticed × Begun (schema h s) bytes
  unfolding scope_of steps_of_record head_of objects_in steps_in length_in
  body_observes before bytes v noticed place seen = let o = rw (place, is, read) at seen in (o.0, o.1)

module _ (form : Form) (h : Sections) (s : List ℕ) (at : ℕ) where
  pub record_observes : (before : Observed) (bytes : List ℕ) (w : Result Walked Refusal)
      → Observes (schema h s) (record_at form h s at) (observe_all (steps_of_record form s at) before) bytes w
      → RecordObserved form h s at before bytes w
  record_observes before bytes (Ok x) o =
      record {
        says = o.says;
        observes = (
          subst (λ (y : Observed). IsHeld y bytes x.noticed) (sym (observed_record form h s at x.value (sym o.says) before)) o.observes.0,
          o.observes.1,
        );
      }
  record_observes before bytes (Err e) o = record { says = o.says; observes = tt }
