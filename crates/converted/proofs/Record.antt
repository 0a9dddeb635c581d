-- A record of good form, rendered in any form: where it stands it is of good form, says the same but for places, and is rendered again as it
-- would be from the first book.
use Prim.Native.Nat.{ℕ, ◌+◌, ◌-◌, ◌*◌, ◌≤◌, ◌<◌}
use mathlib.Core.Path.{◌≡◌, sym, ap, ◌∙◌}
use mathlib.Core.List.{List, ◌++◌}
use native.Mathlib.Omega.{arith}
use borrow.Author.Tests.{le-ltb}
use lib.ListN.{length, length-append}
use Rattle.truth.specs.Bools.{neither}
use Rattle.answer.specs.Answer.{Good}
use Rattle.answer.proofs.Laws.{refuse_unmet}
use Rattle.answer.specs.Walk.{walk}
use Rattle.answer.proofs.Entries.{entries_right, entries_all}
use Rattle.input.specs.Bytes.{byte_at}
use Rattle.output.specs.Written.{two_bytes}
use Rattle.limits.specs.Limits.{head_size, max_facts, max_objects, max_steps}
use Rattle.terms.specs.declared.Sections.{Sections}
use Rattle.terms.specs.Schema.{schema, typed_objects, out_of_range}
use Rattle.terms.specs.Typing.{Falling}
use Rattle.terms.specs.Agree.{SameSchema}
use Rattle.terms.proofs.Agree.{SameObjects, fact_over}
use Rattle.format.specs.Filed.{filed_fact}
use Rattle.format.specs.Lists.{list_at, list_end}
use Rattle.format.specs.Form.{Form}
use Rattle.format.specs.States.{cut, state}
use Rattle.format.specs.Records.{objects_in, steps_in, length_in, head_bad, record_head, object, steps, objects_of, record_at}
use Rattle.format.specs.Decode.{first_at, recorded_steps_at, steps_of_record, placed_by}
use Rattle.format.proofs.States.{list_ends}
use Rattle.format.proofs.Records.{RecordGood, head_passed, head_objects, head_limits, object_entry, record_good, record_in_lem}
use Rattle.format.proofs.Typing.{objects_known}
use Rattle.jobs.specs.Convert.{bytes_at, list_bytes, steps_bytes}
use Rattle.factsets.specs.Right.{RightState}
use Rattle.factsets.proofs.States.{state_right}
use Rattle.converted.proofs.Stands.{Stands, stands_at, stands_first, stands_rest, stands_left, stands_right, length_part, part_read, part_same}
use Rattle.converted.proofs.Rendered.{two_read, list_read, list_end_read}
use Rattle.converted.proofs.Lists.{list_in}
use Rattle.converted.proofs.Steps.{bytes_same, steps_rendered}
use Rattle.converted.proofs.Rendering.{body_in, record_in, length_record_in}
use Rattle.output.proofs.Two.{length_two}

-- a list does not end before it begins
pub low_end : (s : List ℕ) (at : ℕ) → at ≤ list_end s at
unfolding list_end
low_end s at = omega arith

-- the head and the body of a record that stands in a book
module _ (form to : Form) (s t : List ℕ) (at at' : ℕ) (small : length t < 65536) (h : Stands (record_in form to s at) t at') where
  -- The head says the same but for the length, which is the new one,
  pub head_read : (objects_in t at' ≡ objects_in s at) × (steps_in t at' ≡ steps_in s at) × (length_in t at' ≡ length (record_in form to s at))
  unfolding record_in objects_in steps_in length_in
  head_read =
      let w = h.within in
      let n = length_record_in form to s at in
      let h₁ = stands_rest _ _ t at' h in
      let h₂ = stands_rest _ _ t (at' + 1) h₁ in
      let e : at' + 1 + 1 ≡ at' + 2 = omega arith in
      let h₃ = stands_left (two_bytes (head_size + length (body_in form to s at))) (body_in form to s at) t (at' + 2) (rw e at h₂) in
      (stands_first _ _ t at' h, stands_first _ _ t (at' + 1) h₁, two_read _ t (at' + 2) (omega arith) h₃ ∙ sym n)

  -- and the body stands behind it.
  pub body_stands : Stands (body_in form to s at) t (at' + head_size)
  unfolding record_in
  body_stands =
      let h₁ = stands_rest _ _ t at' h in
      let h₂ = stands_rest _ _ t (at' + 1) h₁ in
      let h₃ = stands_right (two_bytes (head_size + length (body_in form to s at))) (body_in form to s at) t (at' + 1 + 1) h₂ in
      let n = length_two (head_size + length (body_in form to s at)) in
      stands_at _ t _ (at' + head_size) (omega arith) h₃

module _ (form to : Form) (h k : Sections) (s t : List ℕ) (at next at' : ℕ) (small : length t < 65536) (good : record_at form h s at ≡ Good next)
    (stands : Stands (record_in form to s at) t at') where
  was : RecordGood form h s at next
  was = record_good form h s at next good

  -- in the first book the first state stands within the record, and the record within the book
  start_within : (first_at s at ≤ list_end s (first_at s at)) × (list_end s (first_at s at) ≤ at + length_in s at) × (at + length_in s at ≤ length s)
  start_within = (low_end s (first_at s at), (list_ends _ max_facts 8 _ _ s (at + length_in s at) _ _ was.start).1, (head_limits s at was.head).2)

  start_right : RightState (schema h s) (typed_objects (objects_of s at) s) (list_at s (first_at s at))
  unfolding filed_fact
  start_right = state_right 8 _ _ s _ _ _ was.start

  -- the objects, the first state and the steps, each where it stands now
  record Parts : Type 0 where
    objects : Stands (bytes_at s (at + head_size) (objects_in s at)) t (at' + head_size)
    first : Stands (list_bytes (list_at s (first_at s at))) t (first_at t at')
    steps : Stands (steps_bytes to (steps_of_record form s at)) t (first_at t at' + length (list_bytes (list_at s (first_at s at))))
    end : at' + length (record_in form to s at) ≡ first_at t at' + length (list_bytes (list_at s (first_at s at))) + length (steps_bytes to (steps_of_record form s at))

  parts : Parts
  unfolding body_in
  parts =
      let (low, reach, within) = start_within in
      let (count, n, size) = head_read form to s t at at' small stands in
      let o : List ℕ = bytes_at s (at + head_size) (objects_in s at) in
      let l : List ℕ = list_bytes (list_at s (first_at s at)) in
      let p : List ℕ = steps_bytes to (steps_of_record form s at) in
      let body : Stands (o ++ l ++ p) t (at' + head_size) = body_stands form to s t at at' small stands in
      let front = stands_left (o ++ l) p t (at' + head_size) body in
      let part : length o ≡ objects_in s at = length_part s (at + head_size) (objects_in s at) (omega arith) in
      let two-parts : length (o ++ l) ≡ length o + length l = length-append o l in
      let all : length (o ++ l ++ p) ≡ length (o ++ l) + length p = length-append (o ++ l) p in
      let whole = length_record_in form to s at in
      record {
        objects = stands_left o l t (at' + head_size) front;
        first = stands_at l t _ _ (omega arith) (stands_right o l t (at' + head_size) front);
        steps = stands_at p t _ _ (omega arith) (stands_right (o ++ l) p t (at' + head_size) body);
        end = omega arith;
      }

  object_byte : (i : ℕ) → i < objects_in s at → byte_at t (at' + head_size + i) ≡ byte_at s (at + head_size + i)
  object_byte = let (low, reach, within) = start_within in part_read s (at + head_size) (objects_in s at) (omega arith) t (at' + head_size) parts.objects

  few : length (list_at s (first_at s at)) < 65536
  few = omega (arith, start_right.few)

  -- the first state is the same
  first_read : list_at t (first_at t at') ≡ list_at s (first_at s at)
  first_read = list_read _ t (first_at t at') few parts.first

  first_end : list_end t (first_at t at') ≡ first_at t at' + length (list_bytes (list_at s (first_at s at)))
  first_end = list_end_read _ t (first_at t at') few parts.first

  objects_typed : SameObjects h.kinds (typed_objects (objects_of s at) s) (typed_objects (objects_of t at') t)
  unfolding typed_objects objects_of
  objects_typed =
      record {
        count = sym (head_read form to s t at at' small stands).0;
        known = λ x low high. objects_known s h.kinds _ (objects_in s at) (at + head_size) _ was.objects x.0 low high;
        kind = λ x low high. sym (object_byte (x.0 - 1) (omega arith));
      }

  objects_in_lem : (end' : ℕ) → at' + head_size + objects_in s at ≤ end' → walk (object h.kinds t end') (objects_in s at) (at' + head_size) ≡ Good (at' + head_size + objects_in s at)
  unfolding cut
  objects_in_lem end' l =
      entries_all _ _ 7 1 (object_entry h.kinds t end') (objects_in s at) (at' + head_size)
      (λ i m.
      let a : at' + head_size + 1 * i ≡ at' + head_size + i = omega arith in
      let b : at + head_size + 1 * i ≡ at + head_size + i = omega arith in
      let right = (neither (cut (at + length_in s at) (at + head_size + 1 * i) 1) (out_of_range h.kinds (byte_at s (at + head_size + 1 * i))) (entries_right _ _ 7 1 (object_entry h.kinds s _) (objects_in s at) (at + head_size) _ was.objects i m)).1 in
      rw (a, object_byte i m, le-ltb end' (at' + head_size + i + 1) (omega arith)) (rw b at right))
      ∙ ap Good (omega arith)

  head_in : record_head t at' ≡ Good (at' + length_in t at')
  unfolding record_head head_bad cut
  head_in =
      let (x, y, z) = head_read form to s t at at' small stands in
      let w = stands.within in
      let n = length_record_in form to s at in
      let some = (head_passed s at was.head).1 in
      refuse_unmet _ _ _ _
      (rw (x, y, z, le-ltb (length t) (at' + head_size) (omega arith), le-ltb (length t) (at' + length (record_in form to s at)) (omega arith))
      (rw (le-ltb max_objects (objects_in s at) (head_objects s at was.head), le-ltb max_steps (steps_in s at) (head_limits s at was.head).0, le-ltb (length (record_in form to s at)) head_size (omega arith))))
      ∙ refuse_unmet _ _ _ _ (rw y some)

  module _ (kinds : h.kinds ≡ k.kinds) (same : SameSchema (schema h s) (schema k t)) (fall : Falling (schema h s)) where
    start_in : at' + length (record_in form to s at) ≤ at' + length_in t at'
        → state (filed_fact to) 8 (schema k t) (typed_objects (objects_of t at') t) t (at' + length_in t at') (first_at t at') ≡ Good (list_end t (first_at t at'))
    unfolding schema filed_fact
    start_in l =
        let e = parts.end in
        list_in 8 (schema k t) (typed_objects (objects_of t at') t) t (at' + length_in t at') max_facts (list_at s (first_at s at)) (first_at t at') parts.first
        (λ f m. fact_over (schema h s) (schema k t) same fall h.kinds (omega arith) (omega (arith, kinds)) _ _ objects_typed f (start_right.suits f m))
        start_right.increasing start_right.few (omega arith) (omega arith)
        ∙ ap Good (sym first_end)

    steps_in_lem : at' + length (record_in form to s at) ≤ at' + length_in t at'
        → (steps to (schema k t) (typed_objects (objects_of t at') t) t (at' + length_in t at') (steps_in s at) (list_at s (first_at s at)) (list_end t (first_at t at')) ≡ Good (at' + length (record_in form to s at)))
        × (placed_by (λ p. 0) (recorded_steps_at to t (steps_in s at) (list_at s (first_at s at)) (list_end t (first_at t at'))) ≡ placed_by (λ p. 0) (steps_of_record form s at))
    unfolding schema steps_of_record
    steps_in_lem l =
        let e = parts.end in
        let f = first_end in
        let (x, y) = steps_rendered form to (schema h s) (schema k t) same fall kinds _ _ objects_typed s t (at + length_in s at) (at' + length_in t at')
        (steps_in s at) (list_at s (first_at s at)) (list_end s (first_at s at)) was.last (list_end t (first_at t at')) was.steps start_right
        (stands_at _ t _ _ (sym first_end) parts.steps) (omega arith) in
        (x ∙ ap Good (omega arith), y)

    -- The record is of good form where it stands,
    pub record_rendered : record_at to k t at' ≡ Good (at' + length (record_in form to s at))
    record_rendered =
        let (x, y, z) = head_read form to s t at at' small stands in
        let e = parts.end in
        let end : at' + length (record_in form to s at) ≡ at' + length_in t at' = omega arith in
        record_in_lem to k t at' (at' + length (record_in form to s at))
        (record {
          last = at' + length (record_in form to s at);
          head = head_in;
          objects = rw (x, ← kinds) (objects_in_lem (at' + length_in t at') (omega arith));
          start = start_in (omega arith);
          steps = rw (y, first_read) (steps_in_lem (omega arith)).0;
          full = le-ltb (at' + length (record_in form to s at)) (at' + length_in t at') (omega arith);
          end = end;
        })

    -- says the same but for places,
    pub record_told : placed_by (λ p. 0) (steps_of_record to t at') ≡ placed_by (λ p. 0) (steps_of_record form s at)
    unfolding steps_of_record
    record_told =
        let (x, y, z) = head_read form to s t at at' small stands in
        rw (y, first_read) (steps_in_lem (omega arith)).1

    -- and is rendered in any form as it would be from the first book.
    pub record_again : (other : Form) → record_in to other t at' ≡ record_in form other s at
    unfolding record_in body_in
    record_again other =
        let (x, y, z) = head_read form to s t at at' small stands in
        let (low, reach, within) = start_within in
        let e = parts.end in
        let w = stands.within in
        let o : bytes_at t (at' + head_size) (objects_in t at') ≡ bytes_at s (at + head_size) (objects_in s at) =
        rw x (part_same s t (at + head_size) (at' + head_size) (objects_in s at) (omega arith) (omega arith) object_byte) in
        rw (o, first_read, bytes_same other _ _ record_told, y, x)
