-- What was read is rendered, in the form that it was read in, as the bytes that were there: a list, a step, the steps of a record, a record,
-- records in a row. The lengths are so for any book, the bytes themselves where every element is a byte.
use Prim.Native.Nat.{ℕ, zero, suc, ◌+◌, ◌*◌, ◌≤◌}
use mathlib.Core.Path.{◌≡◌, refl, ap, ◌∙◌}
use mathlib.Core.List.{List, ◌∷◌, ◌++◌}
use native.Mathlib.Omega.{arith}
use borrow.Author.Tests.{ltb-false}
use lib.ListN.{length, length-append}
use Rattle.answer.specs.Answer.{Good}
use Rattle.answer.specs.Walk.{walk}
use Rattle.input.specs.Bytes.{byte_at, two}
use Rattle.output.specs.Written.{two_bytes}
use Rattle.mask.specs.Bits.{Bytes}
use Rattle.limits.specs.Limits.{head_size, count_size, fact_size, step_size, max_facts}
use Rattle.terms.specs.declared.Sections.{Sections}
use Rattle.terms.specs.declared.Fact.{Fact}
use Rattle.terms.specs.Schema.{Schema, TypedObjects}
use Rattle.terms.specs.Facts.{fact_at}
use Rattle.format.specs.Filed.{filed_fact}
use Rattle.format.specs.Lists.{facts_at, list_at, list_end}
use Rattle.format.specs.Form.{Form, most_listed, state_after}
use Rattle.format.specs.Records.{objects_in, steps_in, length_in, step, steps, record_at}
use Rattle.format.specs.Decode.{first_at, recorded_step, recorded_steps_at, steps_of_record}
use Rattle.format.proofs.States.{list_ends, next_good}
use Rattle.format.proofs.Records.{head_limits, step_good, step_ends, steps_parted, steps_within, record_good, record_within}
use Rattle.jobs.specs.Convert.{facts_bytes, list_bytes, filed_step_bytes, listed, steps_bytes, bytes_at}
use Rattle.jobs.proofs.Bytes.{filed_step_again}
use Rattle.factsets.specs.Right.{RightState}
use Rattle.factsets.proofs.States.{length_facts, list_increasing, next_right, state_right}
use Rattle.converted.proofs.Stands.{Stands, stands_at, stands_none, stands_more, stands_both, length_part, part_stands}
use Rattle.converted.proofs.Rendered.{length_list_bytes, length_filed_step_bytes}
use Rattle.converted.proofs.Listed.{listed_again}
use Rattle.converted.proofs.Rendering.{body_in, record_in, records_in, length_record_in}
use Rattle.converted.proofs.Record.{low_end}
use Rattle.answer.proofs.Walks.{walk_parted}
use Rattle.output.proofs.Two.{length_two}

-- ---- a list of facts, and a step

-- a list is as long as it was
pub length_list_own : (s : List ℕ) (at : ℕ) → at + length (list_bytes (list_at s at)) ≡ list_end s at
unfolding list_at list_end
length_list_own s at =
    let n = length_facts s (two s at) (at + count_size) in
    let m = length_list_bytes (facts_at s (two s at) (at + count_size)) in
    omega arith

facts_own : (s : List ℕ) (n at : ℕ) → at + fact_size * n ≤ length s → Stands (facts_bytes (facts_at s n at)) s at
unfolding facts_bytes facts_at fact_at
facts_own s zero at l = stands_none s at (omega arith)
facts_own s (suc n) at l =
    let e : at + 1 + 1 ≡ at + 2 = omega arith in
    let f : at + 1 + 1 + 1 ≡ at + 3 = omega arith in
    let rest : Stands (facts_bytes (facts_at s n (at + 3))) s (at + 1 + 1 + 1) = rw f (facts_own s n (at + fact_size) (omega arith)) in
    stands_more _ _ s at refl (stands_more _ _ s (at + 1) refl (stands_more _ _ s (at + 1 + 1) (ap (byte_at s) e) rest))

step_own : (form : Form) (s : List ℕ) (before : List Fact) (at : ℕ) → at + step_size ≤ length s → Stands (filed_step_bytes (recorded_step form s before at)) s at
step_own form s before at l = rw (filed_step_again form s before at l) (part_stands s at step_size l s at l (λ i m. refl))

module _ (s : List ℕ) (bytes : Bytes s) where
  -- a two-byte number
  pub two_own : (at : ℕ) → at + count_size ≤ length s → Stands (two_bytes (two s at)) s at
  unfolding two_bytes two byte_at
  two_own at l =
      let a = bytes at in
      let b = bytes (at + 1) in
      stands_more _ _ s at (omega arith) (stands_more _ _ s (at + 1) (omega arith) (stands_none s (at + 1 + 1) (omega arith)))

  -- a list
  pub list_own : (at : ℕ) → list_end s at ≤ length s → Stands (list_bytes (list_at s at)) s at
  unfolding list_bytes list_at list_end
  list_own at l =
      let n = length_facts s (two s at) (at + count_size) in
      rw n
      (stands_both (two_bytes (two s at)) (facts_bytes (facts_at s (two s at) (at + count_size))) s at (two_own at (omega arith))
      (rw (length_two (two s at)) (facts_own s (two s at) (at + count_size) l)))

  -- a record's head before its body
  head_own : (at : ℕ) (v : List ℕ) → head_size + length v ≡ length_in s at → Stands v s (at + head_size)
      → Stands (objects_in s at ∷ steps_in s at ∷ (two_bytes (head_size + length v) ++ v)) s at
  unfolding objects_in steps_in length_in
  head_own at v e body =
      let w = body.within in
      let p : at + 1 + 1 ≡ at + 2 = omega arith in
      let n = length_two (two s (at + 2)) in
      stands_more _ _ s at refl
      (stands_more _ _ s (at + 1) refl
      (rw (p, e)
      (stands_both (two_bytes (two s (at + 2))) v s (at + 2) (two_own (at + 2) (omega arith)) (stands_at v s (at + head_size) _ (omega arith) body))))

-- ---- the steps of a record

module _ (form : Form) (sch : Schema) (ob : TypedObjects) (s : List ℕ) (end : ℕ) where
  list_again : (before : List Fact) (at next : ℕ) → step form sch ob s end before at ≡ Good next → RightState sch ob before
      → listed form (recorded_step form s before at) ≡ list_at s (at + step_size)
  unfolding recorded_step filed_fact
  list_again before at next e right =
      let behind = (next_good form sch ob s end before (at + step_size) next (step_good form sch ob s end before at next e).2).0 in
      listed_again form sch ob s (recorded_step form s before at) (at + step_size) right (list_increasing (most_listed form) 8 sch ob s end (at + step_size) next behind) refl

  steps_own : (n : ℕ) (before : List Fact) (at last : ℕ) → steps form sch ob s end n before at ≡ Good last → RightState sch ob before → at ≤ end
      → (at + length (steps_bytes form (recorded_steps_at form s n before at)) ≡ last)
      × (Bytes s → end ≤ length s → Stands (steps_bytes form (recorded_steps_at form s n before at)) s at)
  unfolding steps recorded_steps_at steps_bytes recorded_step
  steps_own zero before at last e right w =
      let p : at ≡ last = cc in
      (omega arith, λ bytes l. stands_none s at (omega arith))
  steps_own (suc n) before at last e right w =
      let (good, rest) = steps_parted form sch ob s end n before at last e in
      let reach = (step_ends form sch ob s end before at _ good).1 in
      let low = low_end s (at + step_size) in
      let after = next_right form sch ob s end before (at + step_size) _ right (step_good form sch ob s end before at _ good).2 in
      let (size, stand) = steps_own n (state_after form s before (at + step_size)) (list_end s (at + step_size)) last rest after reach in
      let again : listed form (recorded_step form s before at) ≡ list_at s (at + step_size) = list_again before at _ good right in
      let a : List ℕ = filed_step_bytes (recorded_step form s before at) in
      let b : List ℕ = list_bytes (list_at s (at + step_size)) in
      let c : List ℕ = steps_bytes form (recorded_steps_at form s n (state_after form s before (at + step_size)) (list_end s (at + step_size))) in
      let l₁ : length a ≡ step_size = length_filed_step_bytes form s before at in
      let l₂ : length (a ++ b) ≡ length a + length b = length-append a b in
      let l₃ : length (a ++ b ++ c) ≡ length (a ++ b) + length c = length-append (a ++ b) c in
      let l₄ : at + step_size + length b ≡ list_end s (at + step_size) = length_list_own s (at + step_size) in (
        rw again (omega arith),
        λ bytes l.
            rw again
            (stands_both (a ++ b) c s at
            (stands_both a b s at (step_own form s before at (omega arith)) (stands_at b s (at + step_size) _ (omega arith) (list_own s bytes (at + step_size) (omega arith))))
            (stands_at c s (list_end s (at + step_size)) _ (omega arith) (stand bytes l))),
      )

-- ---- records

module _ (form : Form) (h : Sections) (s : List ℕ) where
  record_own : (at next : ℕ) → record_at form h s at ≡ Good next
      → (length (record_in form form s at) ≡ length_in s at) × (Bytes s → Stands (record_in form form s at) s at)
  unfolding record_in body_in steps_of_record filed_fact
  record_own at next e =
      let g = record_good form h s at next e in
      let within = (head_limits s at g.head).2 in
      let reach = (list_ends _ max_facts 8 _ _ s (at + length_in s at) _ _ g.start).1 in
      let low = low_end s (first_at s at) in
      let full = ltb-false g.last (at + length_in s at) g.full in
      let (up, most) = steps_within form _ _ s (at + length_in s at) (steps_in s at) _ _ g.last reach g.steps in
      let (size, stand) = steps_own form _ _ s (at + length_in s at) (steps_in s at) (list_at s (first_at s at)) (list_end s (first_at s at)) g.last g.steps (state_right 8 _ _ s _ _ _ g.start) reach in
      let o : List ℕ = bytes_at s (at + head_size) (objects_in s at) in
      let l : List ℕ = list_bytes (list_at s (first_at s at)) in
      let p : List ℕ = steps_bytes form (recorded_steps_at form s (steps_in s at) (list_at s (first_at s at)) (list_end s (first_at s at))) in
      let l₁ : length o ≡ objects_in s at = length_part s (at + head_size) (objects_in s at) (omega arith) in
      let l₂ : length (o ++ l) ≡ length o + length l = length-append o l in
      let l₃ : length (o ++ l ++ p) ≡ length (o ++ l) + length p = length-append (o ++ l) p in
      let l₄ : first_at s at + length l ≡ list_end s (first_at s at) = length_list_own s (first_at s at) in
      let whole : head_size + length (o ++ l ++ p) ≡ length_in s at = omega arith in (
        length_record_in form form s at ∙ whole,
        λ bytes.
            let body : Stands (o ++ l ++ p) s (at + head_size) =
            stands_both (o ++ l) p s (at + head_size)
            (stands_both o l s (at + head_size) (part_stands s (at + head_size) (objects_in s at) (omega arith) s (at + head_size) (omega arith) (λ i m. refl))
            (stands_at l s (first_at s at) _ (omega arith) (list_own s bytes (first_at s at) (omega arith))))
            (stands_at p s (list_end s (first_at s at)) _ (omega arith) (stand bytes within)) in
            head_own s bytes at (o ++ l ++ p) whole body,
      )

  -- Records of good form, rendered in their own form, are as long as they were, and are the bytes that were there.
  pub records_own : (n at last : ℕ) → walk (record_at form h s) n at ≡ Good last → at ≤ length s
      → (at + length (records_in form form s n at) ≡ last) × (Bytes s → Stands (records_in form form s n at) s at)
  unfolding walk records_in
  records_own zero at last e w =
      let p : at ≡ last = cc in
      (omega arith, λ bytes. stands_none s at w)
  records_own (suc n) at last e w =
      let (next, good, rest) = walk_parted (record_at form h s) n at last e in
      let (place, within) = record_within form h s at next good in
      let (one, stand) = record_own at next good in
      let (row, stand') = records_own n (at + length_in s at) last (rw place at rest) (omega arith) in
      let a : List ℕ = record_in form form s at in
      let b : List ℕ = records_in form form s n (at + length_in s at) in
      let all : length (a ++ b) ≡ length a + length b = length-append a b in
      (omega arith, λ bytes. stands_both a b s at (stand bytes) (stands_at b s (at + length_in s at) _ (omega arith) (stand' bytes)))
