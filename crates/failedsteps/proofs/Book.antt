-- A record of good form has what its steps are asked for; and the loop over the records of a book.
use Prim.Native.Nat.{ℕ, suc, ◌+◌, ◌-◌, ◌≤◌, ◌<◌}
use native.Mathlib.Omega.{arith}
use mathlib.Core.Path.{◌≡◌, refl, sym, ap, ◌∙◌, subst}
use mathlib.Core.List.{List, []}
use lib.ListN.{length}
use Rattle.limits.specs.Limits.{max_length, head_size}
use Rattle.answer.specs.Answer.{Answer, Good, Refused, ◌>>=◌}
use Rattle.answer.proofs.Laws.{bind_good, bind_refused}
use Rattle.answer.specs.Walk.{walk}
use Rattle.answer.proofs.Walks.{walk_parted}
use Rattle.terms.specs.declared.Head.{Head}
use Rattle.terms.specs.declared.Sections.{Sections}
use Rattle.terms.specs.Sections.{sections_of}
use Rattle.terms.specs.Schema.{schema, typed_objects}
use Rattle.terms.specs.Head.{head_of}
use Rattle.format.specs.Lists.{list_at, list_end}
use Rattle.format.specs.Form.{Form}
use Rattle.format.specs.Records.{objects_in, steps_in, length_in, objects_of, record_at}
use Rattle.format.specs.LookOver.{look_over}
use Rattle.format.specs.Decode.{first_at, recorded_steps_at, steps_of_record, steps_of_records, recorded_steps}
use Rattle.format.proofs.Records.{record_good, record_within, head_limits, head_objects}
use Rattle.format.proofs.Typing.{schema_right, objects_known}
use Rattle.format.proofs.LookOver.{LookedOver, look_over_good}
use Rattle.jobs.specs.Planning.{schema_of, steps_of_book}
use Rattle.quantify.specs.Quantify.{any}
use Rattle.observed.specs.Begun.{Begun}
use Rattle.observed.specs.Rules.{refuted_observed}
use Rattle.observed.proofs.Refuted.{refuted_append, refuted_none}
use Rattle.failedsteps.specs.Asked.{BookAsked, StepsAsked, RecordAsked}

-- ---- a record

-- by the head that is read
module _ (s : List ℕ) (at : ℕ) (head : Head) (is : head ≡ head_of s at) where
  head_first : at + head_size + head.objects ≡ first_at s at
  unfolding objects_in head_of
  head_first = ap (λ (x : Head). at + head_size + x.objects) is

  head_steps : head.steps ≡ steps_in s at
  unfolding steps_in head_of
  head_steps = ap (λ (x : Head). x.steps) is

  pub head_length : head.length ≡ length_in s at
  unfolding length_in head_of
  head_length = ap (λ (x : Head). x.length) is

module _ (form : Form) (h : Sections) (s masks : List ℕ) (at : ℕ) (book : BookAsked h s masks) (ask : RecordAsked form h s at) where
  record_steps : StepsAsked form h s (steps_in s at) (first_at s at)
  unfolding typed_objects objects_of schema
  record_steps =
      let g = record_good form h s at ask.0 ask.1 in
      record {
        ob = typed_objects (objects_of s at) s;
        few = head_objects s at g.head;
        typed = record { falling = book.falling; known = λ x low high. objects_known s h.kinds _ _ _ _ g.objects x.0 low high };
        end = at + length_in s at;
        within = (head_limits s at g.head).2;
        start = g.start;
        last = g.last;
        good = g.steps;
      }

  -- its head lies within the book
  pub record_reach : at + head_size ≤ length s
  record_reach = omega (arith, head_limits s at (record_good form h s at ask.0 ask.1).head)

  module _ (head : Head) (is : head ≡ head_of s at) where
    pub steps_asked : StepsAsked form h s head.steps (at + head_size + head.objects)
    steps_asked = rw (head_first s at head is, head_steps s at head is) record_steps

    pub steps_answered : (a : Answer) → a ≡ refuted_observed masks (recorded_steps_at form s head.steps (list_at s (at + head_size + head.objects)) (list_end s (at + head_size + head.objects)))
        → a ≡ refuted_observed masks (steps_of_record form s at)
    unfolding steps_of_record
    steps_answered a e = rw (head_first s at head is, head_steps s at head is) at e

-- ---- a book

module _ (form : Form) (h : Sections) (s masks : List ℕ) (is : h ≡ sections_of s) (looked : (n : ℕ) × (look_over form s ≡ Good n)) (begun : Begun (schema_of s) masks) where
  over : LookedOver form s looked.0
  over = look_over_good form s looked.0 looked.1

  pub book_asked : BookAsked h s masks
  unfolding schema_of
  book_asked =
      let g = over.sections in
      rw is
      (record { known = g.counts.relations; moves = g.counts.moves; falling = (schema_right (sections_of s) s _ g).falling; size = g.size.most; begun = begun })

  -- what row 28 answers of a number of records from an offset on
  abbrev answered : ℕ → ℕ → Answer
  answered n at = refuted_observed masks (steps_of_records form s n at)

  -- the records behind those that are done are of good form, and answer as the whole book does
  pub record Left (done at : ℕ) : Type 0 where
    pub good : walk (record_at form h s) (h.records.count - done) at ≡ Good (length s)
    pub start : at ≤ length s
    pub rest : answered (h.records.count - done) at ≡ refuted_observed masks (steps_of_book form s)

  pub left_first : Left 0 h.records.at
  unfolding steps_of_book recorded_steps
  left_first =
      let all : h.records.count - 0 ≡ h.records.count = omega arith in
      record { good = rw (all, is) over.records; start = rw is over.sections.offsets.within; rest = rw (all, is) refl }

  module _ (done at : ℕ) (i : Left done at) where
    pub left_near : at ≤ max_length
    left_near = omega (arith, i.start, book_asked.size)

    none : (left : ℕ) → left ≡ 0 → answered left at ≡ Good 0
    unfolding steps_of_records any
    none left e = rw e (refuted_none masks [] refl)

    pub left_none : h.records.count ≤ done → Good 0 ≡ refuted_observed masks (steps_of_book form s)
    left_none l = sym (none (h.records.count - done) (omega arith)) ∙ i.rest

    module _ (some : done < h.records.count) where
      -- how many are left behind the next one
      abbrev k : ℕ
      k = h.records.count - (done + 1)

      more : h.records.count - done ≡ suc k
      more = omega arith

      parted : (next : ℕ) × (record_at form h s at ≡ Good next) × (walk (record_at form h s) k next ≡ Good (length s))
      parted = walk_parted (record_at form h s) k at (length s) (rw more at i.good)

      pub left_record : RecordAsked form h s at
      left_record = (parted.0, parted.1)

      joined : (refuted_observed masks (steps_of_record form s at) >>= λ _. answered k (at + length_in s at)) ≡ refuted_observed masks (steps_of_book form s)
      unfolding steps_of_records
      joined = sym (refuted_append masks _ _) ∙ ap (λ (j : ℕ). answered j at) (sym more) ∙ i.rest

      -- what the record answered
      pub left_refused : {num p : ℕ} → Refused num p ≡ refuted_observed masks (steps_of_record form s at) → Refused num p ≡ refuted_observed masks (steps_of_book form s)
      left_refused is = sym (bind_refused _ _ _ _ (sym is)) ∙ joined

      pub left_next : Good 0 ≡ refuted_observed masks (steps_of_record form s at) → (size : ℕ) → size ≡ length_in s at → Left (done + 1) (at + size)
      left_next is size d =
          let (place, within) = record_within form h s at parted.0 parted.1 in
          rw d
          (record {
            good = subst (λ (n : ℕ). walk (record_at form h s) k n ≡ Good (length s)) place parted.2;
            start = omega (arith, place, within);
            rest = sym (bind_good _ _ _ (sym is)) ∙ joined;
          })
