-- A record's head and body, a record, and all records with the sum of their steps, as the code meets them. What format/proofs/Records says of a
-- good record is here for this crate's callers.
use Prim.Native.Nat.{ℕ, zero, suc, ◌+◌, ◌-◌, ◌≤◌, ◌<◌}
use mathlib.Core.Path.{◌≡◌, refl, sym, ◌∙◌}
use mathlib.Core.Bool.{Bool, true, false}
use mathlib.Core.List.{List}
use Rattle.std.proofs.Common.{Result, Ok, Err}
use lib.ListN.{length}
use native.Mathlib.Numerals.{sub-one}
use native.Mathlib.Omega.{arith}
use borrow.Author.Tests.{lt-ltb, le-ltb, eq-eqb, ne_eqb}
use Rattle.answer.specs.Answer.{Answer, Good, Refused, is_refused, value_of}
use Rattle.answer.specs.declared.Refusal.{Refusal}
use Rattle.answer.specs.Refusal.{refused_by, answer_of}
use Rattle.answer.proofs.Results.{part_err, part_ok}
use Rattle.answer.proofs.Laws.{refuse_met, refuse_unmet, bind_good, bind_refused}
use Rattle.answer.specs.Walk.{walk}
use Rattle.terms.specs.declared.Sections.{Sections}
use Rattle.terms.specs.Schema.{schema, typed_objects}
use Rattle.limits.specs.Limits.{max_length, max_objects, max_relations, head_size}
use Rattle.tables.specs.Tables.{RightByKind, RightByPlace}
use Rattle.format.specs.Form.{Form}
use Rattle.format.specs.Records.{objects_in, steps_in, length_in, head_bad, record_head, object, objects_of, trajectory, body, record_at, closed}
use Rattle.format.specs.LookOver.{step_total, all_records}
use Rattle.answer.proofs.Turns.{part_stays, part_follows}
use Rattle.terms.specs.declared.Head.{Head}
use Rattle.records.specs.declared.Scope.{Scope}
use Rattle.terms.specs.Head.{head_of}
use Rattle.records.specs.Readable.{scope_of, Readable}
use Rattle.records.specs.Rows.{book_end}

-- a record whose head is right, by the scope that is made of it
module _ (form : Form) (h : Sections) (s : List ℕ) (at end : ℕ) (head : Head) (read : head ≡ head_of s at) (c : Scope) (is : c ≡ scope_of form h head at end) where
  pub readable_by : (ks t : List ℕ) → end ≤ length s → end ≤ max_length → h.relations.count ≤ max_relations → head.objects ≤ max_objects
      → RightByKind (schema h s) (typed_objects c.objects s) ks
      → RightByPlace (schema h s) (typed_objects c.objects s) t
      → Readable s c ks t
  unfolding scope_of
  readable_by ks t within near known few kinds table =
      record { within = rw is within; near = rw is near; known = rw is known; few = rw is few; kinds = rw is (rw is at kinds); table = rw is (rw is at table) }

  pub objects_at : c.objects.at ≡ at + head_size
  unfolding scope_of
  objects_at = rw is

  pub objects_counted : c.objects.count ≡ head.objects
  unfolding scope_of
  objects_counted = rw is

  pub body_stays : (a : Answer) (b : Bool)
      → a ≡ walk (object h.kinds s end) head.objects c.objects.at
      → b ≡ is_refused a
      → b ≡ true
      → a ≡ body form h s at end
  unfolding body head_of objects_in steps_in length_in
  body_stays a b p q r = part_stays _ _ a b (rw (objects_at, read) at p) q r

  -- after good objects
  pub body_rest : (v : ℕ) (a : Answer) (b : Bool) (t : Answer)
      → a ≡ walk (object h.kinds s end) head.objects c.objects.at
      → b ≡ is_refused a
      → b ≡ false
      → v ≡ value_of a
      → t ≡ trajectory c.short (schema c.h s) (typed_objects c.objects s) s c.end c.steps v
      → closed at end t ≡ body form h s at end
  unfolding body objects_of closed head_of objects_in steps_in length_in scope_of
  body_rest v a b t p q r u w =
      rw (w, is, read)
      (part_follows _
      (λ first. closed at end (trajectory form (schema h s) (typed_objects (objects_of s at) s) s end (steps_in s at) first))
      a b v (rw (objects_at, read) at p) q r u)

-- what a record answers, by what its trajectory's call returned
module _ (at end : ℕ) (r : Result ℕ Refusal) where
  pub closed_stays : (e : Refusal) → r ≡ Err e → refused_by e ≡ closed at end (answer_of r)
  unfolding closed
  closed_stays e p = part_err _ r refl _ e p

  pub closed_left : (last : ℕ) → r ≡ Ok last → last < end → Refused 6 at ≡ closed at end (answer_of r)
  unfolding closed
  closed_left last p l = sym (part_ok _ r refl _ last p ∙ refuse_met _ _ _ _ (lt-ltb _ _ l))

  pub closed_good : (last : ℕ) → r ≡ Ok last → end ≤ last → Good end ≡ closed at end (answer_of r)
  unfolding closed
  closed_good last p l = sym (part_ok _ r refl _ last p ∙ refuse_unmet _ _ _ _ (le-ltb _ _ l))

-- a head
module _ (s : List ℕ) (at : ℕ) (b : Bool) (is : b ≡ head_bad s at) where
  pub head_refused : b ≡ true → Refused 6 at ≡ record_head s at
  unfolding record_head
  head_refused e = sym (refuse_met _ _ _ _ (sym is ∙ e))

  module _ (head : Head) (read : head ≡ head_of s at) (right : b ≡ false) where
    pub head_stepless : head.steps ≡ 0 → Refused 24 at ≡ record_head s at
    unfolding record_head head_of objects_in steps_in length_in
    head_stepless e = sym (refuse_unmet _ _ _ _ (sym is ∙ right) ∙ refuse_met _ _ _ _ (rw read at (eq-eqb _ _ e)))

    pub head_right : (head.steps ≡ 0 → ⊥) → Good (at + head.length) ≡ record_head s at
    unfolding record_head head_of objects_in steps_in length_in
    head_right e = rw read (sym (refuse_unmet _ _ _ _ (sym is ∙ right) ∙ refuse_unmet _ _ _ _ (rw read at (ne_eqb _ _ e))))

-- a record, by its head
module _ (form : Form) (h : Sections) (s : List ℕ) where
  pub record_stays : (at : ℕ) (a : Answer) (b : Bool) → a ≡ record_head s at → b ≡ is_refused a → b ≡ true → a ≡ record_at form h s at
  unfolding record_at
  record_stays at a b p q r = part_stays _ _ a b p q r

  pub record_body : (at v : ℕ) (a : Answer) (b : Bool) (r : Answer)
      → a ≡ record_head s at
      → b ≡ is_refused a
      → b ≡ false
      → v ≡ value_of a
      → r ≡ body form h s at v
      → r ≡ record_at form h s at
  unfolding record_at
  record_body at v a b r p q e u w = w ∙ part_follows _ (body form h s at) a b v p q e u

  -- the records of a book, by what a loop over them has in hand
  pub all_refused : (n from k p : ℕ) → Refused k p ≡ walk (record_at form h s) n from → Refused k p ≡ all_records form h s n from
  unfolding all_records
  all_refused n from k p e = sym (bind_refused _ _ _ _ (sym e))

  pub all_ended : (n from last total : ℕ) → Good last ≡ walk (record_at form h s) n from → total ≡ step_total s n from → book_end s last total ≡ all_records form h s n from
  unfolding all_records book_end
  all_ended n from last total e t = rw t (sym (bind_good _ _ _ (sym e)))

-- the book's tail, as the code meets it
module _ (s : List ℕ) (last total : ℕ) where
  pub end_left : last < length s → Refused 6 last ≡ book_end s last total
  unfolding book_end
  end_left l = sym (refuse_met _ _ _ _ (lt-ltb _ _ l))

  pub end_none : length s ≤ last → Good total ≡ book_end s last total
  unfolding book_end
  end_none l = sym (refuse_unmet _ _ _ _ (le-ltb _ _ l))

module _ (s : List ℕ) (whole : ℕ) where
  pub total_none : (n at total : ℕ) → total + step_total s n at ≡ whole → n ≡ 0 → total ≡ whole
  unfolding step_total
  total_none n at total i e = let j = rw e at i in omega arith

  pub total_more : (n at next total : ℕ) (head : Head)
      → total + step_total s n at ≡ whole
      → 0 < n
      → head ≡ head_of s at
      → next ≡ at + length_in s at
      → total + head.steps + step_total s (n - 1) next ≡ whole
  unfolding step_total head_of objects_in steps_in length_in
  total_more zero at next total head i h e f = absurd (omega arith)
  total_more (suc n) at next total head i h e f = rw (sub-one, e, f) (omega arith)
