-- Looking over as the code does it, rows 1 to 5 and then the records; and bounds of every answer, for packing it.
use Prim.Native.Nat.{ℕ}
use mathlib.Core.Path.{◌≡◌, sym, ap, ◌∙◌}
use mathlib.Core.List.{List}
use native.Mathlib.Nat.{add-zero}
use native.Mathlib.Omega.{arith}
use Rattle.answer.specs.Answer.{Answer, ◌>>=◌, Good}
use Rattle.std.proofs.Common.{Result, Ok, Err}
use Rattle.answer.specs.declared.Refusal.{Refusal}
use Rattle.answer.specs.Refusal.{refused_by, answer_of}
use Rattle.answer.proofs.Laws.{bind_unit, bind_good}
use Rattle.answer.specs.Walk.{walk}
use Rattle.terms.specs.declared.Sections.{Sections}
use Rattle.terms.specs.Sections.{sections_of}
use Rattle.limits.specs.Limits.{max_length}
use Rattle.format.specs.Form.{Form}
use Rattle.format.specs.Header.{sections}
use Rattle.format.specs.Records.{steps_in, record_at}
use Rattle.format.specs.LookOver.{step_total, all_records, look_over_by, look_over}
use Rattle.format.proofs.Header.{sections_good, sections_place}
use Rattle.answer.proofs.Bounds.{Bounded, bounded_of, bounded_good, bounded_then, bounded_row, bounded_wider}
use Rattle.answer.proofs.Results.{part_err, part_ok}
use Rattle.terms.specs.declared.Head.{Head}
use Rattle.terms.specs.Head.{head_of}
use Rattle.records.specs.Rows.{book_end}
use Rattle.records.proofs.Bounds.{records_bounded, total_bounded}

module _ (form : Form) (h : Sections) (s : List ℕ) (is : h ≡ sections_of s) where
  pub look_over_stays : (r : Result ℕ Refusal) → answer_of r ≡ sections h s → (e : Refusal) → r ≡ Err e → refused_by e ≡ look_over form s
  unfolding look_over look_over_by
  look_over_stays r first e p = rw (← is) (part_err _ r first _ e p)

  pub look_over_records : (n : ℕ) → sections h s ≡ Good n → all_records form h s h.records.count h.records.at ≡ look_over form s
  unfolding look_over look_over_by
  look_over_records n p = rw (← is) (sym (bind_good _ (λ _. all_records form h s h.records.count h.records.at) n p))

look_over_by_bounded : (form : Form) (h : Sections) (s : List ℕ) → Bounded max_length (look_over_by form h s)
unfolding look_over_by all_records
look_over_by_bounded form h s =
    bounded_then max_length _ _
    (bounded_of max_length (sections h s)
    (λ n e. let g = sections_good h s n e in omega (arith, g.start, g.offsets.within, g.size.most))
    (λ k p e. let w = sections_place h s k p e in (w.1, omega arith)))
    (λ n e i.
    let g = sections_good h s n e in
    let c = g.counts.records in
    bounded_then max_length _ _
    (bounded_wider _ _ _ g.size.most (records_bounded form h s h.records.count h.records.at g.offsets.within))
    (λ last f j.
    bounded_row max_length _ _ _ _ (omega arith) j
    (λ x. let t = total_bounded form h s h.records.count h.records.at last f in bounded_good max_length _ (omega arith))))

-- every answer of looking over, whatever the bytes
pub look_over_bounded : (form : Form) (s : List ℕ) → Bounded max_length (look_over form s)
unfolding look_over
look_over_bounded form s = look_over_by_bounded form (sections_of s) s

-- one record that ends the book: its own rows, then the book's tail
pub one_record : (form : Form) (h : Sections) (s : List ℕ) (at : ℕ)
    → all_records form h s 1 at ≡ (record_at form h s at >>= λ last. book_end s last (steps_in s at))
unfolding all_records walk step_total book_end
one_record form h s at = rw (bind_unit, add-zero)

-- its two answers, by what the calls in the code return
module _ (form : Form) (h : Sections) (s : List ℕ) (at : ℕ) (read : h ≡ sections_of s) (r : Result ℕ Refusal) (is : answer_of r ≡ record_at form h s at) where
  rest : ℕ → Answer
  rest last = book_end s last (steps_in s at)

  own : (record_at form h s at >>= rest) ≡ all_records form (sections_of s) s 1 at
  unfolding rest
  own = sym (one_record form h s at) ∙ ap (λ (x : Sections). all_records form x s 1 at) read

  pub last_refused : (e : Refusal) → r ≡ Err e → refused_by e ≡ all_records form (sections_of s) s 1 at
  last_refused e p = part_err _ r is rest e p ∙ own

  pub last_ended : (next : ℕ) → r ≡ Ok next → (head : Head) → head ≡ head_of s at → book_end s next head.steps ≡ all_records form (sections_of s) s 1 at
  unfolding rest head_of steps_in
  last_ended next p head f = ap (λ (x : Head). book_end s next x.steps) f ∙ sym (part_ok _ r is rest next p) ∙ own
