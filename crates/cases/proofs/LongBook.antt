-- A book at the limit of 60,000 bytes is looked over as good, and one byte more is refused. So long a book is not computed: its one record
-- is, in a book of one copy, and copies of a record that is good are good.
use Prim.Native.Nat.{ℕ, zero, suc, ◌+◌, ◌*◌, ◌≤◌, ◌<◌}
use mathlib.Core.Path.{◌≡◌, refl, sym, ap, ◌∙◌, subst}
use mathlib.Core.Bool.{false, or-true}
use mathlib.Core.List.{List, [], ◌∷◌, ◌++◌, append-nil, append_assoc}
use native.Mathlib.Nat.{mul-zero, mul-suc}
use native.Mathlib.Omega.{arith}
use borrow.Author.Tests.{le-ltb, lt-ltb}
use lib.ListN.{length, length-append}
use Rattle.limits.specs.Limits.{header_size, max_length}
use Rattle.answer.specs.Answer.{Good, Refused, ◌>>=◌, refuse, number, place}
use Rattle.answer.proofs.Laws.{bind_good}
use Rattle.answer.specs.Walk.{walk}
use Rattle.input.specs.Bytes.{byte_at, two}
use Rattle.terms.specs.declared.Sections.{Sections}
use Rattle.terms.specs.Sections.{sections_of}
use Rattle.terms.specs.Schema.{out_of_range, relation_at, move_at, schema, typed_objects, suits_within, kind_suits, object_bad}
use Rattle.terms.specs.Facts.{fact_at, fact_bad, precedes, no_fact}
use Rattle.terms.specs.Steps.{object_of, step_at, argument_bad, step_bad, same_pair, repeats}
use Rattle.terms.specs.Typing.{Falling}
use Rattle.terms.specs.Agree.{SameSchema}
use Rattle.terms.proofs.Atoms.{parent_none}
use Rattle.terms.proofs.Agree.{same_by_bytes}
use Rattle.format.specs.Header.{length_bad, counts_bad, offsets_bad, kind_bad, relation_bad, move_bad, relation, move, sections}
use Rattle.format.specs.Lists.{facts_at, list_at}
use Rattle.format.specs.Toggled.{toggle, toggled}
use Rattle.format.specs.Form.{full, most_listed, state_after}
use Rattle.format.specs.States.{cut, count_bad, fact_refused, facts, list, next_state}
use Rattle.format.specs.Filed.{went_at, unmarked, filed_step_at, filed_fact}
use Rattle.format.specs.Records.{objects_in, steps_in, length_in, head_bad, record_head, object, step_refused, failed_changes, step, steps, objects_of, trajectory, closed, body, record_at}
use Rattle.format.specs.LookOver.{step_total, look_over_by, look_over}
use Rattle.format.proofs.Header.{sections_in}
use Rattle.format.proofs.Records.{head_limits, record_good, record_within}
use Rattle.format.proofs.Reading.{Copied, part_copied, byte_copied, head_copied}
use Rattle.format.proofs.Copies.{record_copied}
use Rattle.format.proofs.LookOver.{look_over_in}
use Rattle.cases.specs.Marked.{said, long_header, long_sections, long_record, copies, long}

-- ---- row 1

length_in_lem : (s : List ℕ) → header_size ≤ length s → length s ≤ max_length → length_bad s ≡ false
unfolding length_bad
length_in_lem s low high = rw (le-ltb (length s) header_size low, le-ltb max_length (length s) high)

too_long : (s : List ℕ) → max_length < length s → look_over full s ≡ Refused 1 0
unfolding look_over look_over_by sections length_bad refuse ◌>>=◌
too_long s over = rw (lt-ltb max_length (length s) over, or-true)

-- ---- copies of a record

length_copies : (n : ℕ) (r : List ℕ) → length (copies n r) ≡ length r * n
unfolding copies
length_copies zero r = sym (mul-zero (length r))
length_copies (suc n) r = length-append r (copies n r) ∙ rw (length_copies n r, mul-suc) (omega arith)

-- a record that is good after x, and a book t whose schema says the same
module _ (h k : Sections) (x r t : List ℕ) (kinds : h.kinds ≡ k.kinds) (same : SameSchema (schema h (x ++ (r ++ []))) (schema k t)) (fall : Falling (schema h (x ++ (r ++ [])))) (good : record_at full h (x ++ (r ++ [])) (length x) ≡ Good (length x + length r)) where
  -- copies of it to the end of t are good, and each has its steps
  copies_good : (n : ℕ) (front : List ℕ) → t ≡ front ++ copies n r
      → (walk (record_at full k t) n (length front) ≡ Good (length t)) × (step_total t n (length front) ≡ steps_in (x ++ (r ++ [])) (length x) * n)
  unfolding copies walk step_total
  copies_good zero front e = (rw (e, append-nil), sym (mul-zero _))
  copies_good (suc n) front e =
      let s : List ℕ = x ++ (r ++ []) in
      let c : Copied s (length x) t (length front) (length r) =
      subst (λ (u : List ℕ). Copied s (length x) u (length front) (length r)) (sym e) (part_copied r x [] front (copies n r)) in
      let (ends, within) = record_within full h s (length x) _ good in
      let one : record_at full k t (length front) ≡ Good (length (front ++ r)) =
      record_copied c full h k kinds same fall _ good (omega arith) ∙ ap Good (omega (arith, length-append front r)) in
      let (rest, total) = copies_good n (front ++ r) (e ∙ sym (append_assoc front r (copies n r))) in
      let limits = head_limits s (length x) (record_good full h s (length x) _ good).head in
      let (objects, steps, size) = head_copied c (length x) (length front) (record { low = omega arith; level = omega arith }) (omega arith) in
      let next : length front + length_in t (length front) ≡ length (front ++ r) = omega (arith, length-append front r) in
      (bind_good _ _ _ one ∙ rest, rw (steps, next, total, mul-suc) (omega arith))

-- ---- the two books

-- a book of one copy
abbrev single : List ℕ
single = long_header 1 969 ++ (long_sections ++ (long_record ++ []))

one_good : record_at full (sections_of single) single 32 ≡ Good 969
unfolding ◌>>=◌ refuse walk byte_at two sections_of out_of_range relation_at move_at schema typed_objects suits_within kind_suits object_bad fact_at fact_bad precedes no_fact object_of step_at went_at unmarked filed_step_at filed_fact argument_bad step_bad same_pair repeats cut count_bad fact_refused facts list most_listed state_after toggle toggled facts_at list_at next_state objects_in steps_in length_in head_bad record_head object step_refused failed_changes step steps objects_of trajectory closed body record_at
one_good = refl

-- neither book has parents
falling : Falling (schema (sections_of single) single)
unfolding sections_of byte_at two schema
falling = record { few = omega arith; smaller = λ k low high. rw (parent_none (sections_of single) single k _ refl (omega arith)) low }

same_schema : SameSchema (schema (sections_of single) single) (schema (sections_of long) long)
unfolding sections_of byte_at two
same_schema =
    let c = part_copied long_sections (long_header 1 969) (long_record ++ []) (long_header 64 60000) (copies 64 long_record) in
    same_by_bytes (sections_of single) (sections_of long) single long
    (λ k low high high'. parent_none (sections_of single) single k _ refl (omega arith) ∙ sym (parent_none (sections_of long) long k _ refl (omega arith)))
    refl refl
    (λ i l. sym (c.bytes i (omega arith)))
    (λ i l. sym (byte_copied c (20 + i) (20 + i) (record { low = omega arith; level = refl }) (omega arith)))

long_length : length long ≡ max_length
long_length =
    length-append (long_header 64 60000) (long_sections ++ copies 64 long_record)
    ∙ ap (λ n. 16 + n) (length-append long_sections (copies 64 long_record) ∙ ap (λ n. 16 + n) (length_copies 64 long_record))

long_sections_lem : sections (sections_of long) long ≡ Good 32
unfolding ◌>>=◌ refuse walk byte_at two sections_of out_of_range counts_bad offsets_bad kind_bad relation_bad move_bad relation move
long_sections_lem =
    sections_in (sections_of long) long 16 20 32 (length_in_lem long (omega (arith, long_length)) (omega (arith, long_length))) refl
    (subst (λ (n : ℕ). offsets_bad (sections_of long) n ≡ false) (sym long_length) refl) refl refl refl

long_good : look_over full long ≡ Good 192
unfolding sections_of byte_at two steps_in
long_good =
    let (records, total) = copies_good (sections_of single) (sections_of long) (long_header 1 969 ++ long_sections) long_record long refl same_schema falling one_good 64 (long_header 64 60000 ++ long_sections) refl in
    look_over_in full long 32 long_sections_lem records ∙ ap Good total

-- ---- as cases

pub long_right : said (look_over full long) ≡ (0 ∷ 192 ∷ [])
unfolding number place
long_right = rw long_good

pub longer_right : said (look_over full (long ++ (0 ∷ []))) ≡ (1 ∷ 0 ∷ [])
unfolding number place
longer_right = rw (too_long (long ++ (0 ∷ [])) (omega (arith, length-append long (0 ∷ []), long_length)))
