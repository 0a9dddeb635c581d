-- Looking over the new book, where the old one is of good form, is row 2 and then the record alone.
use Prim.Native.Nat.{ℕ, ◌+◌, ◌≤◌, ◌<◌}
use mathlib.Core.Path.{◌≡◌, refl, sym, ap, ◌∙◌}
use mathlib.Core.List.{List}
use native.Mathlib.Omega.{arith}
use borrow.Author.Tests.{le-ltb, lt-ltb}
use lib.Dec.{ltb}
use lib.ListN.{length}
use Rattle.answer.specs.Answer.{Answer, Good, Refused, ◌>>=◌, refuse}
use Rattle.answer.proofs.Laws.{refuse_met, refuse_unmet, bind_good, bind_unit, bind_assoc, bind_cong}
use Rattle.answer.specs.Walk.{walk}
use Rattle.terms.specs.declared.Sections.{Sections}
use Rattle.terms.specs.Sections.{sections_of}
use Rattle.limits.specs.Limits.{max_length, max_records}
use Rattle.format.specs.Form.{Form}
use Rattle.format.specs.Header.{sections}
use Rattle.format.specs.Records.{steps_in}
use Rattle.format.specs.LookOver.{step_total, look_over_by, look_over, all_records}
use Rattle.jobs.specs.Add.{added}
use Rattle.format.proofs.LookOver.{LookedOver, look_over_good}
use Rattle.adding.specs.OneRecord.{look_record, OnlyTheRecord}
use Rattle.adding.proofs.Formed.{length_added}
use Rattle.adding.proofs.Kept.{long, header, steps_added, record_last, steps_last}
use Rattle.adding.proofs.Front.{sections_row}

-- the new book's rows, for an old book of good form
module _ (form : Form) (s r : List ℕ) (n : ℕ) (was : LookedOver form s n) (most : length s + length r ≤ max_length) where
  whole : look_over form (added s r) ≡ look_record form s r n
  unfolding look_over look_over_by all_records look_record
  whole =
      let first = ap (λ (h : Sections). sections h (added s r)) (header form s r n was most) ∙ sections_row form s r n was most in
      rw (first, record_last form s r n was most, (steps_last form s r n was most).0, length_added s r (long form s r n was most)) (bind_assoc _ _ _ ∙ bind_cong _ _ _ (λ x. bind_good _ _ _ refl))

-- the steps of a record are added to those before it
tail_sum : (a : Answer) (end m n : ℕ)
    → (a >>= (λ last. refuse (ltb last end) 6 last >>= λ _. Good m) >>= λ k. Good (n + k)) ≡ (a >>= λ last. refuse (ltb last end) 6 last >>= λ _. Good (n + m))
unfolding ◌>>=◌
tail_sum a end m n = bind_assoc a _ _ ∙ bind_cong a _ _ (λ last. bind_assoc (refuse (ltb last end) 6 last) _ _)

-- Of the rows of the new book only the record count's, and those of the record after the old book, can be met.
pub only_the_record : OnlyTheRecord
only_the_record form s r n e most = whole form s r n (look_over_good form s n e) most

-- the two rows as the code meets them
module _ (form : Form) (s r : List ℕ) (n : ℕ) (e : look_over form s ≡ Good n) (most : length s + length r ≤ max_length) where
  pub book_full : max_records ≤ (sections_of s).records.count → look_over form (added s r) ≡ Refused 2 0
  unfolding look_record
  book_full h = only_the_record form s r n e most ∙ refuse_met _ _ _ _ (lt-ltb max_records ((sections_of s).records.count + 1) (omega arith))

  pub record_alone : (sections_of s).records.count < max_records
      → look_over form (added s r) ≡ (all_records form (sections_of (added s r)) (added s r) 1 (length s) >>= λ m. Good (n + m))
  unfolding look_record all_records walk step_total
  record_alone h =
      let was = look_over_good form s n e in
      let l = length_added s r was.sections.size.least in
      let b = steps_added form s r n was most in
      let sum : steps_in (added s r) (length s) + 0 ≡ steps_in r 0 = omega arith in
      only_the_record form s r n e most
      ∙ refuse_unmet _ _ _ _ (le-ltb max_records ((sections_of s).records.count + 1) (omega arith))
      ∙ rw (bind_unit, l, sum) (sym (tail_sum _ _ _ _))
