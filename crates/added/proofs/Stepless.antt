-- A record without steps is refused with 24: no row before 24 is met by the new book.
use Prim.Native.Nat.{ℕ, ◌+◌, ◌≤◌}
use mathlib.Core.Path.{◌≡◌, ◌∙◌}
use mathlib.Core.Bool.{false}
use mathlib.Core.List.{List}
use native.Mathlib.Nat.{zero-add}
use native.Mathlib.Omega.{arith}
use borrow.Author.Tests.{le-ltb, eq-eqb}
use lib.ListN.{length}
use Rattle.answer.specs.Answer.{Refused}
use Rattle.answer.proofs.Laws.{refuse_met, refuse_unmet, bind_good, bind_refused}
use Rattle.terms.specs.Sections.{sections_of}
use Rattle.limits.specs.Limits.{max_length, max_records}
use Rattle.format.specs.Form.{Form}
use Rattle.format.specs.Records.{steps_in, head_bad, record_head, record_at}
use Rattle.format.proofs.Records.{head_in_limits}
use Rattle.format.proofs.Reading.{Copied}
use Rattle.format.proofs.Copies.{head_kept}
use Rattle.format.proofs.LookOver.{LookedOver, look_over_good}
use Rattle.jobs.specs.Add.{added, add}
use Rattle.adding.specs.OneRecord.{look_record}
use Rattle.added.specs.Stepless.{SteplessIsRefused}
use Rattle.adding.proofs.Formed.{length_added}
use Rattle.adding.proofs.NewBook.{byte_added}
use Rattle.adding.proofs.Kept.{long, steps_added}
use Rattle.adding.proofs.OneRecord.{only_the_record}

module _ (form : Form) (s r : List ℕ) (n : ℕ) (was : LookedOver form s n) (most : length s + length r ≤ max_length) (right : head_bad r 0 ≡ false) (none : steps_in r 0 ≡ 0) where
  -- its head in the new book
  head_refused : record_head (added s r) (length s) ≡ Refused 24 (length s)
  unfolding record_head
  head_refused =
      let start = long form s r n was most in
      let c : Copied r 0 (added s r) (length s) (length r) = record { within = omega (arith, length_added s r start); bytes = λ i l. rw zero-add (byte_added s r start i) } in
      let within = (head_in_limits r 0 right).3 in
      refuse_unmet _ _ _ _ (head_kept c 0 (length s) (record { low = omega arith; level = omega arith }) (omega arith) right)
      ∙ refuse_met _ _ _ _ (eq-eqb (steps_in (added s r) (length s)) 0 (steps_added form s r n was most ∙ none))

  record_refused : record_at form (sections_of (added s r)) (added s r) (length s) ≡ Refused 24 (length s)
  unfolding record_at
  record_refused = bind_refused _ _ _ _ head_refused

pub stepless_refused : SteplessIsRefused
unfolding add look_record
stepless_refused form s r size n e few most right none =
    bind_good _ _ _ e ∙ refuse_unmet _ _ _ _ (le-ltb max_length (length s + length r) most)
    ∙ bind_refused _ _ _ _
    (only_the_record form s r n e most ∙ refuse_unmet _ _ _ _ (le-ltb max_records ((sections_of s).records.count + 1) (omega arith))
    ∙ bind_refused _ _ _ _ (record_refused form s r n (look_over_good form s n e) most right none))
