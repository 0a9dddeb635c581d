-- A record that was added is read back as it was filed.
use Prim.Native.Nat.{ℕ, ◌+◌, ◌≤◌}
use mathlib.Core.Path.{◌≡◌, sym, ◌∙◌}
use mathlib.Core.List.{List}
use native.Mathlib.Nat.{zero-add}
use native.Mathlib.Omega.{arith}
use borrow.Author.Tests.{ltb-false}
use lib.ListN.{length, drop, length-append, length-drop}
use lib.Seq.{take_at, drop_at}
use Rattle.answer.specs.Answer.{kept, Good}
use Rattle.answer.proofs.Laws.{passed, parted}
use Rattle.terms.specs.Sections.{sections_of}
use Rattle.limits.specs.Limits.{header_size, max_length}
use Rattle.format.specs.Form.{Form}
use Rattle.format.specs.Records.{steps_in, record_at}
use Rattle.format.specs.LookOver.{look_over}
use Rattle.format.specs.Decode.{steps_of_record, moved_by}
use Rattle.jobs.specs.Add.{added, add, add_bytes}
use Rattle.format.proofs.Records.{record_within}
use Rattle.format.proofs.Reading.{Copied}
use Rattle.format.proofs.Copies.{placed_same, recorded_copied}
use Rattle.format.proofs.LookOver.{look_over_good}
use Rattle.adding.specs.OneRecord.{look_record}
use Rattle.added.specs.ReadBack.{AddedIsReadBack, AddedIsStored, RefusedIsUntouched}
use Rattle.adding.proofs.Formed.{length_added}
use Rattle.adding.proofs.NewBook.{byte_kept, byte_added, bytes_behind}
use Rattle.adding.proofs.Kept.{header, kinds_kept, schema_kept, steps_last}
use Rattle.adding.proofs.OneRecord.{only_the_record}

-- what a success says: no row from 1 to 10 nor 27 is met by either book, and neither are 1 and 13 by the new length
record Success (form : Form) (s r : List ℕ) (size n : ℕ) : Type 0 where
  old : ℕ
  was : look_over form s ≡ Good old
  most : length s + length r ≤ max_length
  new : ℕ
  is : look_over form (added s r) ≡ Good new
  room : length s + length r ≤ size
  place : n ≡ length s + length r

succeeded : (form : Form) (s r : List ℕ) (size n : ℕ) → add form s r size ≡ Good n → Success form s r size n
unfolding add
succeeded form s r size n e =
    let p = parted _ _ _ e in
    let q = passed _ _ _ _ _ p.2 in
    let u = parted _ _ _ q.1 in
    let v = passed _ _ _ _ _ u.2 in
    let w = v.1 in
    record {
      old = p.0;
      was = p.1;
      most = ltb-false max_length (length s + length r) q.0;
      new = u.0;
      is = u.1;
      room = ltb-false size (length s + length r) v.0;
      place = cc;
    }

-- the steps of the record are those that its bytes say by themselves
as_recorded_lem : (form : Form) (s r : List ℕ) → header_size ≤ length s → record_at form (sections_of (added s r)) (added s r) (length s) ≡ Good (length s + length r)
    → steps_of_record form (added s r) (length s) ≡ moved_by (length s) (steps_of_record form r 0)
unfolding moved_by
as_recorded_lem form s r long good =
    let alone : Copied (added s r) (length s) r 0 (length r) = record { within = omega arith; bytes = λ i l. rw zero-add (sym (byte_added s r long i)) } in
    sym (placed_same (steps_of_record form (added s r) (length s)))
    ∙ recorded_copied alone (λ p. p) (λ p. length s + p) (λ i. omega arith) form (sections_of (added s r)) (length s + length r) good (omega arith)

-- the record is good to the end of the book, and its steps come after the old ones
module _ (form : Form) (s r : List ℕ) (old new : ℕ) (was : look_over form s ≡ Good old) (is : look_over form (added s r) ≡ Good new) (most : length s + length r ≤ max_length) where
  record_good : (record_at form (sections_of (added s r)) (added s r) (length s) ≡ Good (length s + length r)) × (new ≡ old + steps_in r 0)
  unfolding look_record
  record_good =
      let p = passed _ _ _ _ _ (sym (only_the_record form s r old was most) ∙ is) in
      let q = parted _ _ _ p.1 in
      let u = passed _ _ _ _ _ q.2 in
      let v = u.1 in
      let l = length_added s r (look_over_good form s old was).sections.size.least in
      let w = (record_within _ _ _ _ _ q.1).1 in
      let x : length s + length r ≤ q.0 = ltb-false _ _ u.0 in
      let y : q.0 ≡ length s + length r = omega arith in
      (rw y at q.1, cc)

-- Where adding succeeds, the new book is of good form and holds what the old one held, then the record as it was filed.
pub read_back : AddedIsReadBack
read_back form s r size n e =
    let g = succeeded form s r size n e in
    let was = look_over_good form s _ g.was in
    let long = was.sections.size.least in
    let new = record_good form s r _ _ g.was g.is g.most in
    record {
      place = g.place;
      size = length_added s r long ∙ sym g.place;
      old = g.old;
      was = g.was;
      is = rw (← new.1) g.is;
      kept = byte_kept s r long;
      header = rw g.place (header form s r _ was g.most);
      kinds = kinds_kept form s r _ was g.most;
      schema = schema_kept form s r _ was g.most;
      behind = bytes_behind s r long;
      whole = rw g.place new.0;
      steps = (steps_last form s r _ was g.most).1;
      as_recorded = as_recorded_lem form s r long new.0;
    }

-- The new book is in the lent output, whose bytes beyond it stay.
pub stored : AddedIsStored
unfolding add_bytes kept
stored form s r out n e =
    let g = succeeded form s r (length out) n e in
    let long = (look_over_good form s _ g.was).sections.size.least in
    let size : length (added s r) ≡ n = length_added s r long ∙ sym g.place in
    let room = g.room in
    let place = g.place in
    record {
      book = rw (e, ← place) (take_at (added s r) (drop n out) n size);
      beyond = rw (e, ← place) (drop_at (added s r) (drop n out) n size);
      size = rw (e, ← place) (simp (length-append, length-drop) (omega arith));
    }

-- A refusal leaves the lent output as it was.
pub untouched : RefusedIsUntouched
unfolding add_bytes kept
untouched form s r out k p e = rw e
