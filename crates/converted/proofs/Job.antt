-- The job: after rows 1 to 10 and 27 its answer is 23, 13 or the new length, by that length and the size of the lent output alone; and what the output
-- holds afterwards.
use Prim.Native.Nat.{ℕ, ◌≤◌, ◌<◌}
use mathlib.Core.Path.{◌≡◌, sym, ap, ◌∙◌}
use mathlib.Core.Bool.{not, not-not}
use mathlib.Core.List.{List}
use native.Mathlib.Decide.{dec_lt}
use native.Mathlib.Omega.{arith}
use borrow.Author.Tests.{ltb-false, lt-ltb, le-ltb}
use lib.ListN.{length, drop, length-append, length-drop}
use lib.Seq.{take_at, drop_at}
use Rattle.answer.specs.Answer.{Good, Refused, kept}
use Rattle.answer.proofs.Laws.{good_refused, bind_good, refuse_met, refuse_unmet, passed, parted}
use Rattle.limits.specs.Limits.{max_length}
use Rattle.format.specs.Form.{Form}
use Rattle.format.specs.LookOver.{look_over}
use Rattle.format.proofs.LookOver.{look_over_good}
use Rattle.jobs.specs.Convert.{converted, convert, convert_bytes}
use Rattle.converted.specs.Converted.{TooLong, NoRoom, Succeeds, BackSucceeds, ConvertedIsStored, RefusedIsUntouched}
use Rattle.converted.proofs.Converted.{length_back, is_good}

-- ---- the three answers

module _ (to : Form) (s : List ℕ) (n : ℕ) (good : look_over (not to) s ≡ Good n) (size : ℕ) where
  long_refused : max_length < length (converted to s) → convert to s size ≡ Refused 23 0
  unfolding convert
  long_refused l = bind_good _ _ _ good ∙ refuse_met _ _ _ _ (lt-ltb max_length (length (converted to s)) l)

  module _ (most : length (converted to s) ≤ max_length) where
    short_refused : size < length (converted to s) → convert to s size ≡ Refused 13 0
    unfolding convert
    short_refused l =
        bind_good _ _ _ good ∙ refuse_unmet _ _ _ _ (le-ltb max_length (length (converted to s)) most) ∙ refuse_met _ _ _ _ (lt-ltb size (length (converted to s)) l)

    fits_good : length (converted to s) ≤ size → convert to s size ≡ Good (length (converted to s))
    unfolding convert
    fits_good l =
        bind_good _ _ _ good ∙ refuse_unmet _ _ _ _ (le-ltb max_length (length (converted to s)) most) ∙ refuse_unmet _ _ _ _ (le-ltb size (length (converted to s)) l)

same_number : {k p m q : ℕ} → Refused k p ≡ Refused m q → k ≡ m
same_number e = cc

-- what a success says
module _ (to : Form) (s : List ℕ) (size m : ℕ) (e : convert to s size ≡ Good m) where
  succeeded : (m ≡ length (converted to s)) × (length (converted to s) ≤ max_length) × (length (converted to s) ≤ size)
  unfolding convert
  succeeded =
      let (n, good, rest) = parted _ _ _ e in
      let (most, rest') = passed _ _ _ _ _ rest in
      let (room, same) = passed _ _ _ _ _ rest' in
      (cc, ltb-false max_length (length (converted to s)) most, ltb-false size (length (converted to s)) room)

module _ (to : Form) (s : List ℕ) (n : ℕ) (good : look_over (not to) s ≡ Good n) (size : ℕ) where
  twenty_three : convert to s size ≡ Refused 23 0 → max_length < length (converted to s)
  twenty_three e = go (dec_lt max_length (length (converted to s))) (dec_lt size (length (converted to s)))
    where
      go : Dec (max_length < length (converted to s)) → Dec (size < length (converted to s)) → max_length < length (converted to s)
      go (yes l) d = l
      go (no l) (yes k) = absurd (omega (arith, same_number (sym (short_refused to s n good size (omega arith) k) ∙ e)))
      go (no l) (no k) = good_refused _ 23 0 (sym (fits_good to s n good size (omega arith) (omega arith)) ∙ e)

  thirteen : convert to s size ≡ Refused 13 0 → (length (converted to s) ≤ max_length) × (size < length (converted to s))
  thirteen e = go (dec_lt max_length (length (converted to s))) (dec_lt size (length (converted to s)))
    where
      go : Dec (max_length < length (converted to s)) → Dec (size < length (converted to s)) → (length (converted to s) ≤ max_length) × (size < length (converted to s))
      go (yes l) d = absurd (omega (arith, same_number (sym (long_refused to s n good size l) ∙ e)))
      go (no l) (yes k) = (omega arith, k)
      go (no l) (no k) = good_refused _ 13 0 (sym (fits_good to s n good size (omega arith) (omega arith)) ∙ e)

-- ---- the promises

-- read in the other form than the other one
other : (form : Form) (s : List ℕ) (n : ℕ) → look_over form s ≡ Good n → look_over (not (not form)) s ≡ Good n
other form s n good = rw (not-not form) good

-- 23 is the answer exactly if the new book would pass 60,000 bytes,
pub too_long : TooLong
too_long form s n good size = (twenty_three (not form) s n (other form s n good) size, long_refused (not form) s n (other form s n good) size)

-- 13 exactly if it would not and has no room,
pub no_room : NoRoom
no_room form s n good size =
    (thirteen (not form) s n (other form s n good) size, λ h. short_refused (not form) s n (other form s n good) size h.0 h.1)

-- success exactly if neither, at the new length.
pub succeeds : Succeeds
succeeds form s n good size m =
    (succeeded (not form) s size m, λ h. fits_good (not form) s n (other form s n good) size h.1 h.2 ∙ ap Good (sym h.0))

-- Converting back succeeds.
pub back_succeeds : BackSucceeds
back_succeeds form s n good most size l =
    let e = length_back form s n good most in
    let was = (look_over_good form s n good).sections.size.most in
    fits_good form (converted (not form) s) n (is_good form s n good most) size (omega arith) (omega arith) ∙ ap Good e

-- The new book is in the lent output, whose bytes beyond it stay.
pub stored : ConvertedIsStored
unfolding convert_bytes kept
stored to s out m e =
    let (place, most, room) = succeeded to s (length out) m e in
    let size : length (converted to s) ≡ m = sym place in
    record {
      book = rw (e, size) (take_at (converted to s) (drop m out) m size);
      beyond = rw (e, size) (drop_at (converted to s) (drop m out) m size);
      size = rw (e, size) (simp (length-append, length-drop) (omega arith));
    }

-- A refusal leaves the lent output as it was.
pub untouched : RefusedIsUntouched
unfolding convert_bytes kept
untouched to s out k p e = rw e
