-- Bytes of a book, one by one, and a recorded step written back: its bytes are those that it was read from.
use Prim.Native.Nat.{ℕ, suc, ◌+◌, ◌-◌, ◌≤◌, ◌<◌}
use native.Mathlib.Numerals.{add-one}
use native.Mathlib.Omega.{arith}
use mathlib.Core.Path.{◌≡◌}
use mathlib.Core.Logic.{◌⊎◌, inl, inr}
use mathlib.Core.Bool.{true, false, cond}
use mathlib.Core.List.{List, ◌∷◌}
use lib.ListN.{length, take, drop}
use lib.Seq.{drop-cons}
use lib.Dec.{ltb}
use borrow.Author.Tests.{ltb-false}
use Rattle.truth.specs.Bools.{decide}
use Rattle.input.specs.Bytes.{byte_at}
use Rattle.limits.specs.Limits.{step_size, failed_mark}
use Rattle.terms.specs.declared.Fact.{Fact}
use Rattle.terms.specs.Steps.{step_at, object_of}
use Rattle.format.specs.Filed.{went_at, unmarked, filed_step_at}
use Rattle.format.specs.Form.{Form}
use Rattle.format.specs.Decode.{recorded_step}
use Rattle.jobs.specs.Convert.{step_bytes, marked, filed_step_bytes, bytes_at}

pub part_cons : (s : List ℕ) (at k : ℕ) → at < length s → take (suc k) (drop at s) ≡ byte_at s at ∷ take k (drop (at + 1) s)
unfolding byte_at
part_cons s at k h = rw (drop-cons s at 0 h, add-one)

pub part_three : (s : List ℕ) (at k : ℕ) → at + 3 ≤ length s
    → take (suc (suc (suc k))) (drop at s) ≡ byte_at s at ∷ byte_at s (at + 1) ∷ byte_at s (at + 2) ∷ take k (drop (at + 3) s)
part_three s at k h =
    let e : at + 1 + 1 ≡ at + 2 = omega arith in
    let f : at + 2 + 1 ≡ at + 3 = omega arith in
    rw (part_cons s at (suc (suc k)) (omega arith), part_cons s (at + 1) (suc k) (omega arith), e, part_cons s (at + 2) k (omega arith), f)

-- A step of a record, with the mark that it has, is the step that its bytes say.
pub filed_as_read : (s : List ℕ) (at : ℕ) → cond (went_at s at) (filed_step_at s at) (marked (filed_step_at s at)) ≡ step_at s at
unfolding went_at filed_step_at unmarked marked step_at
filed_as_read s at = go (decide (ltb (byte_at s at) failed_mark))
  where
    go : (ltb (byte_at s at) failed_mark ≡ true) ⊎ (ltb (byte_at s at) failed_mark ≡ false)
        → cond (ltb (byte_at s at) failed_mark) (filed_step_at s at) (marked (filed_step_at s at)) ≡ step_at s at
    go (inl e) = rw e
    go (inr e) =
        let whole : failed_mark + (byte_at s at - failed_mark) ≡ byte_at s at = omega (arith, ltb-false (byte_at s at) failed_mark e) in
        rw (e, whole)

-- A step that was read is written as the five bytes that are there.
pub filed_step_again : (form : Form) (s : List ℕ) (before : List Fact) (at : ℕ) → at + step_size ≤ length s
    → filed_step_bytes (recorded_step form s before at) ≡ bytes_at s at step_size
unfolding filed_step_bytes recorded_step step_bytes bytes_at step_at object_of
filed_step_again form s before at h =
    let f : at + 3 + 1 ≡ at + 4 = omega arith in
    rw (filed_as_read s at, part_three s at 2 (omega arith), part_cons s (at + 3) 1 (omega arith), f, part_cons s (at + 4) 0 (omega arith))
