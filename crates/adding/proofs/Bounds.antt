-- Bounds of every answer of `add`, for packing it: places up to the longest book.
use Prim.Native.Nat.{ℕ, ◌+◌}
use mathlib.Core.List.{List}
use native.Mathlib.Omega.{arith}
use borrow.Author.Tests.{ltb-false}
use lib.ListN.{length}
use Rattle.limits.specs.Limits.{max_length}
use Rattle.jobs.specs.Add.{added, add}
use Rattle.answer.proofs.Bounds.{Bounded, bounded_good, bounded_then, bounded_row}
use Rattle.lookover.proofs.Laws.{look_over_bounded}
use Rattle.format.specs.Form.{Form}

pub add_bounded : (form : Form) (s r : List ℕ) (size : ℕ) → Bounded max_length (add form s r size)
unfolding add
add_bounded form s r size =
    bounded_then max_length _ _ (look_over_bounded form s)
    (λ n e i.
    bounded_row max_length _ _ _ _ (omega arith) (omega arith)
    (λ f.
    bounded_then max_length _ _ (look_over_bounded form (added s r))
    (λ m g j.
    bounded_row max_length _ _ _ _ (omega arith) (omega arith)
    (λ k. bounded_good max_length _ (ltb-false max_length (length s + length r) f)))))
