-- The bytes and the header of the new book, by those of the old one and of the record.
use Prim.Native.Nat.{ℕ, ◌+◌, ◌≤◌, ◌<◌}
use mathlib.Core.Path.{◌≡◌, ◌∙◌}
use mathlib.Core.Bool.{false}
use mathlib.Core.List.{List, ◌++◌}
use native.Mathlib.Omega.{arith}
use borrow.Author.Tests.{eqb-false, ne_eqb}
use lib.Dec.{eqb}
use lib.ListN.{length, drop, length-append, length-drop, get_or-append}
use lib.Seq.{get_or-append-add, get_or-drop, ext_get_or}
use Rattle.truth.specs.Bools.{neither}
use Rattle.input.specs.Bytes.{byte_at, two}
use Rattle.terms.specs.Sections.{sections_of}
use Rattle.limits.specs.Limits.{header_size}
use Rattle.jobs.specs.Add.{added}
use Rattle.format.proofs.Reading.{two_by}
use Rattle.format.proofs.Front.{header_kept}
use Rattle.adding.specs.NewHeader.{renewed, one_more}
use Rattle.output.proofs.Two.{two_elsewhere, two_there}
use Rattle.adding.proofs.Formed.{added_written, counted, length_counted, length_added}

-- only the bytes of the record count and of the end are renewed, and so none after the header
not_of_them : (i : ℕ) → (i ≡ 6 → ⊥) → (i ≡ 7 → ⊥) → (i ≡ 14 → ⊥) → (i ≡ 15 → ⊥) → renewed i ≡ false
unfolding renewed
not_of_them i a b c d = rw (ne_eqb i 6 a, ne_eqb i 7 b, ne_eqb i 14 c, ne_eqb i 15 d)

pub not_renewed : (i : ℕ) → header_size ≤ i → renewed i ≡ false
not_renewed i h = not_of_them i (λ e. omega arith) (λ e. omega arith) (λ e. omega arith) (λ e. omega arith)

module _ (s r : List ℕ) (h : header_size ≤ length s) where
  whole_length : length (s ++ r) ≡ length s + length r
  whole_length = length-append s r

  elsewhere : (i : ℕ) → renewed i ≡ false → byte_at (added s r) i ≡ byte_at (s ++ r) i
  unfolding renewed
  elsewhere i e =
      let a = neither _ _ e in
      let b = neither _ _ a.0 in
      let c = neither (eqb i 6) (eqb i 7) b.0 in
      let l = whole_length in
      let m = length_counted s r h in
      rw (← added_written s r h)
      (two_elsewhere (counted s r h) 14 (length s + length r) (omega arith) i (eqb-false i 14 b.1) (eqb-false i 15 a.1)
      ∙ two_elsewhere (s ++ r) 6 (two s 6 + 1) (omega arith) i (eqb-false i 6 c.0) (eqb-false i 7 c.1))

  pub byte_kept : (i : ℕ) → i < length s → renewed i ≡ false → byte_at (added s r) i ≡ byte_at s i
  unfolding byte_at
  byte_kept i l e = elsewhere i e ∙ get_or-append s r 0 i l

  pub byte_added : (i : ℕ) → byte_at (added s r) (length s + i) ≡ byte_at r i
  unfolding byte_at
  byte_added i = elsewhere (length s + i) (not_renewed (length s + i) (omega arith)) ∙ get_or-append-add s r i 0

  pub bytes_behind : drop (length s) (added s r) ≡ r
  unfolding byte_at
  bytes_behind =
      let l = length_added s r h in
      ext_get_or 0 (drop (length s) (added s r)) r (simp length-drop (omega arith)) (λ i k. get_or-drop (length s) (added s r) i 0 ∙ byte_added i)

  two_count : two s 6 < 65535 → two (added s r) 6 ≡ two s 6 + 1
  two_count l =
      let w = whole_length in
      let m = length_counted s r h in
      let c = counted s r h in
      let before-end : (i : ℕ) → i < 14 → byte_at (added s r) i ≡ byte_at c i =
      λ i k. rw (← added_written s r h) (two_elsewhere c 14 _ (omega arith) i (λ e. omega arith) (λ e. omega arith)) in
      two_by (added s r) c 6 (before-end 6 (omega arith)) (before-end 7 (omega arith)) ∙ two_there (s ++ r) 6 (two s 6 + 1) (omega arith) (omega arith)

  two_end : length s + length r < 65536 → two (added s r) 14 ≡ length s + length r
  two_end l = let m = length_counted s r h in rw (← added_written s r h) (two_there (counted s r h) 14 (length s + length r) (omega arith) l)

  pub header_added : two s 6 < 65535 → length s + length r < 65536 → sections_of (added s r) ≡ one_more (sections_of s) (length s + length r)
  unfolding sections_of one_more
  header_added l m =
      header_kept s (added s r)
      (λ i k. byte_kept i (omega arith) (not_of_them i (λ e. omega arith) (λ e. omega arith) (λ e. omega arith) (λ e. omega arith)))
      (λ i low k. byte_kept i (omega arith) (not_of_them i (λ e. omega arith) (λ e. omega arith) (λ e. omega arith) (λ e. omega arith)))
      ∙ rw (two_count l, two_end m)
