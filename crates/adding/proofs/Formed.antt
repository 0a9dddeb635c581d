-- The new book as bytes written one after the other: what `form` leaves, and how long it is.
use Prim.Native.Nat.{ℕ, ◌+◌, ◌≤◌}
use mathlib.Core.Path.{◌≡◌, sym, ap, ◌∙◌}
use mathlib.Core.List.{List, ◌++◌, append_assoc}
use native.Mathlib.Omega.{arith}
use lib.ListN.{length, take, drop, length-append, length-drop}
use lib.Seq.{take-append-le, take-append-add, drop-append-add, drop-append-le, drop-drop, length-take-le}
use Rattle.input.specs.Bytes.{two}
use Rattle.terms.specs.Sections.{sections_of}
use Rattle.limits.specs.Limits.{header_size}
use Rattle.jobs.specs.Add.{added}
use Rattle.output.specs.Written.{written, two_bytes}
use Rattle.output.proofs.Written.{front_written, behind_written, part_written, length_written}
use Rattle.output.proofs.Two.{length_two}

-- two numbers of a header renewed
module _ (l K M : List ℕ) (k : length K ≡ 2) (m : length M ≡ 2) (h : header_size ≤ length l) where
  pub header_written : written (written l 6 K) 14 M ≡ take 6 l ++ K ++ take 6 (drop 8 l) ++ M ++ drop 16 l
  unfolding written
  header_written =
      let p = take 6 l ++ K in
      let n : length p ≡ 8 = simp (length-append, length-take-le 6 l (omega arith)) (omega arith) in
      let i : 14 ≡ length p + 6 = omega arith in
      let j : 16 ≡ length p + 8 = omega arith in
      let front : take 14 (p ++ drop 8 l) ≡ p ++ take 6 (drop 8 l) = ap (λ (x : ℕ). take x (p ++ drop 8 l)) i ∙ take-append-add p (drop 8 l) 6 in
      let rest : drop 16 (p ++ drop 8 l) ≡ drop 16 l = ap (λ (x : ℕ). drop x (p ++ drop 8 l)) j ∙ drop-append-add p (drop 8 l) 8 ∙ drop-drop 8 8 l in
      rw (k, m, front, rest)

-- the new book by two numbers written over the old one with the record after it
module _ (s r : List ℕ) (h : header_size ≤ length s) where
  abbrev pub counted : List ℕ
  counted = written (s ++ r) 6 (two_bytes (two s 6 + 1))

  abbrev renewed : List ℕ
  renewed = written counted 14 (two_bytes (length s + length r))

  pub added_written : renewed ≡ added s r
  unfolding added sections_of
  added_written =
      let l : header_size ≤ length (s ++ r) = simp length-append (omega arith) in
      let i : 6 ≤ length (drop 8 s) = simp length-drop (omega arith) in
      let tail : take 6 (drop 8 (s ++ r)) ≡ take 6 (drop 8 s) = rw (drop-append-le 8 s r (omega arith)) (take-append-le 6 (drop 8 s) r i) in
      header_written (s ++ r) _ _ (length_two _) (length_two _) l
      ∙ rw (take-append-le 6 s r (omega arith), tail, drop-append-le 16 s r (omega arith))
      (sym (append_assoc (take 6 s ++ two_bytes (two s 6 + 1) ++ take 6 (drop 8 s) ++ two_bytes (length s + length r)) (drop 16 s) r))

  pub length_counted : length counted ≡ length s + length r
  length_counted =
      let l : length (s ++ r) ≡ length s + length r = length-append s r in
      length_written (s ++ r) 6 _ (rw length_two (omega arith)) ∙ l

  pub length_added : length (added s r) ≡ length s + length r
  length_added =
      let l = length_counted in
      rw (← added_written) (length_written counted 14 _ (rw length_two (omega arith)) ∙ l)

  -- what `form` leaves, by what its calls leave one after the other
  pub form_by : (d d₁ d₂ d₃ d₄ : List ℕ) (k : ℕ)
      → length s + length r ≤ length d
      → k ≡ two s 6
      → d₁ ≡ written d 0 s
      → d₂ ≡ written d₁ (length s) r
      → d₃ ≡ written d₂ 6 (two_bytes (k + 1))
      → d₄ ≡ written d₃ 14 (two_bytes (length s + length r))
      → d₄ ≡ written d 0 (added s r)
  form_by d d₁ d₂ d₃ d₄ k g e e₁ e₂ e₃ e₄ =
      let q = drop (length s + length r) d in
      let l : length (s ++ r) ≡ length s + length r = length-append s r in
      let n = length_counted in
      let f₂ : d₂ ≡ s ++ r ++ q = e₂ ∙ rw e₁ (behind_written d s r) in
      let f₃ : d₃ ≡ counted ++ q = e₃ ∙ rw (e, f₂) (part_written (s ++ r) q 6 _ (rw length_two (omega arith))) in
      let f₄ : d₄ ≡ renewed ++ q = e₄ ∙ rw f₃ (part_written counted q 14 _ (rw length_two (omega arith))) in
      f₄ ∙ rw (added_written, ← length_added) (sym (front_written d (added s r)))
