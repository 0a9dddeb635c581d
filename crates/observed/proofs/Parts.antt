-- 32 bytes of a list replaced: those bytes are the new ones, and every other part of 32 bytes is as it was.
use Prim.Native.Nat.{ℕ, ◌+◌, ◌-◌, ◌≤◌, ◌<◌}
use native.Mathlib.Decide.{dec_lt}
use native.Mathlib.Omega.{arith}
use mathlib.Core.Path.{◌≡◌, sym, ap, ◌∙◌}
use mathlib.Core.Logic.{◌⊎◌, inl, inr}
use mathlib.Core.List.{List, ◌++◌}
use lib.ListN.{length, take, drop, get_or, length-append, length-take, length-drop, get_or-append, get_or-eq_default}
use lib.Seq.{length-take-le, get_or-append-add, get_or-take, get_or-drop, ext_get_or}
use Rattle.mask.specs.Bits.{Bytes}
use Rattle.observed.specs.OnSet.{on_set}

-- a list with m in place of the 32 bytes from `at`
put : ℕ → List ℕ → List ℕ → List ℕ
put at m l = take at l ++ m ++ drop (at + 32) l

pub part_length : (l : List ℕ) (at : ℕ) → at + 32 ≤ length l → length (take 32 (drop at l)) ≡ 32
part_length l at h = omega (arith, length-take 32 (drop at l), length-drop at l)

pub part_byte : (l : List ℕ) (at i : ℕ) → i < 32 → get_or (take 32 (drop at l)) i 0 ≡ get_or l (at + i) 0
part_byte l at i h = get_or-take 32 (drop at l) i 0 h ∙ get_or-drop at l i 0

pub part_bytes : (l : List ℕ) (at : ℕ) → Bytes l → Bytes (take 32 (drop at l))
part_bytes l at h i = go (dec_lt i 32)
  where
    go : Dec (i < 32) → get_or (take 32 (drop at l)) i 0 < 256
    go (yes k) = rw (part_byte l at i k) (h (at + i))
    go (no d) = omega (arith, get_or-eq_default (take 32 (drop at l)) 0 {n = i} (omega (arith, length-take 32 (drop at l))))

module _ (at : ℕ) (m l : List ℕ) (fits : at + 32 ≤ length l) (sized : length m ≡ 32) where
  front : length (take at l) ≡ at
  front = length-take-le at l (omega arith)

  both : length (take at l ++ m) ≡ at + 32
  both = omega (arith, length-append (take at l) m, front)

  length_put : length (put at m l) ≡ length l
  unfolding put
  length_put = omega (arith, length-append (take at l ++ m) (drop (at + 32) l), both, length-drop (at + 32) l)

  byte_in : (i : ℕ) → i < 32 → get_or (put at m l) (at + i) 0 ≡ get_or m i 0
  unfolding put
  byte_in i h =
      get_or-append (take at l ++ m) (drop (at + 32) l) 0 (at + i) (omega (arith, both))
      ∙ ap (λ (k : ℕ). get_or (take at l ++ m) (k + i) 0) (sym front)
      ∙ get_or-append-add (take at l) m i 0

  byte_under : (i : ℕ) → i < at → get_or (put at m l) i 0 ≡ get_or l i 0
  unfolding put
  byte_under i h =
      get_or-append (take at l ++ m) (drop (at + 32) l) 0 i (omega (arith, both))
      ∙ get_or-append (take at l) m 0 i (omega (arith, front))
      ∙ get_or-take at l i 0 h

  byte_over : (i : ℕ) → get_or (put at m l) (at + 32 + i) 0 ≡ get_or l (at + 32 + i) 0
  unfolding put
  byte_over i =
      ap (λ (k : ℕ). get_or (put at m l) (k + i) 0) (sym both)
      ∙ get_or-append-add (take at l ++ m) (drop (at + 32) l) i 0
      ∙ get_or-drop (at + 32) l i 0

  bytes_put : Bytes m → Bytes l → Bytes (put at m l)
  bytes_put hm ob i = go (dec_lt i at) (dec_lt i (at + 32))
    where
      go : Dec (i < at) → Dec (i < at + 32) → get_or (put at m l) i 0 < 256
      go (yes h) w = rw (byte_under i h) (ob i)
      go (no d) (yes h) =
          let e : at + (i - at) ≡ i = omega arith in
          let k : i - at < 32 = omega arith in
          rw (← e) (rw (byte_in (i - at) k) (hm (i - at)))
      go (no d) (no d') =
          let e : at + 32 + (i - (at + 32)) ≡ i = omega arith in
          rw (← e) (rw (byte_over (i - (at + 32))) (ob (at + 32 + (i - (at + 32)))))

  part_in : take 32 (drop at (put at m l)) ≡ m
  part_in =
      let e : length (take 32 (drop at (put at m l))) ≡ 32 = part_length (put at m l) at (omega (arith, length_put)) in
      ext_get_or 0 (take 32 (drop at (put at m l))) m (e ∙ sym sized)
      (λ i h. let k : i < 32 = omega arith in part_byte (put at m l) at i k ∙ byte_in i k)

  part_out : (there : ℕ) → (there + 32 ≤ at) ⊎ (at + 32 ≤ there) → there + 32 ≤ length l → take 32 (drop there (put at m l)) ≡ take 32 (drop there l)
  part_out there apart within =
      let e : length (take 32 (drop there (put at m l))) ≡ 32 = part_length (put at m l) there (omega (arith, length_put)) in
      ext_get_or 0 (take 32 (drop there (put at m l))) (take 32 (drop there l)) (e ∙ sym (part_length l there within))
      (λ i h. let k : i < 32 = omega arith in part_byte (put at m l) there i k ∙ go i k apart ∙ sym (part_byte l there i k))
    where
      go : (i : ℕ) → i < 32 → (there + 32 ≤ at) ⊎ (at + 32 ≤ there) → get_or (put at m l) (there + i) 0 ≡ get_or l (there + i) 0
      go i h (inl under) = byte_under (there + i) (omega arith)
      go i h (inr over) =
          let e : at + 32 + (there + i - (at + 32)) ≡ there + i = omega arith in
          rw (← e) (byte_over (there + i - (at + 32)))

-- ---- the same of `on_set`, for a change f that leaves the length
module _ (at : ℕ) (f : List ℕ → List ℕ) (l : List ℕ) (fits : at + 32 ≤ length l)
    (keeps : length (f (take 32 (drop at l))) ≡ length (take 32 (drop at l))) where
  sized : length (f (take 32 (drop at l))) ≡ 32
  sized = keeps ∙ part_length l at fits

  pub length_on_set : length (on_set at f l) ≡ length l
  unfolding on_set put
  length_on_set = length_put at (f (take 32 (drop at l))) l fits sized

  pub bytes_on_set : Bytes (f (take 32 (drop at l))) → Bytes l → Bytes (on_set at f l)
  unfolding on_set put
  bytes_on_set hm ob = bytes_put at (f (take 32 (drop at l))) l fits sized hm ob

  pub on_set_in : take 32 (drop at (on_set at f l)) ≡ f (take 32 (drop at l))
  unfolding on_set put
  on_set_in = part_in at (f (take 32 (drop at l))) l fits sized

  pub on_set_out : (there : ℕ) → (there + 32 ≤ at) ⊎ (at + 32 ≤ there) → there + 32 ≤ length l
      → take 32 (drop there (on_set at f l)) ≡ take 32 (drop there l)
  unfolding on_set put
  on_set_out = part_out at (f (take 32 (drop at l))) l fits sized
