-- A two-byte number written: as two stores, the other bytes, and the number read.
use Prim.Native.Nat.{ℕ, ◌+◌, ◌/◌, ◌%◌, ◌≤◌, ◌<◌}
use mathlib.Core.Path.{◌≡◌, refl, ap₂, ◌∙◌}
use mathlib.Core.List.{List, [], ◌∷◌}
use native.Mathlib.Numerals.{add-one}
use native.Mathlib.Omega.{arith}
use lib.ListN.{length, set, get_or, length-set}
use lib.Seq.{sets-eq, get_or-set_same, get_or-set_other}
use Rattle.input.specs.Bytes.{byte_at, two}
use Rattle.output.specs.Written.{written, two_bytes}

-- it has two bytes
pub length_two : (n : ℕ) → length (two_bytes n) ≡ 2
unfolding two_bytes
length_two n = refl

-- it has the bytes of what the number leaves over 65536
pub last_two : (n : ℕ) → n % 65536 / 256 % 256 ∷ n % 65536 % 256 ∷ [] ≡ two_bytes n
unfolding two_bytes
last_two n = ap₂ (λ (hi lo : ℕ). hi ∷ lo ∷ []) (omega arith) (omega arith)

two_written : (d : List ℕ) (at n : ℕ) → at + 2 ≤ length d → set (set d at (n / 256 % 256)) (at + 1) (n % 256) ≡ written d at (two_bytes n)
unfolding written two_bytes
two_written d at n h = rw add-one (sets-eq (n / 256 % 256 ∷ n % 256 ∷ []) d at h)

-- a two-byte number written: the other bytes, and the number read
module _ (d : List ℕ) (at n : ℕ) (h : at + 2 ≤ length d) where
  pub two_elsewhere : (i : ℕ) → (i ≡ at → ⊥) → (i ≡ at + 1 → ⊥) → byte_at (written d at (two_bytes n)) i ≡ byte_at d i
  unfolding byte_at
  two_elsewhere i p q =
      rw (← two_written d at n h)
      (get_or-set_other (set d at (n / 256 % 256)) (at + 1) i (n % 256) 0 q ∙ get_or-set_other d at i (n / 256 % 256) 0 p)

  pub two_there : n < 65536 → two (written d at (two_bytes n)) at ≡ n
  unfolding two byte_at
  two_there l =
      let hi = n / 256 % 256 in
      let lo = n % 256 in
      let m : at + 1 < length (set d at hi) = simp length-set (omega arith) in
      let a : get_or (set (set d at hi) (at + 1) lo) at 0 ≡ hi =
      get_or-set_other (set d at hi) (at + 1) at lo 0 (λ e. omega arith) ∙ get_or-set_same d at hi 0 (omega arith) in
      let b : get_or (set (set d at hi) (at + 1) lo) (at + 1) 0 ≡ lo = get_or-set_same (set d at hi) (at + 1) lo 0 m in
      rw (← two_written d at n h, a, b) (omega arith)
