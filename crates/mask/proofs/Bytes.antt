-- Bytes of a mask after a store and after a bytewise operation, whatever the operation, and what that does to its elements.
-- For Laws.antt, which has the operations by name. Uses Numbers.antt for the bits of a byte.
use mathlib.Core.Bool.{Bool, false}
use mathlib.Core.List.{List, [], ◌∷◌}
use mathlib.Core.Path.{◌≡◌, refl, sym, ap, ap₂, ◌∙◌}
use Prim.Native.Nat.{ℕ, zero, suc, ◌*◌, ◌/◌, ◌%◌, ◌^◌, ◌<◌, ◌≤◌}
use native.Mathlib.Decide.{dec_lt, ℕ_discrete}
use native.Mathlib.Omega.{arith}
use borrow.Author.Tests.{eq-eqb, ne_eqb}
use lib.Dec.{eqb}
use lib.ListN.{length, get_or, set, replicate, get_or-eq_default}
use lib.Seq.{set_out, get_or-set_same, get_or-set_other}
use Rattle.mask.specs.Bits.{bit_of, test_bit, Bytes}
use Rattle.mask.specs.Sets.{bytewise}
use Rattle.mask.proofs.Numbers.{bit_none, bit_power}

pub zeros : (k i : ℕ) → ◌≡◌ {A = ℕ} (get_or (replicate k 0) i 0) 0
zeros zero i = refl
zeros (suc k) zero = refl
zeros (suc k) (suc i) = zeros k i

-- past the end there is nothing
pub test_past : (m : List ℕ) (n : ℕ) → 8 * length m ≤ n → test_bit m n ≡ false
unfolding test_bit
test_past m n h =
    let l : length m ≤ n / 8 = omega arith in
    ap (λ (x : ℕ). bit_of x (n % 8)) (get_or-eq_default m 0 l) ∙ bit_none (n % 8)

same_bit : (n j : ℕ) → n / 8 ≡ j / 8 → eqb (n % 8) (j % 8) ≡ eqb n j
same_bit n j e = go (ℕ_discrete n j)
  where
    go : Dec (n ≡ j) → eqb (n % 8) (j % 8) ≡ eqb n j
    go (yes q) = eq-eqb (n % 8) (j % 8) (ap (λ (x : ℕ). x % 8) q) ∙ sym (eq-eqb n j q)
    go (no d) = ne_eqb (n % 8) (j % 8) (λ (q : n % 8 ≡ j % 8). d (omega arith)) ∙ sym (ne_eqb n j d)

pub length_bytewise : (f : ℕ → ℕ → ℕ) (a b : List ℕ) → length (bytewise f a b) ≡ length a
unfolding bytewise
length_bytewise f [] b = refl
length_bytewise f (x ∷ a) [] = ap suc (length_bytewise f a [])
length_bytewise f (x ∷ a) (y ∷ b) = ap suc (length_bytewise f a b)

within : (f : ℕ → ℕ → ℕ) (a b : List ℕ) (i : ℕ) → i < length a → get_or (bytewise f a b) i 0 ≡ f (get_or a i 0) (get_or b i 0)
unfolding bytewise
within f [] b i h = absurd (omega arith)
within f (x ∷ a) [] zero h = refl
within f (x ∷ a) [] (suc i) h = within f a [] i (omega arith)
within f (x ∷ a) (y ∷ b) zero h = refl
within f (x ∷ a) (y ∷ b) (suc i) h = within f a b i (omega arith)

-- byte i; past the end of a it is f's only if that is 0
pub byte_bytewise : (f : ℕ → ℕ → ℕ) (a b : List ℕ) (i : ℕ) → (length a ≤ i → f 0 (get_or b i 0) ≡ 0) → get_or (bytewise f a b) i 0 ≡ f (get_or a i 0) (get_or b i 0)
byte_bytewise f a b i z = go (dec_lt i (length a))
  where
    go : Dec (i < length a) → get_or (bytewise f a b) i 0 ≡ f (get_or a i 0) (get_or b i 0)
    go (yes l) = within f a b i l
    go (no d) =
        let h : length a ≤ i = omega arith in
        let h' : length (bytewise f a b) ≤ i = omega (arith, length_bytewise f a b) in
        get_or-eq_default (bytewise f a b) 0 h' ∙ sym (ap (λ (x : ℕ). f x (get_or b i 0)) (get_or-eq_default a 0 h) ∙ z h)

pub bytes_bytewise : (f : ℕ → ℕ → ℕ) (a b : List ℕ) → ((i : ℕ) → f (get_or a i 0) (get_or b i 0) < 256) → Bytes (bytewise f a b)
bytes_bytewise f a b h i = go (dec_lt i (length a))
  where
    go : Dec (i < length a) → get_or (bytewise f a b) i 0 < 256
    go (yes l) = omega (arith, within f a b i l, h i)
    go (no d) =
        let h' : length (bytewise f a b) ≤ i = omega (arith, length_bytewise f a b) in
        omega (arith, get_or-eq_default (bytewise f a b) 0 h')

pub bytes_stored : (m : List ℕ) (k v : ℕ) → Bytes m → v < 256 → Bytes (set m k v)
bytes_stored m k v h l i = go (ℕ_discrete i k) (dec_lt k (length m))
  where
    go : Dec (i ≡ k) → Dec (k < length m) → get_or (set m k v) i 0 < 256
    go (no d) w = omega (arith, get_or-set_other m k i v 0 d, h i)
    go (yes e) (yes w) = omega (arith, ap (λ (x : ℕ). get_or (set m k v) x 0) e, get_or-set_same m k v 0 w)
    go (yes e) (no d) =
        let o : length m ≤ k = omega arith in
        omega (arith, ap (λ (x : List ℕ). get_or x i 0) (set_out m k v o), h i)

-- ---- elements: f is an operation on bytes, and g what it is on each bit
module _ (f : ℕ → ℕ → ℕ) (g : Bool → Bool → Bool) (bit : (x y k : ℕ) → bit_of (f x y) k ≡ g (bit_of x k) (bit_of y k)) where
  pub test_bytewise : (a b : List ℕ) (n : ℕ) → (length a ≤ n / 8 → f 0 (get_or b (n / 8) 0) ≡ 0) → test_bit (bytewise f a b) n ≡ g (test_bit a n) (test_bit b n)
  unfolding test_bit
  test_bytewise a b n z =
      ap (λ (x : ℕ). bit_of x (n % 8)) (byte_bytewise f a b (n / 8) z) ∙ bit (get_or a (n / 8) 0) (get_or b (n / 8) 0) (n % 8)

  pub test_stored : ((b : Bool) → g b false ≡ b) → (m : List ℕ) (n j : ℕ) → (8 * length m ≤ n → g (test_bit m j) (eqb n j) ≡ test_bit m j)
      → test_bit (set m (n / 8) (f (get_or m (n / 8) 0) (2 ^ (n % 8)))) j ≡ g (test_bit m j) (eqb n j)
  unfolding test_bit
  test_stored unit m n j out = go (ℕ_discrete (j / 8) (n / 8)) (dec_lt (n / 8) (length m))
    where
      x : ℕ
      x = get_or m (n / 8) 0

      v : ℕ
      v = f x (2 ^ (n % 8))

      go : Dec (j / 8 ≡ n / 8) → Dec (n / 8 < length m) → test_bit (set m (n / 8) v) j ≡ g (test_bit m j) (eqb n j)
      go (no d) w =
          ap (λ (y : ℕ). bit_of y (j % 8)) (get_or-set_other m (n / 8) (j / 8) v 0 d)
          ∙ sym (ap (g (test_bit m j)) (ne_eqb n j (λ (q : n ≡ j). d (omega arith))) ∙ unit (test_bit m j))
      go (yes e) (yes l) =
          ap (λ (i : ℕ). bit_of (get_or (set m (n / 8) v) i 0) (j % 8)) e
          ∙ ap (λ (y : ℕ). bit_of y (j % 8)) (get_or-set_same m (n / 8) v 0 l)
          ∙ bit x (2 ^ (n % 8)) (j % 8)
          ∙ ap₂ g (ap (λ (i : ℕ). bit_of (get_or m i 0) (j % 8)) (sym e)) (bit_power (n % 8) (j % 8) ∙ same_bit n j (sym e))
      go (yes e) (no d) =
          let o : length m ≤ n / 8 = omega arith in
          ap (λ (l : List ℕ). test_bit l j) (set_out m (n / 8) v o) ∙ sym (out (omega arith))
