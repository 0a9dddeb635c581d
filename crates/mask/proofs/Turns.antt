-- Loops over masks, one turn at a time: a bytewise operation in place, and the count. The laws have the shape that a loop's proof asks.
-- For the proofs of src/lib.rt, whatever the operation f on bytes. Uses lib.Seq's laws of lists.
use mathlib.Core.List.{List, [], ◌∷◌, ◌++◌, append-nil}
use mathlib.Core.Path.{◌≡◌, refl, sym, ap, ap₂, ◌∙◌}
use Prim.Native.Nat.{ℕ, suc, ◌+◌, ◌-◌, ◌*◌, ◌^◌, ◌%◌, ◌<◌, ◌≤◌}
use native.Mathlib.Nat.{add-zero}
use native.Mathlib.Numerals.{add-one}
use native.Mathlib.Omega.{arith}
use Rattle.std.specs.List.{sum_by}
use Rattle.std.proofs.lemmas.List.Sums.{sum_by-cons}
use lib.Bits.{bit_and}
use lib.Count.{ones}
use lib.ListN.{length, get_or, take, drop, set, length-set, drop_of_length-le}
use lib.Seq.{append_snoc, drop-cons, drop-drop, drop-set-lt, get_or-drop, take_all, take-suc-set}
use Rattle.mask.specs.Bits.{without}
use Rattle.mask.specs.Sets.{bytewise, difference, cardinality}
use Rattle.mask.proofs.Bytes.{byte_bytewise}
use Rattle.mask.proofs.Laws.{without_none}
use Rattle.mask.proofs.Numbers.{one_shl, and_not}

-- the bit of n as a shift computes it
pub shl_bit : (n : ℕ) → 1 * 2 ^ (n % 8) % 256 ≡ 2 ^ (n % 8)
shl_bit n = one_shl 8 (n % 8) (omega arith)

-- the first i bytes of a as they are, and the rest with the rest of b
pub rest : (ℕ → ℕ → ℕ) → List ℕ → List ℕ → ℕ → List ℕ
rest f a b i = take i a ++ bytewise f (drop i a) (drop i b)

module _ (f : ℕ → ℕ → ℕ) where
  first : (x : ℕ) (a b : List ℕ) → bytewise f (x ∷ a) b ≡ f x (get_or b 0 0) ∷ bytewise f a (drop 1 b)
  unfolding bytewise
  first x a [] = refl
  first x a (y ∷ b) = refl

  rest_none : (a b : List ℕ) → rest f a b 0 ≡ bytewise f a b
  unfolding rest
  rest_none a b = refl

  rest_all : (a b : List ℕ) (i : ℕ) → length a ≤ i → rest f a b i ≡ a
  unfolding rest bytewise
  rest_all a b i h =
      ap₂ (λ (x y : List ℕ). x ++ bytewise f y (drop i b)) (take_all i a h) (drop_of_length-le a h) ∙ append-nil a

  rest_here : (a b : List ℕ) (i : ℕ) → i < length a
      → bytewise f (drop i a) (drop i b) ≡ f (get_or a i 0) (get_or b i 0) ∷ bytewise f (drop (suc i) a) (drop (suc i) b)
  rest_here a b i h =
      ap (λ (l : List ℕ). bytewise f l (drop i b)) (drop-cons a i 0 h)
      ∙ first (get_or a i 0) (drop (suc i) a) (drop i b)
      ∙ ap₂ (λ (y : ℕ) (l : List ℕ). f (get_or a i 0) y ∷ bytewise f (drop (suc i) a) l)
      (get_or-drop i b 0 0 ∙ ap (λ (k : ℕ). get_or b k 0) (add-zero i)) (drop-drop 1 i b ∙ ap (λ (k : ℕ). drop k b) (add-one i))

  rest_turn : (a b : List ℕ) (i : ℕ) → i < length a → rest f (set a i (f (get_or a i 0) (get_or b i 0))) b (i + 1) ≡ rest f a b i
  unfolding rest
  rest_turn a b i h =
      let v : ℕ = f (get_or a i 0) (get_or b i 0) in
      ap (λ (k : ℕ). rest f (set a i v) b k) (add-one i)
      ∙ ap₂ (λ (x y : List ℕ). x ++ bytewise f y (drop (suc i) b)) (take-suc-set a i v h) (drop-set-lt (suc i) a i v (omega arith))
      ∙ append_snoc (take i a) v (bytewise f (drop (suc i) a) (drop (suc i) b))
      ∙ ap (λ (l : List ℕ). take i a ++ l) (sym (rest_here a b i h))

-- Where a loop stands that works b into a byte by byte, from a₀ on: i bytes are done.
pub record Turn (f : ℕ → ℕ → ℕ) (a₀ b a : List ℕ) (i : ℕ) : Type 0 where
  pub within : i ≤ length a
  pub long : length a ≡ length a₀
  pub whole : rest f a b i ≡ bytewise f a₀ b

module _ (f : ℕ → ℕ → ℕ) where
  pub turn_first : (a b : List ℕ) → Turn f a b a 0
  turn_first a b = record { within = omega arith; long = refl; whole = rest_none f a b }

  -- y is byte i of b, wherever the loop has it from
  pub turn_next : {a₀ b a : List ℕ} {i y : ℕ} → Turn f a₀ b a i → i < length a₀ → y ≡ get_or b i 0 → Turn f a₀ b (set a i (f (get_or a i 0) y)) (i + 1)
  turn_next {a₀} {b} {a} {i} {y} t h e =
      let k = length-set a i (f (get_or a i 0) y) in
      record {
        within = omega arith;
        long = k ∙ t.long;
        whole = ap (λ (x : ℕ). rest f (set a i (f (get_or a i 0) x)) b (i + 1)) e ∙ rest_turn f a b i (omega arith) ∙ t.whole;
      }

  pub turn_last : {a₀ b a : List ℕ} {i : ℕ} → Turn f a₀ b a i → length a₀ ≤ i → a ≡ bytewise f a₀ b
  turn_last {a₀} {b} {a} {i} t h = let long = t.long in sym (rest_all f a b i (omega arith)) ∙ t.whole

-- the byte of a difference, as a loop computes it from bytes x and y
pub byte_difference : (a b : List ℕ) (i : ℕ) {x y : ℕ} → x ≡ get_or a i 0 → y ≡ get_or b i 0 → x < 256 → y < 256 → bit_and x (255 - y) ≡ get_or (difference a b) i 0
unfolding difference
byte_difference a b i {x} {y} e e' h h' =
    and_not x y h h' ∙ ap₂ without e e' ∙ sym (byte_bytewise without a b i (λ o. without_none (get_or b i 0)))

-- ---- the count
pub cardinality_sum : (m : List ℕ) → sum_by ones m ≡ cardinality m
unfolding cardinality
cardinality_sum [] = refl
cardinality_sum (x ∷ m) = sum_by-cons ones x m ∙ ap (λ (n : ℕ). ones x + n) (cardinality_sum m)
