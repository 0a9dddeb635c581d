-- Bounds of an answer's number and place, through rows in order and walks: what a caller needs to pack an answer into one number.
use Prim.Native.Nat.{ℕ, zero, suc, ◌≤◌}
use mathlib.Core.Path.{◌≡◌, refl}
use mathlib.Core.Bool.{Bool, true, false}
use native.Mathlib.Omega.{arith}
use Rattle.answer.specs.Answer.{Answer, Good, Refused, ◌>>=◌, refuse, number, place, max_number}
use Rattle.answer.specs.Walk.{walk}

-- the number of a refusal can be packed, and its place is at most `size`; the number of a good answer is a place too
unfoldable pub Bounded : ℕ → Answer → Type 0
Bounded size (Good n) = n ≤ size
Bounded size (Refused k p) = (k ≤ max_number) × (p ≤ size)

module _ (size : ℕ) where
  pub bounded_of : (a : Answer)
      → ((n : ℕ) → a ≡ Good n → n ≤ size)
      → ((k p : ℕ) → a ≡ Refused k p → (k ≤ max_number) × (p ≤ size))
      → Bounded size a
  unfolding Bounded
  bounded_of (Good n) f g = f n refl
  bounded_of (Refused k p) f g = g k p refl

  pub bounded_good : (n : ℕ) → n ≤ size → Bounded size (Good n)
  unfolding Bounded
  bounded_good n h = h

  pub bounded_then : (a : Answer) (k : ℕ → Answer)
      → Bounded size a
      → ((n : ℕ) → a ≡ Good n → n ≤ size → Bounded size (k n))
      → Bounded size (a >>= k)
  unfolding Bounded ◌>>=◌
  bounded_then (Good n) k h f = f n refl h
  bounded_then (Refused m p) k h f = h

  pub bounded_row : (b : Bool) (n p : ℕ) (k : ℕ → Answer)
      → n ≤ max_number
      → p ≤ size
      → (b ≡ false → Bounded size (k 0))
      → Bounded size (refuse b n p >>= k)
  unfolding Bounded ◌>>=◌ refuse
  bounded_row true n p k h i f = (h, i)
  bounded_row false n p k h i f = f refl

  pub bounded_walk : (item : ℕ → Answer)
      → ((at : ℕ) → at ≤ size → Bounded size (item at))
      → (n at : ℕ)
      → at ≤ size
      → Bounded size (walk item n at)
  unfolding walk
  bounded_walk item f zero at h = bounded_good at h
  bounded_walk item f (suc n) at h = bounded_then _ _ (f at h) (λ next e i. bounded_walk item f n next i)

  pub bounded_number : (a : Answer) → Bounded size a → number a ≤ max_number
  unfolding Bounded number
  bounded_number (Good n) h = omega arith
  bounded_number (Refused k p) h = h.0

  pub bounded_place : (a : Answer) → Bounded size a → place a ≤ size
  unfolding Bounded place
  bounded_place (Good n) h = h
  bounded_place (Refused k p) h = h.1

-- a wider bound holds too
pub bounded_wider : (size more : ℕ) (a : Answer) → size ≤ more → Bounded size a → Bounded more a
unfolding Bounded
bounded_wider size more (Good n) l h = omega arith
bounded_wider size more (Refused k p) l h = (h.0, omega (arith, h.1))
