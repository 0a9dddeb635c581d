-- A call's promise from the answer that it packed, and from the bounds of the answer.
use Prim.Native.Nat.{ℕ, ◌+◌, ◌*◌, ◌/◌, ◌%◌, ◌<◌}
use mathlib.Core.Path.{◌≡◌, refl, ap, ◌∙◌}
use native.Mathlib.Omega.{arith}
use Rattle.answer.specs.Answer.{Answer, Positioned, number, place, packed}
use Rattle.answer.proofs.Bounds.{Bounded, bounded_number, bounded_place}
use Rattle.changeover.specs.Calls.{Says}

-- number, position and place can be packed into one number
abbrev pub Fits : Answer → ℕ → Type 0
Fits a position = (number a < 65536) × (position < 65536) × (place a < 4294967296)

pub fits_by : (size : ℕ) (a : Answer) (position : ℕ) → Bounded size a → size < 4294967296 → position < 65536 → Fits a position
fits_by size a position b h p = (omega (arith, bounded_number size a b), p, omega (arith, bounded_place size a b))

-- three numbers packed are read back
back : (n k p : ℕ) → k < 65536 → p < 4294967296
    → ((n * 281474976710656 + k * 4294967296 + p) / 281474976710656 ≡ n)
    × ((n * 281474976710656 + k * 4294967296 + p) / 4294967296 % 65536 ≡ k)
    × ((n * 281474976710656 + k * 4294967296 + p) % 4294967296 ≡ p)
back n k p h l = (omega arith, omega arith, omega arith)

pub says_by : (a b : Answer) (position r : ℕ) → a ≡ b → Fits b position → r ≡ packed a position → Says b position r
unfolding packed
says_by a b position r e f h =
    let w = back (number b) position (place b) f.1 f.2 in
    let q : r ≡ packed b position = h ∙ ap (λ (x : Answer). packed x position) e in
    record { packs = q; number_fits = f.0; position_fits = f.1; place_fits = f.2; number_read = rw q w.0; position_read = rw q w.1; place_read = rw q w.2 }

-- the same of an answer that has a position
pub says_at : (a b : Positioned) (r : ℕ) → a ≡ b → Fits b.answer b.position → r ≡ packed a.answer a.position → Says b.answer b.position r
says_at a b r e f h = says_by b.answer b.answer b.position r refl f (h ∙ ap (λ (x : Positioned). packed x.answer x.position) e)
