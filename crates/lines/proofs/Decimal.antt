-- The digits that io spells are those of the listing.
use Prim.Native.Nat.{ℕ, zero, suc, ◌+◌, ◌/◌, ◌%◌, ◌^◌, ◌-◌, ◌≤◌, ◌<◌}
use native.Mathlib.Nat.{pow-suc, one-le-pow, pow-le-pow_right}
use native.Mathlib.Omega.{arith}
use mathlib.Core.Path.{◌≡◌, refl, sym, ap, ◌∙◌}
use mathlib.Core.Bool.{Bool, true, false}
use mathlib.Core.List.{List, [], ◌∷◌, ◌++◌, append-nil}
use lib.Dec.{ltb}
use lib.ListN.{length}
use lib.Seq.{append_snoc}
use borrow.Author.Tests.{lt-ltb, ltb-true, ltb-false}
use Rattle.io.specs.Digits.{last_digits as spelt, hex_digit_ascii, IsDigitCount}
use Rattle.jobs.specs.Listing.{digits, decimal}

glyph_digit : (d : ℕ) → d < 10 → hex_digit_ascii d ≡ 48 + d
glyph_digit d h = rw (lt-ltb d 10 h)

-- a number of two digits or more
more : (fuel n : ℕ) (rest : List ℕ) → 1 ≤ n / 10 → digits (suc fuel) n rest ≡ digits fuel (n / 10) ((48 + n % 10) ∷ rest)
unfolding digits
more fuel n rest h = go (n / 10) refl
  where
    go : (q : ℕ) → n / 10 ≡ q → digits (suc fuel) n rest ≡ digits fuel (n / 10) ((48 + n % 10) ∷ rest)
    go zero e = absurd (omega arith)
    go (suc q) e = rw (e, digits)

digits_spelt : (fuel k n : ℕ) (rest : List ℕ) → k ≤ fuel → IsDigitCount 10 1 n k → digits fuel n rest ≡ spelt 10 k n ++ rest
unfolding digits
digits_spelt fuel zero n rest h f = absurd (omega (arith, f.0))
digits_spelt zero (suc k) n rest h f = absurd (omega arith)
digits_spelt (suc fuel) (suc zero) n rest h f =
    let small : n < 10 = f.1 in
    let e : n / 10 ≡ 0 = omega arith in
    let m : n % 10 ≡ n = omega arith in
    rw (m, glyph_digit n small, e, digits)
digits_spelt (suc fuel) (suc (suc k)) n rest h f =
    let p = pow-suc 10 (suc k) in
    let one_less : suc (suc k) - 1 ≡ suc k = omega arith in
    let least : 10 ^ suc k ≤ n = rw one_less at (f.2 (omega arith)) in
    let q = pow-suc 10 k in
    let small : n / 10 < 10 ^ suc k = omega (arith, p, f.1) in
    let one-less-now : suc k - 1 ≡ k = omega arith in
    let enough : 1 < suc k → 10 ^ (suc k - 1) ≤ n / 10 = λ _. rw one-less-now (omega (arith, q, least)) in
    let some : 1 ≤ n / 10 = omega (arith, q, least, one-le-pow k 10 (omega arith)) in
    more fuel n rest some ∙ digits_spelt fuel (suc k) (n / 10) ((48 + n % 10) ∷ rest) (omega arith) (omega arith, small, enough)
    ∙ sym (append_snoc (spelt 10 (suc k) (n / 10)) (48 + n % 10) rest)
    ∙ ap (λ (d : ℕ). spelt 10 (suc k) (n / 10) ++ (d ∷ []) ++ rest) (sym (glyph_digit (n % 10) (omega arith)))

-- a number of 64 bits has at most 20 digits
few : (n k : ℕ) → n < 2 ^ 64 → IsDigitCount 10 1 n k → k ≤ 20
few n k h f = go (ltb 20 k) refl
  where
    go : (b : Bool) → ltb 20 k ≡ b → k ≤ 20
    go true e =
        let more : 20 < k = ltb-true 20 k e in
        let least = f.2 (omega arith) in
        let longer : 20 ≤ k - 1 = omega arith in
        let large : 10 ^ 20 ≤ 10 ^ (k - 1) = pow-le-pow_right (omega arith) longer in
        absurd (omega (arith, least, large))
    go false e = ltb-false 20 k e

pub decimal_spelt : (n k : ℕ) → n < 2 ^ 64 → IsDigitCount 10 1 n k → spelt 10 k n ≡ decimal n
unfolding decimal
decimal_spelt n k h f = sym (digits_spelt 20 k n [] (few n k h f) f ∙ append-nil (spelt 10 k n))

-- a number below a power of ten has no more digits than that
abbrev Few : ℕ → Type 0
Few fuel = (d n : ℕ) (rest : List ℕ) → n < 10 ^ suc d → length (digits fuel n rest) ≤ suc d + length rest

few_more : (fuel : ℕ) → Few fuel → (d n q : ℕ) (rest : List ℕ) → n / 10 ≡ q → n < 10 ^ suc d → length (digits (suc fuel) n rest) ≤ suc d + length rest
unfolding digits
few_more fuel fewer d n zero rest e h = rw (e, digits) (omega arith)
few_more fuel fewer zero n (suc q) rest e h = absurd (omega arith)
few_more fuel fewer (suc d) n (suc q) rest e h =
    let small : suc q < 10 ^ suc d = omega (arith, pow-suc 10 (suc d)) in
    let shorter = fewer d (suc q) ((48 + n % 10) ∷ rest) small in
    rw (e, digits) (omega (arith, shorter))

digits_few : (fuel : ℕ) → Few fuel
unfolding digits
digits_few zero d n rest h = omega arith
digits_few (suc fuel) d n rest h = few_more fuel (digits_few fuel) d n (n / 10) rest refl h

pub decimal_few : (d n : ℕ) → n < 10 ^ suc d → length (decimal n) ≤ suc d
unfolding decimal
decimal_few d n h = omega (arith, digits_few 20 d n [] h)
