-- Tests of all numbers below a bound: cut in two, of two tests at once, and of the numbers that a function comes to.
use Prim.Native.Nat.{ℕ, zero, suc, ◌+◌, ◌<◌}
use native.Mathlib.Nat.{add-zero, zero-add, add-suc}
use mathlib.Core.Path.{◌≡◌, refl, sym, ap, ◌∙◌}
use mathlib.Core.Logic.{⊎_elim}
use mathlib.Core.Bool.{Bool, ◌&&◌, ◌||◌, or-false, or_assoc}
use lib.Dec.{eqb}
use borrow.Author.Tests.{eq-eqb, eqb-true}
use Rattle.truth.specs.Bools.{bool_eq, and_in, and_out, or_left, or_right, or_out}
use Rattle.quantify.specs.Quantify.{below}
use Rattle.quantify.proofs.Quantify.{below_in, below_out, below_same}

-- the numbers below n + k are those below n, and k more from n on
pub below_join : (n k : ℕ) (p : ℕ → Bool) → below (n + k) p ≡ (below n p || below k (λ j. p (n + j)))
unfolding below
below_join n zero p = rw (add-zero n) (sym (or-false (below n p)))
below_join n (suc k) p = rw (add-suc n k, below, below_join n k p) (or_assoc (below n p) _ _)

-- sixteen as four times four
pub below_fours : (p : ℕ → Bool) (a b c d : Bool)
    → a ≡ below 4 (λ q. p (0 + q)) → b ≡ below 4 (λ q. p (4 + q)) → c ≡ below 4 (λ q. p (8 + q)) → d ≡ below 4 (λ q. p (12 + q))
    → (a || b || c || d) ≡ below 16 p
below_fours p a b c d ea eb ec ed =
    let first : a ≡ below 4 p = ea ∙ below_same 4 (λ q. p (0 + q)) p (λ q. ap p (zero-add q)) in
    rw (first, eb, ec, ed)
    (sym (below_join 12 4 p ∙ ap (λ (t : Bool). t || below 4 (λ q. p (12 + q)))
    (below_join 8 4 p ∙ ap (λ (t : Bool). t || below 4 (λ q. p (8 + q))) (below_join 4 4 p))))

pub below_or : (n : ℕ) (p q : ℕ → Bool) → below n (λ j. p j || q j) ≡ (below n p || below n q)
below_or n p q =
    bool_eq _ _
    (λ e.
    let (j, l, t) = below_out n _ e in
    ⊎_elim (λ a. or_left _ _ (below_in n p j l a)) (λ b. or_right (below n p) _ (below_in n q j l b)) (or_out (p j) (q j) t))
    (λ e.
    ⊎_elim
    (λ a. let (j, l, t) = below_out n p a in below_in n _ j l (or_left (p j) (q j) t))
    (λ b. let (j, l, t) = below_out n q b in below_in n _ j l (or_right (p j) (q j) t))
    (or_out (below n p) (below n q) e))

-- a test of the numbers that f comes to below k is one of f's arguments
pub below_image : (n k : ℕ) (f : ℕ → ℕ) (b t : ℕ → Bool) → ((q : ℕ) → f q < n)
    → below n (λ y. below k (λ q. b q && eqb (f q) y) && t y) ≡ below k (λ q. b q && t (f q))
below_image n k f b t small =
    bool_eq _ _
    (λ e.
    let (y, l, h) = below_out n _ e in
    let (some, there) = and_out (below k (λ q. b q && eqb (f q) y)) (t y) h in
    let (q, m, g) = below_out k _ some in
    let (on, same) = and_out (b q) (eqb (f q) y) g in
    below_in k _ q m (and_in (b q) (t (f q)) on (rw (eqb-true (f q) y same) there)))
    (λ e.
    let (q, m, g) = below_out k _ e in
    let (on, there) = and_out (b q) (t (f q)) g in
    below_in n _ (f q) (small q) (and_in _ (t (f q)) (below_in k (λ i. b i && eqb (f i) (f q)) q m (and_in (b q) _ on (eq-eqb (f q) (f q) refl))) there))
