-- Truth values: what a computed test that holds or fails says. Stands at the bottom, for every crate.
-- The library's own are cited from there: and-true, and-false, or-false, not-not (Core.Bool), not-true, not-false (Author.Tests).
use Rattle.std.specs.Prelude.{◌≡◌, refl, ◌⊎◌, Bool, true, false, ◌&&◌, ◌||◌, not}
use Rattle.std.proofs.Common.{sym, ◌∙◌, inl, inr, true≢false}

-- two values of a Bool at once
pub clash {ℓ} : {A : Type ℓ} (b : Bool) → b ≡ true → b ≡ false → A
clash b p q = absurd (true≢false (sym p ∙ q))

pub not_self : {A : Type 0} (b : Bool) → b ≡ not b → A
not_self true e = clash true refl e
not_self false e = clash false e refl

pub decide : (b : Bool) → (b ≡ true) ⊎ (b ≡ false)
decide true = inl refl
decide false = inr refl

pub is_false : (b : Bool) → (b ≡ true → ⊥) → b ≡ false
is_false true h = absurd (h refl)
is_false false h = refl

pub is_true : (b : Bool) → (b ≡ false → ⊥) → b ≡ true
is_true true h = refl
is_true false h = absurd (h refl)

pub bool_eq : (b c : Bool) → (b ≡ true → c ≡ true) → (c ≡ true → b ≡ true) → b ≡ c
bool_eq true c h k = sym (h refl)
bool_eq false true h k = k refl
bool_eq false false h k = refl

pub and_in : (b c : Bool) → b ≡ true → c ≡ true → (b && c) ≡ true
and_in b c p q = rw (p, q)

pub and_out : (b c : Bool) → (b && c) ≡ true → (b ≡ true) × (c ≡ true)
and_out true c e = (refl, e)
and_out false c e = clash false e refl

-- a test after a guard counts only where the guard holds
pub guarded : (b c d : Bool) → (b ≡ true → c ≡ d) → (b && c) ≡ (b && d)
guarded true c d h = h refl
guarded false c d h = refl

pub or_left : (b c : Bool) → b ≡ true → (b || c) ≡ true
or_left b c p = rw p

pub or_right : (b c : Bool) → c ≡ true → (b || c) ≡ true
or_right true c p = refl
or_right false c p = p

pub or_out : (b c : Bool) → (b || c) ≡ true → (b ≡ true) ⊎ (c ≡ true)
or_out true c e = inl refl
or_out false c e = inr e

-- neither of two tests holds: what it says of each, and from each
pub neither : (b c : Bool) → (b || c) ≡ false → (b ≡ false) × (c ≡ false)
neither true c e = clash true refl e
neither false c e = (refl, e)

pub neither_in : (b c : Bool) → b ≡ false → c ≡ false → (b || c) ≡ false
neither_in b c p q = rw (p, q)

pub not_in : (b : Bool) → b ≡ false → not b ≡ true
not_in b e = rw e
