-- Laws of `kind_suits`. Besides these, only tables/proofs/Climb, for the code that makes the table by kind, and the computed cases open its
-- definition: everywhere else what suits a place or a parameter is said by its name.
use Prim.Native.Nat.{ℕ, zero, suc, ◌≤◌, ◌<◌}
use mathlib.Core.Path.{◌≡◌, refl, ap}
use mathlib.Core.Logic.{◌⊎◌, inl, inr, ⊎_elim}
use mathlib.Core.Bool.{Bool, true, false, ◌&&◌, ◌||◌}
use native.Mathlib.Omega.{arith}
use lib.Dec.{eqb, ltb}
use borrow.Author.Tests.{ltb-true, lt-ltb, eqb-true, eq-eqb}
use Rattle.truth.specs.Bools.{clash, and_in, and_out, or_right, or_out}
use Rattle.limits.specs.Limits.{max_kinds}
use Rattle.terms.specs.Schema.{Schema, suits_within, kind_suits}
use Rattle.terms.specs.Typing.{IsKind, Falling, Below, own, under, SuitsBelow}
use Rattle.terms.specs.Agree.{SameSchema}

module _ (sch : Schema) where
  -- the kind itself, or one above it
  within_out : (n named kind : ℕ) → suits_within sch (suc n) named kind ≡ true
      → (kind ≡ named) ⊎ ((0 < sch.parent kind) × (suits_within sch n named (sch.parent kind) ≡ true))
  unfolding suits_within
  within_out n named kind e = go (or_out (eqb kind named) _ e)
    where
      go : (eqb kind named ≡ true) ⊎ ((ltb 0 (sch.parent kind) && suits_within sch n named (sch.parent kind)) ≡ true)
          → (kind ≡ named) ⊎ ((0 < sch.parent kind) × (suits_within sch n named (sch.parent kind) ≡ true))
      go (inl h) = inl (eqb-true kind named h)
      go (inr h) = let (some, above) = and_out (ltb 0 (sch.parent kind)) _ h in inr (ltb-true 0 (sch.parent kind) some, above)

  within_none : (named kind : ℕ) → suits_within sch zero named kind ≡ false
  unfolding suits_within
  within_none named kind = refl

  within_own : (n kind : ℕ) → 1 ≤ n → suits_within sch n kind kind ≡ true
  unfolding suits_within
  within_own zero kind l = absurd (omega arith)
  within_own (suc n) kind l = rw (eq-eqb kind kind refl)

  within_above : (n named kind : ℕ) → 0 < sch.parent kind → suits_within sch n named (sch.parent kind) ≡ true → suits_within sch (suc n) named kind ≡ true
  unfolding suits_within
  within_above n named kind some above =
      or_right (eqb kind named) _ (and_in (ltb 0 (sch.parent kind)) (suits_within sch n named (sch.parent kind)) (lt-ltb 0 (sch.parent kind) some) above)

  -- a kind suits where it is named itself
  pub suits_own : (kind : ℕ) → kind_suits sch kind kind ≡ true
  unfolding kind_suits
  suits_own kind = within_own max_kinds kind (omega arith)

  module _ (fall : Falling sch) where
    -- as many kinds as a kind's number are enough to look at, however many were
    enough : (n m named kind : ℕ) → IsKind sch kind → kind ≤ m → suits_within sch n named kind ≡ true → suits_within sch m named kind ≡ true
    enough zero m named kind is l e = clash _ e (within_none named kind)
    enough (suc n) zero named kind is l e = absurd (omega (arith, is.0))
    enough (suc n) (suc m) named kind is l e =
        let down = fall.smaller kind is.0 is.1 in
        ⊎_elim
        (λ h. rw h (within_own (suc m) named (omega arith)))
        (λ h. within_above m named kind h.0 (enough n m named (sch.parent kind) (omega (arith, h.0), omega (arith, is.1)) (omega arith) h.1))
        (within_out n named kind e)

    through : (n i m named middle kind : ℕ) → IsKind sch kind → kind ≤ m
        → suits_within sch i named middle ≡ true → suits_within sch n middle kind ≡ true → suits_within sch m named kind ≡ true
    through n i zero named middle kind is l e f = absurd (omega (arith, is.0))
    through zero i (suc m) named middle kind is l e f = clash _ f (within_none middle kind)
    through (suc n) i (suc m) named middle kind is l e f =
        let down = fall.smaller kind is.0 is.1 in
        ⊎_elim
        (λ h. enough i (suc m) named kind is l (rw h e))
        (λ h. within_above m named kind h.0 (through n i m named middle (sch.parent kind) (omega (arith, h.0), omega (arith, is.1)) (omega arith) e h.1))
        (within_out n middle kind f)

    -- what suits a kind that suits the one named, suits the one named: an object its parameter, and this a place
    pub suits_through : (named middle kind : ℕ) → IsKind sch kind → kind_suits sch named middle ≡ true → kind_suits sch middle kind ≡ true → kind_suits sch named kind ≡ true
    unfolding kind_suits
    suits_through named middle kind is e f = through max_kinds max_kinds max_kinds named middle kind is (omega (arith, is.1, fall.few)) e f

-- ---- what suits is what lies below
within_below : (sch : Schema) (n named kind : ℕ) → suits_within sch n named kind ≡ true → Below sch named kind
within_below sch zero named kind e = clash _ e (within_none sch named kind)
within_below sch (suc n) named kind e =
    ⊎_elim (λ h. rw h own) (λ h. under h.0 (within_below sch n named (sch.parent kind) h.1)) (within_out sch n named kind e)

below_within : (sch : Schema) (named kind : ℕ) → Below sch named kind → (n : ℕ) × (suits_within sch n named kind ≡ true)
below_within sch named kind own = (1, within_own sch 1 named (omega arith))
below_within sch named kind (under some below) = let (n, e) = below_within sch named (sch.parent kind) below in (suc n, within_above sch n named kind some e)

pub suits_below : SuitsBelow
unfolding kind_suits
suits_below sch fall named kind is = (
  within_below sch max_kinds named kind,
  λ below. let (n, e) = below_within sch named kind below in enough sch fall n max_kinds named kind is (omega (arith, is.1, fall.few)) e,
)

-- Kinds that two schemas both have suit alike in them, where they say the same and the parents of one fall.
module _ (S T : Schema) (h : SameSchema S T) (fall : Falling S) where
  within_same : (n named kind : ℕ) → IsKind S kind → kind ≤ T.kinds → suits_within S n named kind ≡ suits_within T n named kind
  unfolding suits_within
  within_same zero named kind is l = refl
  within_same (suc n) named kind is l =
      let same = h.parent kind is.0 is.1 l in
      let down = fall.smaller kind is.0 is.1 in
      rw (← same) (ap (λ (b : Bool). eqb kind named || b) (above (S.parent kind) (λ some. within_same n named (S.parent kind) (some, omega (arith, is.1)) (omega arith))))
    where
      above : (k : ℕ) → (1 ≤ k → suits_within S n named k ≡ suits_within T n named k) → (ltb 0 k && suits_within S n named k) ≡ (ltb 0 k && suits_within T n named k)
      above zero e = refl
      above (suc k) e = ap (λ (b : Bool). ltb 0 (suc k) && b) (e (omega arith))

  pub suits_same : (named kind : ℕ) → IsKind S kind → kind ≤ T.kinds → kind_suits S named kind ≡ kind_suits T named kind
  unfolding kind_suits
  suits_same named kind is l = within_same max_kinds named kind is l
