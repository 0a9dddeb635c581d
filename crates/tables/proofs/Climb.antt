-- Laws of an object put into the set of its own kind and of each kind above it, one after the other: the climb that `kind_suits` says.
use Prim.Native.Nat.{ℕ, zero, suc, ◌-◌, ◌<◌}
use mathlib.Core.Path.{◌≡◌, refl, sym, ◌∙◌}
use mathlib.Core.Bool.{Bool, true, false, ◌&&◌, ◌||◌, and-true, and-false, or-false}
use mathlib.Core.List.{List}
use native.Mathlib.Decide.{ℕ_discrete}
use native.Mathlib.Omega.{arith}
use borrow.Author.Tests.{lt-ltb, eq-eqb, ne_eqb}
use lib.Dec.{eqb, ltb}
use lib.ListN.{length}
use Rattle.limits.specs.Limits.{max_kinds}
use Rattle.objectset.specs.Sets.{member, entry, put}
use Rattle.objectset.proofs.Laws.{member_put, put_same, put_other, length_put}
use Rattle.terms.specs.Schema.{Schema, suits_within, kind_suits}
use Rattle.tables.specs.Tables.{Joined}

-- ---- the kinds looked at: this one, and so many less one from its parent on
within_step : (sch : Schema) (n named kind : ℕ) → 0 < n
    → suits_within sch n named kind ≡ (eqb kind named || ltb 0 (sch.parent kind) && suits_within sch (n - 1) named (sch.parent kind))
unfolding suits_within
within_step sch zero named kind l = absurd (omega arith)
within_step sch (suc n) named kind l = let e : suc n - 1 ≡ n = omega arith in rw e refl

within_end : (sch : Schema) (n named kind : ℕ) → n ≡ 0 → suits_within sch n named kind ≡ false
unfolding suits_within
within_end sch n named kind e = rw e refl

-- ---- one set
put_in : (t : List ℕ) (k x named y : ℕ) → x < 32 → k < length t
    → member (entry (put t k x) named) y ≡ (member (entry t named) y || eqb x y && eqb k named)
put_in t k x named y l h = by (ℕ_discrete k named)
  where
    by : Dec (k ≡ named) → member (entry (put t k x) named) y ≡ (member (entry t named) y || eqb x y && eqb k named)
    by (yes p) = rw (← p, put_same t k x h, eq-eqb k k refl, and-true (eqb x y)) (member_put (entry t k) x y l)
    by (no d) = rw (put_other t k x named d, ne_eqb k named d, and-false (eqb x y)) (sym (or-false (member (entry t named) y)))

one_more_lem : (m e a r : Bool) → (m || e && a || e && r) ≡ (m || e && (a || r))
one_more_lem true e a r = refl
one_more_lem false true a r = refl
one_more_lem false false a r = refl

-- ---- on the way up: what is in the sets, and what the kinds still to be looked at will put there, are what the end has
module _ (sch : Schema) (kind x : ℕ) (old : List ℕ) where
  unfoldable pub Climbing : ℕ → ℕ → List ℕ → Type 0
  Climbing left k t =
      (length t ≡ length old)
      × ((named y : ℕ)
      → (member (entry t named) y || eqb x y && suits_within sch left named k) ≡ (member (entry old named) y || eqb x y && kind_suits sch named kind))

  pub climb_start : Climbing max_kinds kind old
  unfolding Climbing kind_suits
  climb_start = (refl, λ named y. refl)

  -- one kind looked at
  module _ (left k p : ℕ) (t new : List ℕ) (i : Climbing left k t) (some : 0 < left) (l : x < 32) (h : k < length old)
      (e : new ≡ put t k x) (up : p ≡ sch.parent k) where
    above : (named y : ℕ) → (member (entry new named) y || eqb x y && (ltb 0 p && suits_within sch (left - 1) named p))
        ≡ (member (entry old named) y || eqb x y && kind_suits sch named kind)
    unfolding Climbing
    above named y =
        let rest : Bool = ltb 0 (sch.parent k) && suits_within sch (left - 1) named (sch.parent k) in
        rw (e, up, put_in t k x named y l (omega (arith, i.0)))
        (one_more_lem (member (entry t named) y) (eqb x y) (eqb k named) rest ∙ rw (← within_step sch left named k some) (i.1 named y))

    same_length : length new ≡ length old
    unfolding Climbing
    same_length = rw e (length_put t k x ∙ i.0)

    pub climb_turn : 0 < p → Climbing (left - 1) p new
    unfolding Climbing
    climb_turn more = (same_length, λ named y. rw (lt-ltb 0 p more) at (above named y))

    pub climb_top : p ≡ 0 → Joined sch kind x old new
    unfolding Joined
    climb_top none =
        (same_length, λ named y. sym (or-false (member (entry new named) y)) ∙ rw (and-false (eqb x y)) at (rw none at (above named y)))

  pub climb_end : (left k : ℕ) (t : List ℕ) → Climbing left k t → left ≡ 0 → Joined sch kind x old t
  unfolding Climbing Joined
  climb_end left k t i none =
      (i.0, λ named y. sym (or-false (member (entry t named) y)) ∙ rw (within_end sch left named k none, and-false (eqb x y)) at (i.1 named y))
