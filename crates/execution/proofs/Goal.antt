-- The goal: what it is to miss an entry, and the loop over the entries, one turn at a time. `i` counts those that are not missed.
use Rattle.std.proofs.Common.{ℕ, zero, suc, ◌+◌, ◌-◌, ◌*◌, ◌<◌, ◌≤◌, ◌≡◌, refl, Bool, true, false, not, List, add-one, arith}
use Rattle.std.proofs.Math.Numerals.{sub-one}
use mathlib.Core.Bool.{beq}
use Rattle.limits.specs.Limits.{entry_size}
use Rattle.format.specs.Order.{goal_from, entry_at}
use Rattle.quantify.specs.Quantify.{same}
use Rattle.quantify.proofs.Quantify.{first_from, first_from_lem}
use Rattle.statemask.specs.Statemask.{misses, missed}

-- ---- one entry
pub differ : (w h : Bool) → not (beq w h) ≡ not (same h w)
unfolding same
differ true true = refl
differ true false = refl
differ false true = refl
differ false false = refl

-- ---- the first entry that is missed

-- what is left of the goal, its first entry having number i
missed_from : List ℕ → List ℕ → ℕ → ℕ → ℕ → ℕ
missed_from o m n at i = first_from (misses m) (goal_from o n at) i

missed_here : (o m : List ℕ) (n at i : ℕ) → 0 < n → misses m (entry_at o at) ≡ true → missed_from o m n at i ≡ i
unfolding missed_from first_from goal_from
missed_here o m zero at i h e = absurd (omega arith)
missed_here o m (suc n) at i h e = rw (e, first_from)

missed_more : (o m : List ℕ) (n at i : ℕ) → 0 < n → misses m (entry_at o at) ≡ false → missed_from o m n at i ≡ missed_from o m (n - 1) (at + entry_size) (i + 1)
unfolding missed_from first_from goal_from
missed_more o m zero at i h e = absurd (omega arith)
missed_more o m (suc n) at i h e = rw (sub-one, add-one i, e, first_from)

module _ (o m : List ℕ) (n from : ℕ) where
  -- the number of the first that is missed of those behind i entries
  pub missed_behind : ℕ → ℕ
  missed_behind i = missed_from o m (n - i) (from + entry_size * i) (i + 1)

  pub missed_begin : missed_behind 0 ≡ missed m (goal_from o n from)
  unfolding missed_behind missed_from missed
  missed_begin =
      let left : n - 0 ≡ n = omega arith in
      let at : from + entry_size * 0 ≡ from = omega arith in
      rw (left, at) (first_from_lem (misses m) (goal_from o n from))

  module _ (i : ℕ) (some : i < n) where
    pub missed_at : misses m (entry_at o (from + entry_size * i)) ≡ true → missed_behind i ≡ i + 1
    unfolding missed_behind
    missed_at e = missed_here o m (n - i) (from + entry_size * i) (i + 1) (omega arith) e

    pub missed_turn : misses m (entry_at o (from + entry_size * i)) ≡ false → missed_behind i ≡ missed_behind (i + 1)
    unfolding missed_behind
    missed_turn e =
        let left : n - (i + 1) ≡ n - i - 1 = omega arith in
        let at : from + entry_size * (i + 1) ≡ from + entry_size * i + entry_size = omega arith in
        rw (left, at) (missed_more o m (n - i) (from + entry_size * i) (i + 1) (omega arith) e)

  pub missed_end : (i : ℕ) → n ≤ i → missed_behind i ≡ 0
  unfolding missed_behind missed_from first_from goal_from
  missed_end i h = let left : n - i ≡ 0 = omega arith in rw left refl

-- the loop's turns
pub ruleset missed_turns = (missed_begin, missed_at, missed_turn, missed_end)
