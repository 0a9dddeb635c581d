-- The mark of a move byte taken off by a remainder, as the code does it.
use Prim.Native.Nat.{ℕ, ◌-◌, ◌%◌, ◌<◌}
use native.Mathlib.Omega.{arith}
use mathlib.Core.Path.{◌≡◌}
use mathlib.Core.Logic.{◌⊎◌, inl, inr}
use mathlib.Core.Bool.{true, false, cond}
use mathlib.Core.List.{List}
use lib.Dec.{ltb}
use borrow.Author.Tests.{ltb-true, ltb-false}
use Rattle.truth.specs.Bools.{decide}
use Rattle.limits.specs.Limits.{failed_mark}
use Rattle.terms.specs.declared.Step.{Step}
use Rattle.terms.specs.Steps.{step_at}
use Rattle.format.specs.Filed.{unmarked, filed_step_at}

-- of a byte
mark_off : (b : ℕ) → b < 256 → b % failed_mark ≡ unmarked b
unfolding unmarked
mark_off b small = go (decide (ltb b failed_mark))
  where
    go : (ltb b failed_mark ≡ true) ⊎ (ltb b failed_mark ≡ false) → b % failed_mark ≡ cond (ltb b failed_mark) b (b - failed_mark)
    go (inl e) =
        let same : b % failed_mark ≡ b = omega (arith, ltb-true b failed_mark e) in
        rw (e, same)
    go (inr e) =
        let less : b % failed_mark ≡ b - failed_mark = omega (arith, ltb-false b failed_mark e) in
        rw (e, less)

pub step_mark_off : (s : List ℕ) (at : ℕ) (st : Step) → st ≡ step_at s at → st.action.0 < 256
    → record { action = record { 0 = st.action.0 % failed_mark }; binding = st.binding } ≡ filed_step_at s at
unfolding filed_step_at step_at
step_mark_off s at st read small = rw (mark_off st.action.0 small, read)
