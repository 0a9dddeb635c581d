-- The start state's loop, one turn at a time: facts put into a mask. `i` counts those that are in it.
use Rattle.std.proofs.Common.{ℕ, zero, suc, ◌+◌, ◌-◌, ◌*◌, ◌<◌, ◌≤◌, ◌≡◌, refl, arith, List}
use Rattle.std.proofs.Math.Numerals.{sub-one}
use Rattle.terms.specs.Facts.{fact_at, fact_number}
use Rattle.limits.specs.Limits.{fact_size}
use Rattle.format.specs.Lists.{facts_at}
use Rattle.mask.specs.Bits.{set_bit}
use Rattle.statemask.specs.Statemask.{with_facts}

facts_more : (o : List ℕ) (n at : ℕ) (m : List ℕ) → 0 < n
    → with_facts (facts_at o (n - 1) (at + fact_size)) (set_bit m (fact_number (fact_at o at))) ≡ with_facts (facts_at o n at) m
unfolding with_facts facts_at
facts_more o zero at m h = absurd (omega arith)
facts_more o (suc n) at m h = rw sub-one

module _ (o : List ℕ) (n from : ℕ) (m : List ℕ) where
  pub facts_begin : with_facts (facts_at o (n - 0) (from + fact_size * 0)) m ≡ with_facts (facts_at o n from) m
  facts_begin =
      let left : n - 0 ≡ n = omega arith in
      let at : from + fact_size * 0 ≡ from = omega arith in
      rw (left, at) refl

  pub facts_turn : (i : ℕ) → i < n
      → with_facts (facts_at o (n - (i + 1)) (from + fact_size * (i + 1))) (set_bit m (fact_number (fact_at o (from + fact_size * i)))) ≡ with_facts (facts_at o (n - i) (from + fact_size * i)) m
  facts_turn i h =
      let left : n - (i + 1) ≡ n - i - 1 = omega arith in
      let at : from + fact_size * (i + 1) ≡ from + fact_size * i + fact_size = omega arith in
      rw (left, at) (facts_more o (n - i) (from + fact_size * i) m (omega arith))

  pub facts_end : (i : ℕ) → n ≤ i → with_facts (facts_at o (n - i) (from + fact_size * i)) m ≡ m
  unfolding with_facts facts_at
  facts_end i h = let left : n - i ≡ 0 = omega arith in rw left refl

-- the loop's turns
pub ruleset facts_turns = (facts_begin, facts_turn, facts_end)
