-- What is yet to come of a list: nothing, all of it, the next fact.
use Prim.Native.Nat.{ℕ, zero, suc, ◌+◌, ◌-◌, ◌<◌, ◌≤◌}
use mathlib.Core.Path.{◌≡◌}
use mathlib.Core.List.{List, [], ◌∷◌}
use native.Mathlib.Numerals.{sub-one}
use native.Mathlib.Omega.{arith}
use lib.ListN.{length}
use Rattle.input.specs.Bytes.{two}
use Rattle.terms.specs.declared.Fact.{Fact}
use Rattle.terms.specs.Facts.{fact_at}
use Rattle.limits.specs.Limits.{fact_size, near_ceiling}
use Rattle.format.specs.Lists.{facts_at, list_at, list_end}
use Rattle.factlist.specs.declared.ListCursor.{ListCursor}
use Rattle.factlist.specs.Rest.{rest, FactsWithin, next, Comes}
use lib.Dec.{ltb}
use borrow.Author.Tests.{ltb-true}
use mathlib.Core.Bool.{true, ◌&&◌}
use Rattle.truth.specs.Bools.{and_out}

module _ (s : List ℕ) where
  pub rest_none : (c : ListCursor) → c.left ≡ 0 → rest s c ≡ []
  unfolding rest facts_at
  rest_none c e = rw e

  facts_first : (n at : ℕ) → 0 < n → facts_at s n at ≡ fact_at s at ∷ facts_at s (n - 1) (at + fact_size)
  unfolding facts_at
  facts_first zero at h = absurd (omega arith)
  facts_first (suc n) at h = rw sub-one

  pub of_list_by : (at n : ℕ) → n ≡ two s at → n < 65536 → at ≤ near_ceiling → list_end s at ≤ length s
      → (rest s (record { at = at + 2; left = n }) ≡ list_at s at) × FactsWithin s (record { at = at + 2; left = n })
  unfolding rest list_at list_end
  of_list_by at n e h k l = (rw e, record { within = omega (arith, e, l); near = omega arith })

  pub comes_by : (c : ListCursor) (f : Fact) → 0 < c.left → FactsWithin s c → f ≡ fact_at s c.at → Comes s c f
  unfolding rest next
  comes_by c f h w e =
      record {
        first = rw e (facts_first c.left c.at h);
        ahead = record { within = omega (arith, w.within); near = omega (arith, w.near) };
        less = omega arith;
      }

-- a loop over two lists goes on while both have facts to come
pub both_left : (m n : ℕ) → (ltb 0 m && ltb 0 n) ≡ true → (0 < m) × (0 < n)
both_left m n e = let (p, q) = and_out (ltb 0 m) (ltb 0 n) e in (ltb-true 0 m p, ltb-true 0 n q)
