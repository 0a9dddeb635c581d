-- Where a refusal comes from, and from which row of the table on it is met: laws of rows in order, for answers that are not good.
use Prim.Native.Nat.{ℕ}
use mathlib.Core.Path.{◌≡◌, refl, subst}
use mathlib.Core.Logic.{◌⊎◌, inl, inr}
use mathlib.Core.Bool.{Bool, true, false, ◌&&◌, not}
use mathlib.Core.List.{List, [], ◌∷◌}
use native.Mathlib.Omega.{arith}
use borrow.Author.Tests.{eqb-true, leb-true, le-leb}
use lib.Dec.{eqb}
use Rattle.answer.specs.Answer.{Answer, Good, Refused, ◌>>=◌, refuse}
use Rattle.answer.proofs.Laws.{good_refused}
use Rattle.answer.specs.Table.{table, row_from, row, up_to, Between, MetFrom, among, impossible_rows, is_impossible}
use Rattle.truth.specs.Bools.{clash, and_out, or_out}

-- a refusal comes from the first part, or from what follows it
pub refused_cases : {C : Type 0} (a : Answer) (k : ℕ → Answer) (n p : ℕ)
    → (a >>= k) ≡ Refused n p
    → (a ≡ Refused n p → C)
    → ((m : ℕ) → a ≡ Good m → k m ≡ Refused n p → C)
    → C
unfolding ◌>>=◌
refused_cases (Good m) k n p e f g = g m refl e
refused_cases (Refused m q) k n p e f g = f e

-- the same where the first part is a row
pub row_cases : {C : Type 0} (b : Bool) (m q : ℕ) (k : ℕ → Answer) (n p : ℕ)
    → (refuse b m q >>= k) ≡ Refused n p
    → (n ≡ m → p ≡ q → C)
    → (b ≡ false → k 0 ≡ Refused n p → C)
    → C
unfolding ◌>>=◌ refuse
row_cases true m q k n p e f g = f (cc) (cc)
row_cases false m q k n p e f g = g refl e

-- ---- where in the table an answer is met

-- if every refusal of an answer is met at the row of n or later, and the row of m is no later, then each is met at the row of m or later
pub from_earlier : (m n : ℕ) (a : Answer) → up_to m n ≡ true → MetFrom n a → MetFrom m a
unfolding up_to
from_earlier m n a h from num p e =
    let l = leb-true (row m) (row n) h in
    let k = leb-true (row n) (row num) (from num p e) in
    le-leb (row m) (row num) (omega arith)

pub between_at : (m n num k : ℕ) → num ≡ k → Between m n k → Between m n num
between_at m n num k e h = rw e h

module _ (m : ℕ) where
  pub from_good : (n : ℕ) → MetFrom m (Good n)
  from_good n num p e = good_refused n num p e

  pub from_refused : (n p : ℕ) → up_to m n ≡ true → MetFrom m (Refused n p)
  from_refused n p h num q e =
      let z : n ≡ num = cc in
      rw (← z) h

  pub from_bind : (a : Answer) (k : ℕ → Answer) → MetFrom m a → ((n : ℕ) → MetFrom m (k n)) → MetFrom m (a >>= k)
  from_bind a k first rest num p e = refused_cases a k num p e (first num p) (λ n good. rest n num p)

  pub from_row : (b : Bool) (n p : ℕ) (k : ℕ → Answer) → up_to m n ≡ true → MetFrom m (k 0) → MetFrom m (refuse b n p >>= k)
  from_row b n p k h rest num q e = row_cases b n p k num q e (λ same place. rw same h) (λ unmet. rest num q)

-- ---- rows that are alike

-- the test holds of each number in the list
unfoldable pub every : (ℕ → Bool) → List ℕ → Bool
every test [] = true
every test (n ∷ ns) = test n && every test ns

pub among_every : (test : ℕ → Bool) (ns : List ℕ) (num : ℕ) → every test ns ≡ true → among ns num ≡ true → test num ≡ true
unfolding every among
among_every test [] num all e = clash false e refl
among_every test (n ∷ ns) num all e = go (or_out (eqb n num) (among ns num) e) (among_every test ns num (and_out (test n) _ all).1)
  where
    go : (eqb n num ≡ true) ⊎ (among ns num ≡ true) → (among ns num ≡ true → test num ≡ true) → test num ≡ true
    go (inl h) rest = subst (λ (k : ℕ). test k ≡ true) (eqb-true n num h) (and_out (test n) _ all).0
    go (inr h) rest = rest h

-- the numbers that say that no model fits stand before 13 in the table, and 0, the number of success, is none of them
pub impossible_early : (num : ℕ) → is_impossible num ≡ true → not (up_to 13 num) ≡ true
unfolding table row_from row up_to impossible_rows is_impossible every
impossible_early num e = among_every (λ n. not (up_to 13 n)) impossible_rows num refl e

pub impossible_refused : is_impossible 0 ≡ false
unfolding impossible_rows is_impossible among
impossible_refused = refl
