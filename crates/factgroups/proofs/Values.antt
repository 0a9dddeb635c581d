-- The values of a relation's bound facts as words: four bits of each group, and the sixteen of four groups.
use Prim.Native.Nat.{ℕ, zero, suc, ◌+◌, ◌*◌, ◌/◌, ◌%◌, ◌^◌, ◌≤◌, ◌<◌}
use native.Mathlib.Nat.{zero-add}
use native.Mathlib.Omega.{arith}
use mathlib.Core.Path.{◌≡◌, refl, sym, ap, ◌∙◌}
use mathlib.Core.Bool.{Bool}
use mathlib.Core.List.{List}
use lib.Bits.{bit_and, bit_or, and_le_l}
use lib.Dec.{eqb}
use lib.ListN.{get_or}
use borrow.Author.Tests.{le-leb, lt-leb}
use Rattle.mask.specs.Bits.{bit_of, test_bit}
use Rattle.mask.specs.Sets.{digit, number}
use Rattle.mask.proofs.Numbers.{bit_number}
use Rattle.atoms.proofs.Words.{number_same}
use Rattle.factgroups.specs.declared.Placement.{Placement}
use Rattle.factgroups.specs.Groups.{Indices, unused, in_place, column_set, group_of, facts, in_columns}
use Rattle.factgroups.proofs.Words.{number_cut, number_none}
use Rattle.factgroups.proofs.Groups.{unused_small}
use Rattle.factgroups.proofs.Needs.{groups_clear_by}

-- ---- the columns in the second place
pub columns_used : (places : ℕ) (xs : List ℕ) → 1 < places → xs ≡ in_place places 2 xs
unfolding in_place
columns_used places xs h = rw (le-leb 2 places h)

pub columns_unused : (places : ℕ) (xs : List ℕ) → places ≤ 1 → unused ≡ in_place places 2 xs
unfolding in_place
columns_unused places xs h = rw (lt-leb 2 places (omega arith))

-- ---- a group
pub digit_bit : (x y : ℕ) → x / 2 ^ y % 2 ≡ digit (bit_of x y)
unfolding bit_of digit
digit_bit x y = go (x / 2 ^ y % 2) (omega arith)
  where
    go : (r : ℕ) → r < 2 → r ≡ digit (eqb r 1)
    go zero h = refl
    go (suc zero) h = refl
    go (suc (suc r)) h = absurd (omega arith)

pub in_columns_by : (group : ℕ) (ys : List ℕ) (a b c d : ℕ)
    → a ≡ digit (bit_of group (get_or ys 0 0)) → b ≡ digit (bit_of group (get_or ys 1 0)) → c ≡ digit (bit_of group (get_or ys 2 0)) → d ≡ digit (bit_of group (get_or ys 3 0))
    → a + b * 2 + c * 4 + d * 8 ≡ in_columns group ys
unfolding in_columns number
in_columns_by group ys a b c d ea eb ec ed = omega (arith, ea, eb, ec, ed)

-- where the second place is unused: the bit of column 0 for all four
alone_columns : (group a : ℕ) → a ≡ digit (bit_of group 0) → a * 15 ≡ in_columns group unused
alone_columns group a e = omega (arith, in_columns_by group unused a a a a e e e e)

-- ---- the four groups of a relation
module _ (m : List ℕ) (P : Placement) (ys : List ℕ) (small : Indices ys) where
  unfoldable value : ℕ → Bool
  value j = test_bit m (facts P ys j)

  group_values : (p s group : ℕ) → p < 4 → s ≡ 4 * p → group ≡ number (test_bit m) (16 * group_of P p) 16 → in_columns group ys ≡ number value s 4
  unfolding in_columns value facts
  group_values p s group h e is =
      number_same _ _ s 0 4
      (λ q l.
      let i : (s + q) / 4 ≡ p = omega arith in
      let j : (s + q) % 4 ≡ q = omega arith in
      rw (zero-add q, i, j, is) (bit_number (test_bit m) (16 * group_of P p) 16 (get_or ys q 0) (small q)))

  module _ (a b c d : ℕ)
      (ea : a ≡ number (test_bit m) (16 * group_of P 0) 16) (eb : b ≡ number (test_bit m) (16 * group_of P 1) 16)
      (ec : c ≡ number (test_bit m) (16 * group_of P 2) 16) (ed : d ≡ number (test_bit m) (16 * group_of P 3) 16) where
    pub values_by : (x y z w : ℕ) → x ≡ in_columns a ys → y ≡ in_columns b ys → z ≡ in_columns c ys → w ≡ in_columns d ys
        → x + y * 16 + z * 256 + w * 4096 ≡ number (λ j. test_bit m (facts P ys j)) 0 16
    unfolding value
    values_by x y z w ex ey ez ew =
        omega (
          arith,
          ex ∙ group_values 0 0 a (omega arith) refl ea,
          ey ∙ group_values 1 4 b (omega arith) refl eb,
          ez ∙ group_values 2 8 c (omega arith) refl ec,
          ew ∙ group_values 3 12 d (omega arith) refl ed,
          number_cut value 0 4 12,
          number_cut value 4 4 8,
          number_cut value 8 4 4,
        )

    -- where no fact of the groups holds
    pub values_none : bit_or (bit_or (bit_or a b) c) d ≡ 0 → 0 ≡ number (λ j. test_bit m (facts P ys j)) 0 16
    values_none none =
        let all : ℕ = column_set ys 15 in
        let e : bit_and (bit_or (bit_or (bit_or a b) c) d) all ≡ 0 = rw none (omega (arith, and_le_l 0 all)) in
        let clear = groups_clear_by m P ys small a b c d all ea eb ec ed refl e in
        sym (number_none _ 0 16 (λ j l. ap (λ (i : ℕ). test_bit m (facts P ys i)) (zero-add j) ∙ clear j l))

module _ (m : List ℕ) (P : Placement) (a b c d : ℕ)
    (ea : a ≡ number (test_bit m) (16 * group_of P 0) 16) (eb : b ≡ number (test_bit m) (16 * group_of P 1) 16)
    (ec : c ≡ number (test_bit m) (16 * group_of P 2) 16) (ed : d ≡ number (test_bit m) (16 * group_of P 3) 16) where
  pub values_alone_by : (x y z w : ℕ) → x ≡ digit (bit_of a 0) → y ≡ digit (bit_of b 0) → z ≡ digit (bit_of c 0) → w ≡ digit (bit_of d 0)
      → (x + y * 16 + z * 256 + w * 4096) * 15 ≡ number (λ j. test_bit m (facts P unused j)) 0 16
  values_alone_by x y z w ex ey ez ew =
      omega (
        arith,
        values_by m P unused unused_small a b c d ea eb ec ed (x * 15) (y * 15) (z * 15) (w * 15)
            (alone_columns a x ex) (alone_columns b y ey) (alone_columns c z ez) (alone_columns d w ew),
      )
