-- Needs by groups of a state: those of a group and of a relation's four groups from words of bits.
use Prim.Native.Nat.{ℕ, zero, suc, ◌+◌, ◌-◌, ◌*◌, ◌/◌, ◌%◌, ◌<◌}
use native.Mathlib.Nat.{zero-add}
use native.Mathlib.Omega.{arith}
use mathlib.Core.Path.{◌≡◌, refl, sym, ap, ap₂, ◌∙◌}
use mathlib.Core.Bool.{Bool, true, false, not, ◌&&◌, ◌||◌}
use mathlib.Core.List.{List}
use lib.Bits.{bit_and, bit_or}
use lib.Dec.{eqb}
use lib.ListN.{get_or}
use borrow.Author.Tests.{eq-eqb}
use Rattle.truth.specs.Bools.{clash, is_false, neither, and_in}
use Rattle.mask.specs.Bits.{bit_of, test_bit}
use Rattle.mask.specs.Sets.{number}
use Rattle.mask.proofs.Numbers.{bit_and_lem, bit_or_lem, bit_none, bit_number}
use Rattle.quantify.specs.Quantify.{below}
use Rattle.quantify.proofs.Quantify.{below_in, below_out, below_cong, below_same}
use Rattle.factgroups.specs.declared.Placement.{Placement}
use Rattle.factgroups.specs.Groups.{Indices, group_of, facts, column_set, Clear, group_unmet, word_unmet}
use Rattle.factgroups.proofs.Words.{number_and, number_or, number_not, number_some, number_bits, number_from, Part, part_low, part_field}
use Rattle.factgroups.proofs.Tests.{below_fours, below_or, below_image}
use Rattle.factgroups.proofs.Groups.{columns_bit}

-- ---- a group
-- needs and what holds as words of sixteen bits
words_unmet : (a b c : ℕ) (p q h : ℕ → Bool) → a ≡ number p 0 16 → b ≡ number q 0 16 → c ≡ number h 0 16
    → not (eqb (bit_or (bit_and a (65535 - c)) (bit_and b c)) 0) ≡ below 16 (λ y. p y && not (h y) || q y && h y)
words_unmet a b c p q h ea eb ec =
    rw (ea, eb, ec, number_not h 0 16, number_and p (λ k. not (h k)) 0 16, number_and q h 0 16)
    (ap (λ (w : ℕ). not (eqb w 0)) (number_or (λ k. p k && not (h k)) (λ k. q k && h k) 0 16) ∙ number_some _ 0 16
    ∙ below_same 16 _ _ (λ y. ap (λ (i : ℕ). p i && not (h i) || q i && h i) (zero-add y)))

pub group_unmet_by : (m : List ℕ) (group positive negative held : ℕ) → positive < 65536 → negative < 65536 → held ≡ number (test_bit m) (16 * group) 16
    → not (eqb (bit_or (bit_and positive (65535 - held)) (bit_and negative held)) 0) ≡ group_unmet m group positive negative
unfolding group_unmet
group_unmet_by m group positive negative held hp hn e =
    words_unmet positive negative held (bit_of positive) (bit_of negative) (λ y. test_bit m (16 * group + y)) (number_bits 16 positive hp)
    (number_bits 16 negative hn) (number_from (test_bit m) _ held (16 * group) 16 e (λ y l. refl))

-- ---- the four groups of a relation
module _ (m : List ℕ) (P : Placement) (ys : List ℕ) (small : Indices ys) (positive negative : ℕ) where
  unfoldable need : ℕ → Bool
  need j = bit_of positive j && not (test_bit m (facts P ys j)) || bit_of negative j && test_bit m (facts P ys j)

  group_needs : (p s k l : ℕ) → p < 4 → s ≡ 4 * p → Part positive s k → Part negative s l
      → group_unmet m (group_of P p) (column_set ys k) (column_set ys l) ≡ below 4 (λ q. need (s + q))
  unfolding group_unmet need facts
  group_needs p s k l h e f g =
      let held : ℕ → Bool = λ y. test_bit m (16 * group_of P p + y) in
      let column : ℕ → ℕ = λ q. get_or ys q 0 in
      below_cong 16 _ (λ y. below 4 (λ q. bit_of k q && eqb (column q) y) && not (held y) || below 4 (λ q. bit_of l q && eqb (column q) y) && held y)
      (λ y b. rw (columns_bit ys k y b, columns_bit ys l y b))
      ∙ below_or 16 (λ y. below 4 (λ q. bit_of k q && eqb (column q) y) && not (held y)) (λ y. below 4 (λ q. bit_of l q && eqb (column q) y) && held y)
      ∙ ap₂ (λ (a b : Bool). a || b) (below_image 16 4 column (bit_of k) (λ y. not (held y)) small) (below_image 16 4 column (bit_of l) held small)
      ∙ sym (below_or 4 (λ q. bit_of k q && not (held (column q))) (λ q. bit_of l q && held (column q)))
      ∙ below_cong 4 _ _
      (λ q b.
      let i : (s + q) / 4 ≡ p = omega arith in
      let j : (s + q) % 4 ≡ q = omega arith in
      rw (f q b, g q b, i, j))

  pub groups_unmet_by : (group_unmet m (group_of P 0) (column_set ys (positive % 16)) (column_set ys (negative % 16))
      || group_unmet m (group_of P 1) (column_set ys (positive / 16 % 16)) (column_set ys (negative / 16 % 16))
      || group_unmet m (group_of P 2) (column_set ys (positive / 256 % 16)) (column_set ys (negative / 256 % 16))
      || group_unmet m (group_of P 3) (column_set ys (positive / 4096 % 16)) (column_set ys (negative / 4096 % 16)))
      ≡ word_unmet m (facts P ys) positive negative
  unfolding word_unmet need
  groups_unmet_by =
      below_fours need _ _ _ _
      (group_needs 0 0 _ _ (omega arith) (omega arith) (part_low positive) (part_low negative))
      (group_needs 1 4 _ _ (omega arith) (omega arith) (part_field positive 4) (part_field negative 4))
      (group_needs 2 8 _ _ (omega arith) (omega arith) (part_field positive 8) (part_field negative 8))
      (group_needs 3 12 _ _ (omega arith) (omega arith) (part_field positive 12) (part_field negative 12))

-- ---- groups in which none of the facts holds
four_bits : (q : ℕ) → q < 4 → bit_of 15 q ≡ true
unfolding bit_of
four_bits zero h = refl
four_bits (suc zero) h = refl
four_bits (suc (suc zero)) h = refl
four_bits (suc (suc (suc zero))) h = refl
four_bits (suc (suc (suc (suc q)))) h = absurd (omega arith)

pub groups_clear_by : (m : List ℕ) (P : Placement) (ys : List ℕ) → Indices ys → (r0 r1 r2 r3 all : ℕ)
    → r0 ≡ number (test_bit m) (16 * group_of P 0) 16 → r1 ≡ number (test_bit m) (16 * group_of P 1) 16
    → r2 ≡ number (test_bit m) (16 * group_of P 2) 16 → r3 ≡ number (test_bit m) (16 * group_of P 3) 16
    → all ≡ column_set ys 15 → bit_and (bit_or (bit_or (bit_or r0 r1) r2) r3) all ≡ 0 → Clear m (facts P ys)
unfolding facts
groups_clear_by m P ys small r0 r1 r2 r3 all e0 e1 e2 e3 e none j h = group (j / 4) (omega arith)
  where
    y : ℕ
    y = get_or ys (j % 4) 0

    there : bit_of all y ≡ true
    there =
        rw e
        (columns_bit ys 15 y (small (j % 4))
        ∙ below_in 4 (λ q. bit_of 15 q && eqb (get_or ys q 0) y) (j % 4) (omega arith) (and_in (bit_of 15 (j % 4)) _ (four_bits (j % 4) (omega arith)) (eq-eqb y y refl)))

    off : bit_of (bit_or (bit_or (bit_or r0 r1) r2) r3) y ≡ false
    off =
        is_false _ (λ on. clash _ (and_in _ _ on there) (sym (bit_and_lem (bit_or (bit_or (bit_or r0 r1) r2) r3) all y) ∙ ap (λ (w : ℕ). bit_of w y) none ∙ bit_none y))

    low : (r p : ℕ) → r ≡ number (test_bit m) (16 * group_of P p) 16 → bit_of r y ≡ false → test_bit m (16 * group_of P p + y) ≡ false
    low r p f o = sym (bit_number (test_bit m) (16 * group_of P p) 16 y (small (j % 4))) ∙ ap (λ (w : ℕ). bit_of w y) (sym f) ∙ o

    group : (p : ℕ) → p < 4 → test_bit m (16 * group_of P p + y) ≡ false
    group p l =
        let (o, o3) = neither (bit_of (bit_or (bit_or r0 r1) r2) y) (bit_of r3 y) (sym (bit_or_lem _ r3 y) ∙ off) in
        let (o', o2) = neither (bit_of (bit_or r0 r1) y) (bit_of r2 y) (sym (bit_or_lem _ r2 y) ∙ o) in
        let (o0, o1) = neither (bit_of r0 y) (bit_of r1 y) (sym (bit_or_lem r0 r1 y) ∙ o') in
        at p l (low r0 0 e0 o0) (low r1 1 e1 o1) (low r2 2 e2 o2) (low r3 3 e3 o3)
      where
        at : (p : ℕ) → p < 4 → test_bit m (16 * group_of P 0 + y) ≡ false → test_bit m (16 * group_of P 1 + y) ≡ false
            → test_bit m (16 * group_of P 2 + y) ≡ false → test_bit m (16 * group_of P 3 + y) ≡ false → test_bit m (16 * group_of P p + y) ≡ false
        at zero l a b c d = a
        at (suc zero) l a b c d = b
        at (suc (suc zero)) l a b c d = c
        at (suc (suc (suc zero))) l a b c d = d
        at (suc (suc (suc (suc p)))) l a b c d = absurd (omega arith)

-- where none of the facts holds, a need is unmet exactly if one is to hold
pub clear_unmet : (m : List ℕ) (g : ℕ → ℕ) (positive negative : ℕ) → positive < 65536 → Clear m g → not (eqb positive 0) ≡ word_unmet m g positive negative
unfolding word_unmet
clear_unmet m g positive negative h clear =
    ap (λ (w : ℕ). not (eqb w 0)) (number_bits 16 positive h) ∙ number_some (bit_of positive) 0 16
    ∙ below_cong 16 _ _ (λ j l. ap (bit_of positive) (zero-add j) ∙ rw (clear j l) (alone (bit_of positive j) (bit_of negative j)))
  where
    alone : (a b : Bool) → a ≡ (a && not false || b && false)
    alone true b = refl
    alone false true = refl
    alone false false = refl

-- where none is needed
pub none_unmet : (m : List ℕ) (g : ℕ → ℕ) → word_unmet m g 0 0 ≡ false
unfolding word_unmet
none_unmet m g = is_false _ (λ t. let (j, h, some) = below_out 16 _ t in clash _ some (rw (bit_none j)))
