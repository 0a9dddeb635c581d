-- The effects of a step on a state, group by group: a value put at the facts of a group and of a relation's four groups.
use Prim.Native.Nat.{ℕ, ◌+◌, ◌-◌, ◌*◌, ◌/◌, ◌%◌, ◌<◌}
use native.Mathlib.Decide.{ℕ_discrete, dec_lt}
use native.Mathlib.Omega.{arith}
use mathlib.Core.Path.{◌≡◌, refl, sym, ap, ◌∙◌}
use mathlib.Core.Bool.{Bool, true, false, cond, not, ◌&&◌, ◌||◌}
use mathlib.Core.List.{List}
use lib.Bits.{bit_and, bit_or}
use lib.Dec.{eqb}
use lib.ListN.{length, get_or, set, length-set}
use lib.Seq.{get_or-set_same, get_or-set_other}
use borrow.Author.Tests.{eq-eqb, ne_eqb, eqb-true}
use Rattle.truth.specs.Bools.{bool_eq, and_in, and_out}
use Rattle.mask.specs.Bits.{bit_of, test_bit, Bytes}
use Rattle.mask.specs.Sets.{number, mask_of}
use Rattle.mask.proofs.Numbers.{bit_number, number_lt}
use Rattle.mask.proofs.Bytes.{bytes_stored}
use Rattle.mask.proofs.Whole.{length_mask_of, test_mask_of, is_mask_of, mask_of_same}
use Rattle.atoms.proofs.Words.{bit_high, number_same}
use Rattle.quantify.specs.Quantify.{below}
use Rattle.quantify.proofs.Quantify.{below_in, below_out}
use Rattle.factgroups.specs.declared.Placement.{Placement}
use Rattle.factgroups.specs.Groups.{Indices, group_of, facts, column_set, changed, put_at, in_group, in_word}
use Rattle.factgroups.proofs.Words.{number_and, number_or, number_not, number_bits, bit_from, bit_low, Part, part_low, part_field}
use Rattle.factgroups.proofs.Tests.{below_fours}
use Rattle.factgroups.proofs.Groups.{columns_bit}

-- ---- a group
put_or : (a b : Bool) → (a || b) ≡ cond b true a
put_or true true = refl
put_or true false = refl
put_or false true = refl
put_or false false = refl

put_not : (a b : Bool) → (a && not b) ≡ cond b false a
put_not true true = refl
put_not true false = refl
put_not false true = refl
put_not false false = refl

words_added : (a b : ℕ) (p q : ℕ → Bool) → a ≡ number p 0 16 → b ≡ number q 0 16 → bit_or a b ≡ number (λ y. cond (q y) true (p y)) 0 16
words_added a b p q e f = rw (e, f) (number_or p q 0 16 ∙ number_same _ _ 0 0 16 (λ y h. put_or (p (0 + y)) (q (0 + y))))

words_removed : (a b : ℕ) (p q : ℕ → Bool) → a ≡ number p 0 16 → b ≡ number q 0 16 → bit_and a (65535 - b) ≡ number (λ y. cond (q y) false (p y)) 0 16
words_removed a b p q e f =
    rw (e, f, number_not q 0 16) (number_and p (λ y. not (q y)) 0 16 ∙ number_same _ _ 0 0 16 (λ y h. put_not (p (0 + y)) (q (0 + y))))

pub changed_added : (group columns : ℕ) → group < 65536 → columns < 65536 → bit_or group columns ≡ changed true group columns
unfolding changed
changed_added group columns h k = words_added group columns (bit_of group) (bit_of columns) (number_bits 16 group h) (number_bits 16 columns k)

pub changed_removed : (group columns : ℕ) → group < 65536 → columns < 65536 → bit_and group (65535 - columns) ≡ changed false group columns
unfolding changed
changed_removed group columns h k = words_removed group columns (bit_of group) (bit_of columns) (number_bits 16 group h) (number_bits 16 columns k)

-- the two bytes of a group stored
module _ (m : List ℕ) (group bits : ℕ) (len : length m ≡ 512) (fits : Bytes m) (h : group < 256) (small : bits < 65536) where
  abbrev stored : List ℕ
  stored = set (set m (2 * group) (bits % 256)) (2 * group + 1) (bits / 256)

  test_group : (f : ℕ) → test_bit stored f ≡ cond (eqb (f / 16) group) (bit_of bits (f % 16)) (test_bit m f)
  unfolding test_bit
  test_group f = go (ℕ_discrete (f / 16) group) (dec_lt (f % 16) 8)
    where
      go : Dec (f / 16 ≡ group) → Dec (f % 16 < 8)
          → bit_of (get_or stored (f / 8) 0) (f % 8) ≡ cond (eqb (f / 16) group) (bit_of bits (f % 16)) (bit_of (get_or m (f / 8) 0) (f % 8))
      go (yes e) (yes l) =
          let i : f / 8 ≡ 2 * group = omega arith in
          let r : f % 8 ≡ f % 16 = omega arith in
          let other : f / 8 ≡ 2 * group + 1 → ⊥ = λ x. omega arith in
          let k : 2 * group < length m = omega arith in
          rw (get_or-set_other (set m (2 * group) (bits % 256)) (2 * group + 1) (f / 8) (bits / 256) 0 other, i, get_or-set_same m (2 * group) (bits % 256) 0 k, eq-eqb (f / 16) group e, r)
          (bit_low bits 8 (f % 16) l)
      go (yes e) (no l) =
          let i : f / 8 ≡ 2 * group + 1 = omega arith in
          let r : f % 16 ≡ 8 + f % 8 = omega arith in
          let k : 2 * group + 1 < length (set m (2 * group) (bits % 256)) = omega (arith, length-set m (2 * group) (bits % 256)) in
          rw (i, get_or-set_same (set m (2 * group) (bits % 256)) (2 * group + 1) (bits / 256) 0 k, eq-eqb (f / 16) group e, r)
          (bit_high bits 8 (f % 8))
      go (no d) l =
          let one : f / 8 ≡ 2 * group + 1 → ⊥ = λ x. d (omega arith) in
          let two : f / 8 ≡ 2 * group → ⊥ = λ x. d (omega arith) in
          rw (get_or-set_other (set m (2 * group) (bits % 256)) (2 * group + 1) (f / 8) (bits / 256) 0 one, get_or-set_other m (2 * group) (f / 8) (bits % 256) 0 two, ne_eqb (f / 16) group d)

  stored_mask : stored ≡ mask_of 512 (λ f. cond (eqb (f / 16) group) (bit_of bits (f % 16)) (test_bit m f))
  stored_mask =
      is_mask_of stored 512 _ (length-set (set m (2 * group) (bits % 256)) (2 * group + 1) (bits / 256) ∙ length-set m (2 * group) (bits % 256) ∙ len)
      (bytes_stored (set m (2 * group) (bits % 256)) (2 * group + 1) (bits / 256) (bytes_stored m (2 * group) (bits % 256) fits (omega arith)) (omega arith))
      (λ f l. test_group f)

pub put_group_by : (m : List ℕ) (value : Bool) (group in' columns held bits : ℕ) → group ≡ in' → group < 256 → length m ≡ 512 → Bytes m
    → held ≡ number (test_bit m) (8 * (2 * group)) 16 → bits ≡ changed value held columns
    → set (set m (2 * group) (bits % 256)) (2 * group + 1) (bits / 256) ≡ put_at value (in_group in' columns) m
unfolding put_at in_group changed
put_group_by m value group in' columns held bits here h len fits e c =
    let small : bits < 65536 = rw c (number_lt _ 0 16) in
    rw (← here) (stored_mask m group bits len fits h small ∙ mask_of_same 512 _ _ (λ f l. go f (ℕ_discrete (f / 16) group)))
  where
    go : (f : ℕ) → Dec (f / 16 ≡ group)
        → cond (eqb (f / 16) group) (bit_of bits (f % 16)) (test_bit m f) ≡ cond (eqb (f / 16) group && bit_of columns (f % 16)) value (test_bit m f)
    go f (yes q) =
        let l : f % 16 < 16 = omega arith in
        let at : 8 * (2 * group) + f % 16 ≡ f = omega arith in
        let was : bit_of held (f % 16) ≡ test_bit m f = ap (λ (w : ℕ). bit_of w (f % 16)) e ∙ bit_number (test_bit m) (8 * (2 * group)) 16 (f % 16) l ∙ ap (test_bit m) at in
        rw (eq-eqb (f / 16) group q, c) (bit_from _ 16 (f % 16) l ∙ ap (cond (bit_of columns (f % 16)) value) was)
    go f (no d) = rw (ne_eqb (f / 16) group d)

-- ---- values put one after the other
module _ (value : Bool) where
  twice : (x y z : Bool) → cond y value (cond x value z) ≡ cond (x || y) value z
  twice true true z = refl
  twice true false z = refl
  twice false y z = refl

  put_twice : (p q : ℕ → Bool) (m : List ℕ) → put_at value q (put_at value p m) ≡ put_at value (λ f. p f || q f) m
  unfolding put_at
  put_twice p q m =
      mask_of_same 512 _ _ (λ f l. ap (cond (q f) value) (test_mask_of 512 _ f l) ∙ twice (p f) (q f) (test_bit m f))

  put_same : (p q : ℕ → Bool) (m : List ℕ) → ((f : ℕ) → p f ≡ q f) → put_at value p m ≡ put_at value q m
  unfolding put_at
  put_same p q m e = mask_of_same 512 _ _ (λ f l. ap (λ (t : Bool). cond t value (test_bit m f)) (e f))

  pub put_none : (p : ℕ → Bool) (m : List ℕ) → ((f : ℕ) → p f ≡ false) → m ≡ mask_of 512 (test_bit m) → m ≡ put_at value p m
  unfolding put_at
  put_none p m none e = e ∙ mask_of_same 512 _ _ (λ f l. sym (ap (λ (t : Bool). cond t value (test_bit m f)) (none f)))

  pub put_mask : (p : ℕ → Bool) (m : List ℕ) → put_at value p m ≡ mask_of 512 (test_bit (put_at value p m))
  unfolding put_at
  put_mask p m = mask_of_same 512 _ _ (λ f l. sym (test_mask_of 512 _ f l))

pub put_length : (value : Bool) (p : ℕ → Bool) (m new : List ℕ) → new ≡ put_at value p m → length new ≡ 512
unfolding put_at
put_length value p m new e = ap length e ∙ length_mask_of 512 _

-- ---- the four groups of a relation
module _ (P : Placement) (ys : List ℕ) (small : Indices ys) (bits f : ℕ) where
  unfoldable hit : ℕ → Bool
  hit j = bit_of bits j && eqb (facts P ys j) f

  group_hits : (p s k : ℕ) → p < 4 → s ≡ 4 * p → Part bits s k → in_group (group_of P p) (column_set ys k) f ≡ below 4 (λ q. hit (s + q))
  unfolding in_group hit facts
  group_hits p s k h e part =
      rw (columns_bit ys k (f % 16) (omega arith))
      (bool_eq _ _
      (λ t.
      let (here, some) = and_out (eqb (f / 16) (group_of P p)) _ t in
      let (q, l, g) = below_out 4 _ some in
      let (on, same) = and_out (bit_of k q) (eqb (get_or ys q 0) (f % 16)) g in
      let fact : 16 * group_of P p + get_or ys q 0 ≡ f = omega (arith, eqb-true (f / 16) (group_of P p) here, eqb-true (get_or ys q 0) (f % 16) same) in
      below_in 4 (λ i. hit (s + i)) q l (and_in (bit_of bits (s + q)) _ (sym (part q l) ∙ on) (eq-eqb (facts P ys (s + q)) f (at q l ∙ fact))))
      (λ t.
      let (q, l, g) = below_out 4 (λ i. hit (s + i)) t in
      let (on, same) = and_out (bit_of bits (s + q)) (eqb (facts P ys (s + q)) f) g in
      let fact : 16 * group_of P p + get_or ys q 0 ≡ f = sym (at q l) ∙ eqb-true (facts P ys (s + q)) f same in
      let here : f / 16 ≡ group_of P p = omega (arith, small q) in
      let same' : get_or ys q 0 ≡ f % 16 = omega (arith, small q) in
      and_in (eqb (f / 16) (group_of P p)) _ (eq-eqb (f / 16) (group_of P p) here)
      (below_in 4 (λ i. bit_of k i && eqb (get_or ys i 0) (f % 16)) q l (and_in (bit_of k q) _ (part q l ∙ on) (eq-eqb (get_or ys q 0) (f % 16) same')))))
    where
      at : (q : ℕ) → q < 4 → facts P ys (s + q) ≡ 16 * group_of P p + get_or ys q 0
      at q l =
          let i : (s + q) / 4 ≡ p = omega arith in
          let j : (s + q) % 4 ≡ q = omega arith in
          rw (i, j)

  groups_hit : (in_group (group_of P 0) (column_set ys (bits % 16)) f || in_group (group_of P 1) (column_set ys (bits / 16 % 16)) f
      || in_group (group_of P 2) (column_set ys (bits / 256 % 16)) f || in_group (group_of P 3) (column_set ys (bits / 4096 % 16)) f)
      ≡ in_word (facts P ys) bits f
  unfolding in_word hit
  groups_hit =
      below_fours hit _ _ _ _
      (group_hits 0 0 _ (omega arith) (omega arith) (part_low bits))
      (group_hits 1 4 _ (omega arith) (omega arith) (part_field bits 4))
      (group_hits 2 8 _ (omega arith) (omega arith) (part_field bits 8))
      (group_hits 3 12 _ (omega arith) (omega arith) (part_field bits 12))

module _ (value : Bool) (P : Placement) (ys : List ℕ) (small : Indices ys) (bits : ℕ) (c0 c1 c2 c3 : ℕ)
    (e0 : c0 ≡ column_set ys (bits % 16)) (e1 : c1 ≡ column_set ys (bits / 16 % 16)) (e2 : c2 ≡ column_set ys (bits / 256 % 16))
    (e3 : c3 ≡ column_set ys (bits / 4096 % 16)) where
  pub put_groups_by : (m m0 m1 m2 m3 : List ℕ)
      → m0 ≡ put_at value (in_group (group_of P 0) c0) m → m1 ≡ put_at value (in_group (group_of P 1) c1) m0
      → m2 ≡ put_at value (in_group (group_of P 2) c2) m1 → m3 ≡ put_at value (in_group (group_of P 3) c3) m2
      → m3 ≡ put_at value (in_word (facts P ys) bits) m
  put_groups_by m m0 m1 m2 m3 p0 p1 p2 p3 =
      let r0 : ℕ → Bool = in_group (group_of P 0) c0 in
      let r1 : ℕ → Bool = in_group (group_of P 1) c1 in
      let r2 : ℕ → Bool = in_group (group_of P 2) c2 in
      let r3 : ℕ → Bool = in_group (group_of P 3) c3 in
      let q1 : m1 ≡ put_at value (λ f. r0 f || r1 f) m = p1 ∙ ap (put_at value r1) p0 ∙ put_twice value r0 r1 m in
      let q2 : m2 ≡ put_at value (λ f. r0 f || r1 f || r2 f) m = p2 ∙ ap (put_at value r2) q1 ∙ put_twice value (λ f. r0 f || r1 f) r2 m in
      p3 ∙ ap (put_at value r3) q2 ∙ put_twice value (λ f. r0 f || r1 f || r2 f) r3 m
      ∙ put_same value _ _ m (λ f. rw (e0, e1, e2, e3) (groups_hit P ys small bits f))
