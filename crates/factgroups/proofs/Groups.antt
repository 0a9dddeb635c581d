-- Groups and columns of four parameters: what the table has for a set of them, and an unused place.
use Prim.Native.Nat.{ℕ, zero, suc, ◌+◌, ◌%◌, ◌^◌, ◌≤◌, ◌<◌}
use native.Mathlib.Nat.{zero-add, add-zero}
use native.Mathlib.Decide.{dec_lt}
use native.Mathlib.Omega.{arith}
use mathlib.Core.Path.{◌≡◌, refl, sym, ap, ◌∙◌}
use mathlib.Core.Bool.{Bool, true, false, cond, ◌&&◌, ◌||◌}
use mathlib.Core.List.{List, [], ◌∷◌}
use lib.Bits.{bit_or}
use lib.Dec.{eqb, leb, lit<}
use lib.ListN.{get_or, get_or-eq_default}
use lib.Pow.{pow-lt}
use borrow.Author.Tests.{le-leb, lt-leb, eq-eqb, eqb-true}
use Rattle.truth.specs.Bools.{clash, is_false, bool_eq, and_in, and_out}
use Rattle.mask.specs.Bits.{bit_of}
use Rattle.mask.proofs.Numbers.{bit_or_lem, bit_power, bit_none, bits_ext, number_lt}
use Rattle.quantify.specs.Quantify.{below}
use Rattle.quantify.proofs.Quantify.{below_in, below_out, below_same}
use Rattle.factgroups.specs.Groups.{StartsRelation, Indices, unused, in_place, column_set, Tabled, Tables, table_at, groups_from, placement_of, Within}
use Rattle.atoms.proofs.Words.{number_same}
use Rattle.factgroups.proofs.Words.{number_or, bit_from}
use Rattle.factgroups.proofs.Tests.{below_or}

-- ---- an unused place
pub unused_at : (q : ℕ) → get_or unused q 0 ≡ 0
unused_at zero = refl
unused_at (suc zero) = refl
unused_at (suc (suc zero)) = refl
unused_at (suc (suc (suc zero))) = refl
unused_at (suc (suc (suc (suc q)))) = refl

pub unused_small : Indices unused
unused_small q = omega (arith, unused_at q)

-- ---- the columns of a set of parameters
module _ (ys : List ℕ) where
  pub columns_bit : (k y : ℕ) → y < 16 → bit_of (column_set ys k) y ≡ below 4 (λ q. bit_of k q && eqb (get_or ys q 0) y)
  unfolding column_set
  columns_bit k y h = bit_from _ 16 y h

  pub columns_lt : (k : ℕ) → column_set ys k < 65536
  unfolding column_set
  columns_lt k = number_lt _ 0 16

  -- a number of sixteen bits that has the columns of a set
  is_columns : (k w : ℕ) → w < 65536 → ((y : ℕ) → bit_of w y ≡ below 4 (λ q. bit_of k q && eqb (get_or ys q 0) y)) → w ≡ column_set ys k
  is_columns k w h e = bits_ext 16 w (column_set ys k) h (columns_lt k) (λ y l. e y ∙ sym (columns_bit k y l))

  columns_none : 0 ≡ column_set ys 0
  columns_none = is_columns 0 0 (lit< tt) (λ y. bit_none y ∙ sym (is_false _ (λ t. let (q, l, g) = below_out 4 _ t in clash (bit_of 0 q) (and_out _ _ g).0 (bit_none q))))

  columns_one : (q w : ℕ) → q < 4 → get_or ys q 0 < 16 → w ≡ 2 ^ get_or ys q 0 → w ≡ column_set ys (2 ^ q)
  columns_one q w l h e =
      rw e
      (is_columns (2 ^ q) (2 ^ get_or ys q 0) (pow-lt {j = 16} h)
      (λ y. bit_power (get_or ys q 0) y ∙ bool_eq _ _
      (λ t. below_in 4 _ q l (and_in _ _ (bit_power q q ∙ eq-eqb q q refl) t))
      (λ t.
      let (i, m, g) = below_out 4 _ t in
      let (on, same) = and_out _ _ g in
      rw (eqb-true q i (sym (bit_power q i) ∙ on)) same)))

  columns_or : (k l v w : ℕ) → v ≡ column_set ys k → w ≡ column_set ys l → bit_or v w ≡ column_set ys (bit_or k l)
  unfolding column_set
  columns_or k l v w e f =
      rw (e, f)
      (number_or _ _ 0 16 ∙ number_same _ _ 0 0 16 (λ y h. sym (below_or 4 _ _) ∙ below_same 4 _ _ (λ q. both (bit_of k q) (bit_of l q) (eqb (get_or ys q 0) (0 + y)) ∙ ap (λ (t : Bool). t && eqb (get_or ys q 0) (0 + y)) (sym (bit_or_lem k l q)))))
    where
      both : (a b c : Bool) → (a && c || b && c) ≡ ((a || b) && c)
      both true true true = refl
      both true true false = refl
      both true false true = refl
      both true false false = refl
      both false b c = refl

  -- the table of all sets, from the columns of the four parameters
  module _ (small : Indices ys) (a b c d : ℕ) (ea : a ≡ 2 ^ get_or ys 0 0) (eb : b ≡ 2 ^ get_or ys 1 0) (ec : c ≡ 2 ^ get_or ys 2 0) (ed : d ≡ 2 ^ get_or ys 3 0)
      (rest : List ℕ) where
    abbrev table : List ℕ
    table =
        0 ∷ a ∷ b ∷ bit_or a b ∷ c ∷ bit_or a c ∷ bit_or b c ∷ bit_or (bit_or a b) c ∷ d ∷ bit_or a d ∷ bit_or b d ∷ bit_or (bit_or a b) d
        ∷ bit_or c d ∷ bit_or a (bit_or c d) ∷ bit_or b (bit_or c d) ∷ bit_or (bit_or a b) (bit_or c d) ∷ rest

    is_a : a ≡ column_set ys 1
    is_a = columns_one 0 a (lit< tt) (small 0) ea

    is_b : b ≡ column_set ys 2
    is_b = columns_one 1 b (lit< tt) (small 1) eb

    is_c : c ≡ column_set ys 4
    is_c = columns_one 2 c (lit< tt) (small 2) ec

    is_d : d ≡ column_set ys 8
    is_d = columns_one 3 d (lit< tt) (small 3) ed

    is_ab : bit_or a b ≡ column_set ys 3
    is_ab = columns_or 1 2 a b is_a is_b

    is_cd : bit_or c d ≡ column_set ys 12
    is_cd = columns_or 4 8 c d is_c is_d

    tabled_at : (k : ℕ) → k < 16 → get_or table k 0 ≡ column_set ys k
    tabled_at zero h = columns_none
    tabled_at (suc zero) h = is_a
    tabled_at (suc (suc zero)) h = is_b
    tabled_at (suc (suc (suc zero))) h = is_ab
    tabled_at (suc (suc (suc (suc zero)))) h = is_c
    tabled_at (suc (suc (suc (suc (suc zero))))) h = columns_or 1 4 a c is_a is_c
    tabled_at (suc (suc (suc (suc (suc (suc zero)))))) h = columns_or 2 4 b c is_b is_c
    tabled_at (suc (suc (suc (suc (suc (suc (suc zero))))))) h = columns_or 3 4 _ c is_ab is_c
    tabled_at (suc (suc (suc (suc (suc (suc (suc (suc zero)))))))) h = is_d
    tabled_at (suc (suc (suc (suc (suc (suc (suc (suc (suc zero))))))))) h = columns_or 1 8 a d is_a is_d
    tabled_at (suc (suc (suc (suc (suc (suc (suc (suc (suc (suc zero)))))))))) h = columns_or 2 8 b d is_b is_d
    tabled_at (suc (suc (suc (suc (suc (suc (suc (suc (suc (suc (suc zero))))))))))) h = columns_or 3 8 _ d is_ab is_d
    tabled_at (suc (suc (suc (suc (suc (suc (suc (suc (suc (suc (suc (suc zero)))))))))))) h = is_cd
    tabled_at (suc (suc (suc (suc (suc (suc (suc (suc (suc (suc (suc (suc (suc zero))))))))))))) h = columns_or 1 12 a _ is_a is_cd
    tabled_at (suc (suc (suc (suc (suc (suc (suc (suc (suc (suc (suc (suc (suc (suc zero)))))))))))))) h = columns_or 2 12 b _ is_b is_cd
    tabled_at (suc (suc (suc (suc (suc (suc (suc (suc (suc (suc (suc (suc (suc (suc (suc zero))))))))))))))) h = columns_or 3 12 _ _ is_ab is_cd
    tabled_at (suc (suc (suc (suc (suc (suc (suc (suc (suc (suc (suc (suc (suc (suc (suc (suc k)))))))))))))))) h = absurd (omega arith)

pub tables_by : (ys : List ℕ) (small : Indices ys) (a b c d : ℕ) (ea : a ≡ 2 ^ get_or ys 0 0) (eb : b ≡ 2 ^ get_or ys 1 0) (ec : c ≡ 2 ^ get_or ys 2 0) (ed : d ≡ 2 ^ get_or ys 3 0)
    → Tables (table ys small a b c d ea eb ec ed (0 ∷ 1 ∷ 1 ∷ 1 ∷ 1 ∷ 1 ∷ 1 ∷ 1 ∷ 1 ∷ 1 ∷ 1 ∷ 1 ∷ 1 ∷ 1 ∷ 1 ∷ 1 ∷ [])) ys
tables_by ys small a b c d ea eb ec ed =
    record {
      used = λ k h. rw (zero-add k) (tabled_at ys small a b c d ea eb ec ed (0 ∷ 1 ∷ 1 ∷ 1 ∷ 1 ∷ 1 ∷ 1 ∷ 1 ∷ 1 ∷ 1 ∷ 1 ∷ 1 ∷ 1 ∷ 1 ∷ 1 ∷ 1 ∷ []) k h);
      none = λ k h.
          let e : 16 + k ≡ suc (suc (suc (suc (suc (suc (suc (suc (suc (suc (suc (suc (suc (suc (suc (suc k))))))))))))))) = omega arith in
          rw e (tabled_at unused unused_small 1 1 1 1 refl refl refl refl [] k h);
    }

-- ---- a relation's places
pub starts : (n : ℕ) → n % 16 ≡ 0 → n < 256 → StartsRelation n
starts n e h = record { whole = e; within = omega arith }

pub place_small : (places i : ℕ) (xs : List ℕ) → Indices xs → Indices (in_place places i xs)
unfolding in_place
place_small places i xs small = go (leb i places)
  where
    go : (b : Bool) → Indices (cond b xs unused)
    go true = small
    go false = unused_small

-- the group of one of the four
pub group_at : (n : ℕ) (xs : List ℕ) (q : ℕ) → q < 4 → get_or (groups_from n xs) q 0 ≡ n + get_or xs q 0
unfolding groups_from
group_at n xs zero h = refl
group_at n xs (suc zero) h = refl
group_at n xs (suc (suc zero)) h = refl
group_at n xs (suc (suc (suc zero))) h = refl
group_at n xs (suc (suc (suc (suc q)))) h = absurd (omega arith)

-- where the bound facts of a relation with so many places stand
module _ (places n : ℕ) (xs : List ℕ) (first : StartsRelation n) (small : Indices xs) where
  placement_by : (groups : List ℕ) (at : ℕ) → groups ≡ groups_from n (in_place places 1 xs) → at ≡ table_at places → at ≤ 16
      → ((record { groups = groups; at = at }) ≡ placement_of places xs n) × Within (record { groups = groups; at = at })
  unfolding placement_of groups_from
  placement_by groups at e f near = (rw (e, f), record { groups = λ q. rw e (go q (dec_lt q 4)); at = near })
    where
      go : (q : ℕ) → Dec (q < 4) → get_or (groups_from n (in_place places 1 xs)) q 0 < 256
      go q (yes h) = omega (arith, group_at n (in_place places 1 xs) q h, first.within, place_small places 1 xs small q)
      go q (no h) = omega (arith, get_or-eq_default (groups_from n (in_place places 1 xs)) 0 {n = q} (omega arith))

  pub placement_none : places < 1 → ((record { groups = n ∷ n ∷ n ∷ n ∷ []; at = 16 }) ≡ placement_of places xs n) × Within (record { groups = n ∷ n ∷ n ∷ n ∷ []; at = 16 })
  unfolding in_place groups_from table_at
  placement_none h = placement_by _ 16 (rw (lt-leb 1 places h, add-zero n)) (rw (lt-leb 2 places (omega arith))) (omega arith)

  pub placement_some : (groups : List ℕ) (at : ℕ) → groups ≡ groups_from n xs → 1 ≤ places → at ≡ table_at places → at ≤ 16
      → ((record { groups = groups; at = at }) ≡ placement_of places xs n) × Within (record { groups = groups; at = at })
  unfolding in_place
  placement_some groups at e h f near = placement_by groups at (e ∙ rw (le-leb 1 places h)) f near

pub table_one : (places : ℕ) → places < 2 → 16 ≡ table_at places
unfolding table_at
table_one places h = rw (lt-leb 2 places h)

pub table_two : (places : ℕ) → 2 ≤ places → 0 ≡ table_at places
unfolding table_at
table_two places h = rw (le-leb 2 places h)

-- the table has the columns of a relation where its places say
pub table_place : (places : ℕ) (t ys : List ℕ) → Tables t ys → Tabled t (table_at places) (in_place places 2 ys)
unfolding in_place table_at
table_place places t ys right = go (leb 2 places)
  where
    go : (b : Bool) → Tabled t (cond b 0 16) (cond b ys unused)
    go true = right.used
    go false = right.none
