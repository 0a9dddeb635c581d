-- The rule sheet of rules, block by block and bit by bit: what its bits say.
use Prim.Native.Nat.{ℕ, zero, suc, ◌+◌, ◌-◌, ◌*◌, ◌≤◌, ◌<◌}
use mathlib.Core.Path.{◌≡◌, refl, sym, ap, ap₂, ◌∙◌}
use mathlib.Core.List.{List, [], ◌++◌, append_assoc, append-nil}
use native.Mathlib.Omega.{arith}
use lib.ListN.{length, take, drop, length-append}
use lib.Seq.{take_at, drop_at, drop-drop}
use Rattle.limits.specs.Limits.{set_size, rule_size}
use Rattle.mask.specs.Bits.{test_bit}
use Rattle.mask.specs.Sets.{mask_of}
use Rattle.mask.proofs.Whole.{length_mask_of, test_mask_of, mask_of_same}
use Rattle.mask.proofs.Joined.{test_left, test_right}
use Rattle.model.specs.Learned.{Rules}
use Rattle.model.specs.Alike.{SameRules}
use Rattle.format.specs.Form.{Form}
use Rattle.jobs.specs.Planning.{schema_of}
use Rattle.jobs.specs.Learn.{rule_block, rule_blocks, rules_from, rule_sheet}
use Rattle.jobs.specs.SheetBits.{needed_set, needed_not_set, added_set, removed_set, sheet_bit, sheet_set, rules_on}

module _ (R : Rules) where
  pub length_block : (a : ℕ) → length (rule_block R a) ≡ rule_size
  unfolding rule_block
  length_block a =
      simp (length-append, length_mask_of)

  pub length_blocks : (n a : ℕ) → length (rule_blocks R n a) ≡ rule_size * n
  unfolding rule_blocks
  length_blocks zero a = refl
  length_blocks (suc n) a =
      omega (arith, length-append (rule_block R a) (rule_blocks R n (suc a)), length_block a, length_blocks n (suc a))

  -- from a move on: its block, and what follows
  block_on : (n a i : ℕ) → i < n → (rest : List ℕ) × (drop (rule_size * i) (rule_blocks R n a) ≡ rule_block R (a + i) ++ rest)
  unfolding rule_blocks
  block_on zero a i h = absurd (omega arith)
  block_on (suc n) a zero h =
      let e : a ≡ a + 0 = omega arith in
      (rule_blocks R n (suc a), ap (λ (k : ℕ). rule_block R k ++ rule_blocks R n (suc a)) e)
  block_on (suc n) a (suc i) h =
      let e : suc a + i ≡ a + suc i = omega arith in
      let d : rule_size * suc i ≡ rule_size + rule_size * i = omega arith in
      let (rest, f) = block_on n (suc a) i (omega arith) in (
        rest,
        ap (λ (k : ℕ). drop k (rule_block R a ++ rule_blocks R n (suc a))) d
            ∙ sym (drop-drop (rule_size * i) rule_size (rule_block R a ++ rule_blocks R n (suc a)))
            ∙ ap (drop (rule_size * i)) (drop_at (rule_block R a) (rule_blocks R n (suc a)) rule_size (length_block a))
            ∙ f
            ∙ ap (λ (k : ℕ). rule_block R k ++ rest) e,
      )

  -- the 128 bytes of a move
  pub block_part : (n a i : ℕ) → i < n → take rule_size (drop (rule_size * i) (rule_blocks R n a)) ≡ rule_block R (a + i)
  block_part n a i h =
      let (rest, e) = block_on n a i h in
      ap (take rule_size) e ∙ take_at (rule_block R (a + i)) rest rule_size (length_block (a + i))

  -- a bit of the sheet is that of the move's block
  sheet_bit_lem : (n a i j : ℕ) → i < n → j < 1024 → test_bit (rule_blocks R n a) (1024 * i + j) ≡ test_bit (rule_block R (a + i)) j
  unfolding rule_blocks
  sheet_bit_lem zero a i j h l = absurd (omega arith)
  sheet_bit_lem (suc n) a zero j h l =
      let e : a ≡ a + 0 = omega arith in
      let z : 1024 * 0 + j ≡ j = omega arith in
      ap (test_bit (rule_block R a ++ rule_blocks R n (suc a))) z
      ∙ test_left (rule_block R a) (rule_blocks R n (suc a)) j (omega (arith, length_block a))
      ∙ ap (λ (k : ℕ). test_bit (rule_block R k) j) e
  sheet_bit_lem (suc n) a (suc i) j h l =
      let e : suc a + i ≡ a + suc i = omega arith in
      let z : 1024 * suc i + j ≡ 1024 + (1024 * i + j) = omega arith in
      ap (test_bit (rule_block R a ++ rule_blocks R n (suc a))) z
      ∙ test_right (rule_block R a) (rule_blocks R n (suc a)) 1024 (1024 * i + j) (omega (arith, length_block a))
      ∙ sheet_bit_lem n (suc a) i j (omega arith) l
      ∙ ap (λ (k : ℕ). test_bit (rule_block R k) j) e

  -- the four sets of a block
  module _ (a : ℕ) where
    P : List ℕ
    P = mask_of set_size (R.needed a)

    N : List ℕ
    N = mask_of set_size (R.needed_not a)

    A : List ℕ
    A = mask_of set_size (R.added a)

    D : List ℕ
    D = mask_of set_size (R.removed a)

    sizes : (length P ≡ 32) × (length (P ++ N) ≡ 64) × (length (P ++ N ++ A) ≡ 96)
    unfolding P N A
    sizes = (length_mask_of set_size _, simp (length-append, length_mask_of), simp (length-append, length_mask_of))

    -- their bits
    module _ (n : ℕ) (h : n < 256) where
      block_needed : test_bit (rule_block R a) (256 * needed_set + n) ≡ R.needed a n
      unfolding rule_block P N A D
      block_needed =
          let e : 256 * 0 + n ≡ n = omega arith in
          ap (test_bit (P ++ N ++ A ++ D)) e
          ∙ test_left (P ++ N ++ A) D n (omega (arith, sizes)) ∙ test_left (P ++ N) A n (omega (arith, sizes)) ∙ test_left P N n (omega (arith, sizes))
          ∙ test_mask_of set_size (R.needed a) n h

      block_needed_not : test_bit (rule_block R a) (256 * needed_not_set + n) ≡ R.needed_not a n
      unfolding rule_block P N A D
      block_needed_not =
          test_left (P ++ N ++ A) D (256 + n) (omega (arith, sizes)) ∙ test_left (P ++ N) A (256 + n) (omega (arith, sizes)) ∙ test_right P N 256 n (omega (arith, sizes))
          ∙ test_mask_of set_size (R.needed_not a) n h

      block_added : test_bit (rule_block R a) (256 * added_set + n) ≡ R.added a n
      unfolding rule_block P N A D
      block_added =
          test_left (P ++ N ++ A) D (512 + n) (omega (arith, sizes)) ∙ test_right (P ++ N) A 512 n (omega (arith, sizes))
          ∙ test_mask_of set_size (R.added a) n h

      block_removed : test_bit (rule_block R a) (256 * removed_set + n) ≡ R.removed a n
      unfolding rule_block P N A D
      block_removed = test_right (P ++ N ++ A) D 768 n (omega (arith, sizes)) ∙ test_mask_of set_size (R.removed a) n h

    -- their bytes in a sheet, by what stands before and after them in the block
    module _ (moves : ℕ) (low : 1 ≤ a) (high : a ≤ moves) where
      set_part : (set : ℕ) (x y z : List ℕ) → rule_block R a ≡ x ++ (y ++ z) → length x ≡ set_size * set → length y ≡ set_size → sheet_set (rule_blocks R moves 1) set a ≡ y
      unfolding sheet_set
      set_part set x y z e lx ly =
          let b : 1 + (a - 1) ≡ a = omega arith in
          let (rest, f) = block_on moves 1 (a - 1) (omega arith) in
          let whole : rule_block R (1 + (a - 1)) ++ rest ≡ x ++ (y ++ (z ++ rest)) =
          ap (λ (k : ℕ). rule_block R k ++ rest) b ∙ ap (λ (r : List ℕ). r ++ rest) e ∙ append_assoc x (y ++ z) rest ∙ ap (λ (r : List ℕ). x ++ r) (append_assoc y z rest)
          in
          ap (take set_size)
          (sym (drop-drop (set_size * set) (rule_size * (a - 1)) (rule_blocks R moves 1)) ∙ ap (drop (set_size * set)) (f ∙ whole) ∙ drop_at x (y ++ (z ++ rest)) (set_size * set) lx)
          ∙ take_at y (z ++ rest) set_size ly

      -- The four sets of a move on the sheet are those of the rules.
      pub needed_set_lem : sheet_set (rule_blocks R moves 1) needed_set a ≡ mask_of set_size (R.needed a)
      unfolding rule_block P N A D
      needed_set_lem = set_part needed_set [] P (N ++ (A ++ D)) (simp (append_assoc)) refl (length_mask_of set_size _)

      pub needed_not_set_lem : sheet_set (rule_blocks R moves 1) needed_not_set a ≡ mask_of set_size (R.needed_not a)
      unfolding rule_block P N A D
      needed_not_set_lem = set_part needed_not_set P N (A ++ D) (simp (append_assoc)) sizes.0 (length_mask_of set_size _)

      pub added_set_lem : sheet_set (rule_blocks R moves 1) added_set a ≡ mask_of set_size (R.added a)
      unfolding rule_block P N A D
      added_set_lem = set_part added_set (P ++ N) A D (append_assoc (P ++ N) A D) sizes.1 (length_mask_of set_size _)

      pub removed_set_lem : sheet_set (rule_blocks R moves 1) removed_set a ≡ mask_of set_size (R.removed a)
      unfolding rule_block P N A D
      removed_set_lem = set_part removed_set (P ++ N ++ A) D [] (ap (λ (r : List ℕ). P ++ N ++ A ++ r) (sym (append-nil D))) sizes.2 (length_mask_of set_size _)

  module _ (moves a n : ℕ) (low : 1 ≤ a) (high : a ≤ moves) (small : n < 256) where
    set_bit_lem : (set : ℕ) → set < 4 → sheet_bit (rule_blocks R moves 1) set a n ≡ test_bit (rule_block R a) (256 * set + n)
    unfolding sheet_bit
    set_bit_lem set l =
        let e : 1024 * (a - 1) + 256 * set + n ≡ 1024 * (a - 1) + (256 * set + n) = omega arith in
        let b : 1 + (a - 1) ≡ a = omega arith in
        ap (test_bit (rule_blocks R moves 1)) e
        ∙ sheet_bit_lem moves 1 (a - 1) (256 * set + n) (omega arith) (omega arith)
        ∙ ap (λ (i : ℕ). test_bit (rule_block R i) (256 * set + n)) b

    -- The bits of a bound fact are what the rules say of it.
    bits : SameRules (rules_on (rule_blocks R moves 1)) R a n
    unfolding rules_on
    bits =
        record {
          needed = set_bit_lem needed_set (omega arith) ∙ block_needed a n small;
          needed_not = set_bit_lem needed_not_set (omega arith) ∙ block_needed_not a n small;
          added = set_bit_lem added_set (omega arith) ∙ block_added a n small;
          removed = set_bit_lem removed_set (omega arith) ∙ block_removed a n small;
        }

-- of the sheet that is learned from a book
pub learned_bits : (form : Form) (s : List ℕ) (a n : ℕ) → 1 ≤ a → a ≤ (schema_of s).moves → n < 256 → SameRules (rules_on (rule_sheet form s)) (rules_from form s) a n
unfolding rule_sheet
learned_bits form s a n low high small = bits (rules_from form s) (schema_of s).moves a n low high small

-- rules that are the same for a move have the same block
pub block_same : (R S : Rules) (a : ℕ) → ((n : ℕ) → SameRules R S a n) → rule_block R a ≡ rule_block S a
unfolding rule_block
block_same R S a same =
    rw (
      mask_of_same set_size (R.needed a) (S.needed a) (λ n h. (same n).needed),
      mask_of_same set_size (R.needed_not a) (S.needed_not a) (λ n h. (same n).needed_not),
      mask_of_same set_size (R.added a) (S.added a) (λ n h. (same n).added),
      mask_of_same set_size (R.removed a) (S.removed a) (λ n h. (same n).removed),
    )

pub blocks_same : (R S : Rules) → ((a : ℕ) → rule_block R a ≡ rule_block S a) → (n a : ℕ) → rule_blocks R n a ≡ rule_blocks S n a
unfolding rule_blocks
blocks_same R S each zero a = refl
blocks_same R S each (suc n) a = ap₂ (λ (x y : List ℕ). x ++ y) (each a) (blocks_same R S each n (suc a))
