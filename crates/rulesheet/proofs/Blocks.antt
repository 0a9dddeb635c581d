-- A move's block of the sheet, and the sheet, block after block. Uses the sets of observed, mask's lengths, and output's laws.
use Prim.Native.Nat.{ℕ, zero, suc, ◌+◌, ◌-◌, ◌*◌, ◌≤◌}
use native.Mathlib.Omega.{arith}
use mathlib.Core.Path.{◌≡◌, refl, sym, ◌∙◌, ap, ap₂}
use mathlib.Core.List.{List, ◌++◌, append_assoc, append-nil}
use lib.ListN.{length, take, drop, length-append}
use lib.Seq.{drop_at, drop-drop}
use borrow.Rule.Slice.PartMut.{mid_of, put_mid}
use Rattle.mask.proofs.Laws.{length_difference}
use Rattle.std.specs.Prelude.{Option, Some, None}
use Rattle.std.specs.Borrow.{Bor}
use Rattle.std.specs.Option.{unwrap_or}
use Rattle.limits.specs.Limits.{observed_size}
use Rattle.jobs.specs.SheetBits.{needed_set, needed_not_set, added_set, removed_set}
use Rattle.observed.specs.Observed.{always_before, ever_before, added, deleted, bound, set_at, observed_set}
use Rattle.observed.proofs.Noted.{length_observed_set}
use Rattle.observed.specs.Rules.{rule_set, rules_observed, sheet_observed}
use Rattle.output.specs.Written.{written}
use Rattle.rulesheet.specs.Sheet.{rule_sets, block, source}
use Rattle.output.proofs.Written.{written_then, front_written, written_whole, written_part}

-- what is written at the front leaves the rest
drop_behind : (l x : List ℕ) (n : ℕ) → length x ≤ n → drop n (written l 0 x) ≡ drop n l
drop_behind l x n h =
    let m : ℕ = n - length x in
    let e : n ≡ length x + m = omega arith in
    ap (λ (k : ℕ). drop k (written l 0 x)) e
    ∙ ap (drop (length x + m)) (front_written l x)
    ∙ sym (drop-drop m (length x) (x ++ drop (length x) l))
    ∙ ap (drop m) (drop_at x (drop (length x) l) (length x) refl)
    ∙ drop-drop m (length x) l
    ∙ ap (λ (k : ℕ). drop k l) (sym e)

-- four runs one after the other
pub block_by : (d a b c e : List ℕ) {p q r t : List ℕ}
    → 128 ≤ length d
    → (p ≡ written d 0 a) × (length a ≡ 32)
    → (q ≡ written p 32 b) × (length b ≡ 32)
    → (r ≡ written q 64 c) × (length c ≡ 32)
    → (t ≡ written r 96 e) × (length e ≡ 32)
    → t ≡ written d 0 (a ++ b ++ c ++ e)
block_by d a b c e {p} {q} {r} {t} h (f, la) (g, lb) (j, lc) (k, le) =
    let two : length (a ++ b) ≡ 64 = simp (length-append, la, lb) in
    let three : length (a ++ b ++ c) ≡ 96 = simp (length-append, la, lb, lc) in
    let q' : q ≡ written d 0 (a ++ b) = g ∙ rw f (written_then d 0 a b 32 (omega arith) (omega arith)) in
    let r' : r ≡ written d 0 (a ++ b ++ c) = j ∙ rw q' (written_then d 0 (a ++ b) c 64 (omega arith) (omega arith)) in
    k ∙ rw r' (written_then d 0 (a ++ b ++ c) e 96 (omega arith) (omega arith))

module _ (l : List ℕ) where
  pub block_rules : (a : ℕ) → block (rule_sets l a) ≡ rules_observed l a
  unfolding block rule_sets rules_observed
  block_rules a = refl

  module _ (sized : length l ≡ observed_size) where
    pub length_rule_set : (a k : ℕ) → 1 ≤ a → a ≤ 32 → length (rule_set l a k) ≡ 32
    unfolding rule_set
    length_rule_set a zero h h' = length_observed_set l a always_before sized h h' (omega arith)
    length_rule_set a (suc zero) h h' = length_difference _ _ ∙ length_observed_set l a bound sized h h' (omega arith)
    length_rule_set a (suc (suc zero)) h h' = length_observed_set l a added sized h h' (omega arith)
    length_rule_set a (suc (suc (suc k))) h h' = length_observed_set l a deleted sized h h' (omega arith)

    pub length_rules : (a : ℕ) → 1 ≤ a → a ≤ 32 → length (rules_observed l a) ≡ 128
    unfolding rules_observed
    length_rules a h h' =
        simp (
          length-append,
          length_rule_set a needed_set h h',
          length_rule_set a needed_not_set h h',
          length_rule_set a added_set h h',
          length_rule_set a removed_set h h',
        )

    pub length_sheet : (n a : ℕ) → 1 ≤ a → a + n ≤ 33 → length (sheet_observed l n a) ≡ 128 * n
    unfolding sheet_observed
    length_sheet zero a h h' = refl
    length_sheet (suc n) a h h' = simp (length-append, length_rules a h (omega arith), length_sheet n (suc a) (omega arith) (omega arith)) (omega arith)

  -- one block more at the end
  pub sheet_next : (n a : ℕ) → sheet_observed l (n + 1) a ≡ sheet_observed l n a ++ rules_observed l (a + n)
  unfolding sheet_observed
  sheet_next zero a =
      let e : a ≡ a + 0 = omega arith in
      append-nil (rules_observed l a) ∙ ap (rules_observed l) e
  sheet_next (suc n) a =
      let e : suc n + 1 ≡ suc (n + 1) = omega arith in
      let f : suc a + n ≡ a + suc n = omega arith in
      ap (λ (k : ℕ). sheet_observed l k a) e
      ∙ ap (λ (r : List ℕ). rules_observed l a ++ r) (sheet_next n (suc a) ∙ ap (λ (k : ℕ). sheet_observed l n (suc a) ++ rules_observed l k) f)
      ∙ sym (append_assoc (rules_observed l a) (sheet_observed l n (suc a)) (rules_observed l (a + suc n)))

  -- ---- the loop over moves: d is the sheet as lent, s the sheet with i blocks written
  pub sheet_first : (d : List ℕ) → d ≡ written d 0 (sheet_observed l 0 1)
  unfolding written sheet_observed
  sheet_first d = refl

  module _ (sized : length l ≡ observed_size) (d s : List ℕ) (i : ℕ) (few : i ≤ 32) (e : s ≡ written d 0 (sheet_observed l i 1)) where
    pub sheet_turn : (r : List (List ℕ)) (at : ℕ) (m : List ℕ)
        → length s ≡ length d
        → 128 * (i + 1) ≤ length d
        → at ≡ 128 * i
        → r ≡ rule_sets l (i + 1)
        → m ≡ written (mid_of at (length s - at) s) 0 (block r)
        → put_mid at (length s - at) s m ≡ written d 0 (sheet_observed l (i + 1) 1)
    sheet_turn r at m k h f g w =
        let next = sheet_next i 1 in
        let o : 1 + i ≡ i + 1 = omega arith in
        written_part s at (block r) m (omega arith) w
        ∙ ap (λ (x : List (List ℕ)). written s at (block x)) g
        ∙ ap₂ (λ (x y : List ℕ). written x at y) e (block_rules (i + 1))
        ∙ written_then d 0 (sheet_observed l i 1) (rules_observed l (i + 1)) at (omega (arith, length_sheet sized i 1 (omega arith) (omega arith))) (omega arith)
        ∙ ap (λ (a : ℕ). written d 0 (sheet_observed l i 1 ++ rules_observed l a)) (sym o)
        ∙ ap (written d 0) (sym next)

  -- a sheet that is as long as its blocks is these
  pub sheet_whole : length l ≡ observed_size → (d s : List ℕ) (n : ℕ) → n ≤ 32 → length d ≡ 128 * n → s ≡ written d 0 (sheet_observed l n 1) → s ≡ sheet_observed l n 1
  sheet_whole sized d s n few f e = e ∙ written_whole d (sheet_observed l n 1) (omega (arith, length_sheet sized n 1 (omega arith) (omega arith)))

  -- ---- the sheet over what is observed itself: the sets of a move stay where no block has come to
  module _ (sized : length l ≡ observed_size) (s : List ℕ) (i : ℕ) (few : i ≤ 32) (e : s ≡ written l 0 (sheet_observed l i 1)) where
    set_behind : (k : ℕ) → observed_set s (i + 1) k ≡ observed_set l (i + 1) k
    unfolding observed_set set_at
    set_behind k = rw e (ap (take 32) (drop_behind l (sheet_observed l i 1) (224 * (i + 1 - 1) + 32 * k) (omega (arith, length_sheet sized i 1 (omega arith) (omega arith)))))

    pub sets_behind : rule_sets s (i + 1) ≡ rule_sets l (i + 1)
    unfolding rule_sets rule_set
    sets_behind = rw (set_behind always_before, set_behind bound, set_behind ever_before, set_behind added, set_behind deleted)

-- the rules that a turn of the loop reads, from what lies apart or from the sheet as it is: those of what is observed
pub rules_kept : (apart : Option (Bor (List ℕ))) (d s : List ℕ) (i : ℕ) (here seen : Bor (List ℕ))
    → length (source apart d) ≡ observed_size
    → i ≤ 32
    → s ≡ written d 0 (sheet_observed (source apart d) i 1)
    → here.now ≡ s
    → seen ≡ unwrap_or apart here
    → rule_sets seen.now (i + 1) ≡ rule_sets (source apart d) (i + 1)
rules_kept None d s i here seen sized few e is q =
    ap (λ (x : Bor (List ℕ)). rule_sets x.now (i + 1)) q ∙ ap (λ (x : List ℕ). rule_sets x (i + 1)) is ∙ sets_behind d sized s i few e
rules_kept (Some o) d s i here seen sized few e is q = ap (λ (x : Bor (List ℕ)). rule_sets x.now (i + 1)) q
