-- Bytes appended: how a draft's memory has them, and one run after another, up to where the end is passed.
use Prim.Native.Nat.{ℕ, suc, ◌+◌, ◌≤◌, ◌<◌}
use native.Mathlib.Numerals.{add-one}
use native.Mathlib.Omega.{arith}
use mathlib.Core.Path.{◌≡◌, refl, sym, ap, ◌∙◌}
use mathlib.Core.List.{List, [], ◌∷◌, ◌++◌, append_assoc, append-nil}
use lib.ListN.{length, set, take, drop, length-append, take-append-drop}
use lib.Seq.{sets-eq, length-take-le, take_at, drop_at}
use Rattle.std.specs.Prelude.{Result, Ok, Err}
use Rattle.limits.specs.Limits.{max_length}
use Rattle.output.specs.Written.{written}
use Rattle.output.proofs.Written.{part_written, length_written}
use Rattle.appending.specs.Appended.{Appended, AllBut}

-- ---- the memory, of which the first `w` bytes are formed

module _ (d v d' : List ℕ) (at w : ℕ) (h : w ≤ length d) (e : d' ≡ written d at v) where
  -- bytes written behind what is formed
  pub append_written : at ≡ w → w + length v ≤ length d → take (w + length v) d' ≡ take w d ++ v
  unfolding written
  append_written is k =
      let n : length (take w d ++ v) ≡ w + length v = simp (length-append, length-take-le w d h) (omega arith) in
      rw (e, is) (take_at (take w d ++ v) (drop (w + length v) d) (w + length v) n)

  -- and within it
  pub renew_written : at + length v ≤ w → take w d' ≡ written (take w d) at v
  renew_written k =
      let n = length-take-le w d h in
      let m : at + length v ≤ length (take w d) = omega arith in
      let is : written d at v ≡ written (take w d) at v ++ drop w d =
      ap (λ (l : List ℕ). written l at v) (sym (take-append-drop w d)) ∙ part_written (take w d) (drop w d) at v m in
      rw (e, is) (take_at (written (take w d) at v) (drop w d) w (length_written (take w d) at v m ∙ n))

-- three bytes stored one by one
pub three_written : (x y z w : ℕ) (d : List ℕ) → w + 3 ≤ length d → set (set (set d w x) (w + 1) y) (w + 2) z ≡ written d w (x ∷ y ∷ z ∷ [])
unfolding written
three_written x y z w d h = rw (two_more w, add-one) (sets-eq (x ∷ y ∷ z ∷ []) d w (omega arith))
  where
    two_more : (k : ℕ) → k + 2 ≡ suc (suc k)
    two_more k = omega arith

-- ---- runs in a row

module _ (a b old mid : List ℕ) where
  -- two runs are one run
  pub append_then : {new : List ℕ} → mid ≡ old ++ a → new ≡ mid ++ b → new ≡ old ++ (a ++ b)
  append_then e f = f ∙ ap (λ (l : List ℕ). l ++ b) e ∙ append_assoc old a b

  -- the end is passed by the first one, or by the second
  pub over_first : max_length < length old + length a → max_length < length old + length (a ++ b)
  over_first h = simp length-append (omega arith)

  pub over_then : mid ≡ old ++ a → max_length < length mid + length b → max_length < length old + length (a ++ b)
  over_then e h =
      let n : length mid ≡ length old + length a = ap length e ∙ length-append old a in
      simp length-append (omega arith)

-- by the result of the second one
pub appended_then : {A E : Type 0} (a b old mid new : List ℕ) (r : Result A E) → mid ≡ old ++ a → Appended b mid new r → Appended (a ++ b) old new r
appended_then a b old mid new (Ok _) e p = append_then a b old mid e p
appended_then a b old mid new (Err _) e p = over_then a b old mid e p

-- ---- bytes renewed

replaced : (p u q v : List ℕ) (at : ℕ) → length p ≡ at → length v ≡ length u → written (p ++ u ++ q) at v ≡ p ++ v ++ q
unfolding written
replaced p u q v at e f =
    let n : length (p ++ u) ≡ at + length v = simp length-append (omega arith) in
    rw (drop_at (p ++ u) q (at + length v) n, append_assoc p u q, take_at p (u ++ q) at e)

-- within a run, when what they are is known
pub append_renewed : (a u b v old : List ℕ) {mid new : List ℕ} (at : ℕ) → mid ≡ old ++ (a ++ u ++ b) → at ≡ length old + length a → length v ≡ length u
    → new ≡ written mid at v → new ≡ old ++ (a ++ v ++ b)
append_renewed a u b v old at p e f g =
    let n : length (old ++ a) ≡ at = simp length-append (sym e) in
    let is : written (old ++ (a ++ u ++ b)) at v ≡ old ++ a ++ v ++ b = ap (λ (t : List ℕ). written t at v) (simp append_assoc) ∙ replaced (old ++ a) u b v at n f in
    g ∙ ap (λ (t : List ℕ). written t at v) p ∙ is ∙ simp append_assoc

-- ---- a run in part

pub part_none : (whole old : List ℕ) → AllBut whole whole old old
part_none whole old = record { front = []; split = refl; appended = sym (append-nil old) }

module _ {rest whole old mid : List ℕ} (p : AllBut rest whole old mid) where
  part_whole : mid ++ rest ≡ old ++ whole
  part_whole = ap (λ (l : List ℕ). l ++ rest) p.appended ∙ append_assoc old p.front rest ∙ ap (λ (l : List ℕ). old ++ l) p.split

  whole_length : length mid + length rest ≡ length old + length whole
  whole_length = sym (length-append mid rest) ∙ ap length part_whole ∙ length-append old whole

  pub part_next : (a : List ℕ) {more new : List ℕ} → a ++ more ≡ rest → new ≡ mid ++ a → AllBut more whole old new
  part_next a {more} e f =
      record {
        front = p.front ++ a;
        split = append_assoc p.front a more ∙ ap (λ (l : List ℕ). p.front ++ l) e ∙ p.split;
        appended = f ∙ ap (λ (l : List ℕ). l ++ a) p.appended ∙ append_assoc old p.front a;
      }

  pub part_then : {more new : List ℕ} → AllBut more rest mid new → AllBut more whole old new
  part_then q = part_next q.front q.split q.appended

  pub part_over : (a more : List ℕ) → a ++ more ≡ rest → max_length < length mid + length a → max_length < length old + length whole
  part_over a more e h =
      let n : length a + length more ≡ length rest = sym (length-append a more) ∙ ap length e in
      let m = whole_length in
      omega arith

  pub part_all : rest ≡ [] → mid ≡ old ++ whole
  part_all e = sym (append-nil mid) ∙ ap (λ (l : List ℕ). mid ++ l) (sym e) ∙ part_whole

  -- by the result of the last append
  pub part_last : {A E : Type 0} (new : List ℕ) (r : Result A E) → Appended rest mid new r → Appended whole old new r
  part_last new (Ok _) q = q ∙ part_whole
  part_last new (Err _) q = let m = whole_length in omega arith
