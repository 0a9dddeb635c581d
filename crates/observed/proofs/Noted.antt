-- What a step makes of the masks: each of its move's six sets of what is seen is changed in its own way; the set of its bound facts stays, and so
-- do those of every other move.
use Prim.Native.Nat.{ℕ, zero, suc, ◌+◌, ◌-◌, ◌*◌, ◌≤◌, ◌<◌}
use native.Mathlib.Decide.{dec_lt, ℕ_discrete}
use native.Mathlib.Omega.{arith}
use mathlib.Core.Path.{◌≡◌, refl, sym, ap, ◌∙◌}
use mathlib.Core.Logic.{◌⊎◌, inl, inr}
use mathlib.Core.Bool.{Bool, true, false, ◌&&◌, ◌||◌, not}
use mathlib.Core.List.{List, [], ◌++◌, append-nil, append_assoc}
use lib.ListN.{length, take, drop, length-append, take-append-drop}
use lib.Seq.{take_at, drop_at, drop-drop, length-take-le}
use Rattle.limits.specs.Limits.{observed_size}
use Rattle.mask.specs.Bits.{test_bit, Bytes}
use Rattle.mask.specs.Sets.{intersection, union, difference}
use Rattle.mask.proofs.Laws.{test_intersection, length_intersection, bytes_intersection, test_union, length_union, bytes_union, test_difference, length_difference, bytes_difference}
use Rattle.observed.specs.Observed.{set_at, observed_set, sets_of, encoded, with_sets, after_step, noted}
use Rattle.observed.specs.OnSet.{on_set}
use Rattle.observed.proofs.Parts.{part_length, part_bytes, length_on_set, bytes_on_set, on_set_in, on_set_out}

-- set k after a step with the bound facts x before and y after it
unfoldable pub change : ℕ → List ℕ → List ℕ → List ℕ → List ℕ
change zero x y m = intersection m x
change (suc zero) x y m = union m x
change (suc (suc zero)) x y m = intersection m y
change (suc (suc (suc zero))) x y m = union m y
change (suc (suc (suc (suc zero)))) x y m = union m (difference y x)
change (suc (suc (suc (suc (suc k))))) x y m = union m (difference x y)

-- the same of one bound fact
unfoldable pub changed : ℕ → Bool → Bool → Bool → Bool
changed zero x y b = b && x
changed (suc zero) x y b = b || x
changed (suc (suc zero)) x y b = b && y
changed (suc (suc (suc zero))) x y b = b || y
changed (suc (suc (suc (suc zero)))) x y b = b || y && not x
changed (suc (suc (suc (suc (suc k))))) x y b = b || x && not y

-- what is no bound fact stays out
pub changed_within : (k : ℕ) (i x y b : Bool) → changed k (i && x) (i && y) (i && b) ≡ (i && changed k x y b)
unfolding changed
changed_within k true x y b = refl
changed_within zero false x y b = refl
changed_within (suc zero) false x y b = refl
changed_within (suc (suc zero)) false x y b = refl
changed_within (suc (suc (suc zero))) false x y b = refl
changed_within (suc (suc (suc (suc zero)))) false x y b = refl
changed_within (suc (suc (suc (suc (suc k))))) false x y b = refl

-- the first sets of a move changed, so many of them
unfoldable pub changes : ℕ → (ℕ → List ℕ → List ℕ) → ℕ → List ℕ → List ℕ
changes a f zero l = l
changes a f (suc k) l = on_set (set_at a k) (f k) (changes a f k l)

-- ---- where the sets stand
pub set_fits : (a k : ℕ) → 1 ≤ a → a ≤ 32 → k < 7 → set_at a k + 32 ≤ observed_size
unfolding set_at
set_fits a k h h' hk = omega arith

pub sets_apart : (a j b k : ℕ) → 1 ≤ a → 1 ≤ b → j < 7 → k < 7 → (b ≡ a → ⊥) ⊎ (k ≡ j → ⊥)
    → (set_at b k + 32 ≤ set_at a j) ⊎ (set_at a j + 32 ≤ set_at b k)
unfolding set_at
sets_apart a j b k ha hb hj hk other = go (dec_lt b a) (dec_lt a b) (dec_lt k j) other
  where
    go : Dec (b < a) → Dec (a < b) → Dec (k < j) → (b ≡ a → ⊥) ⊎ (k ≡ j → ⊥) → (set_at b k + 32 ≤ set_at a j) ⊎ (set_at a j + 32 ≤ set_at b k)
    go (yes p) q r o = inl (omega arith)
    go (no p) (yes q) r o = inr (omega arith)
    go (no p) (no q) r (inl o) = absurd (o (omega arith))
    go (no p) (no q) (yes r) (inr o) = inl (omega arith)
    go (no p) (no q) (no r) (inr o) =
        let h : j < k = omega arith in
        inr (omega arith)

module _ (a : ℕ) (counted : 1 ≤ a) (known : a ≤ 32) (l : List ℕ) (sized : length l ≡ observed_size)
    (f : ℕ → List ℕ → List ℕ) (keeps : (k : ℕ) (m : List ℕ) → length (f k m) ≡ length m) where
  length_changes : (n : ℕ) → n ≤ 6 → length (changes a f n l) ≡ observed_size
  unfolding changes
  length_changes zero h = sized
  length_changes (suc n) h =
      let e = length_changes n (omega arith) in
      length_on_set (set_at a n) (f n) (changes a f n l) (omega (arith, e, set_fits a n counted known (omega arith))) (keeps n _) ∙ e

  bytes_changes : ((k : ℕ) (m : List ℕ) → Bytes m → Bytes (f k m)) → Bytes l → (n : ℕ) → n ≤ 6 → Bytes (changes a f n l)
  unfolding changes
  bytes_changes stay h zero hn = h
  bytes_changes stay h (suc n) hn =
      let e = length_changes n (omega arith) in
      let deeper = bytes_changes stay h n (omega arith) in
      bytes_on_set (set_at a n) (f n) (changes a f n l) (omega (arith, e, set_fits a n counted known (omega arith))) (keeps n _)
      (stay n _ (part_bytes (changes a f n l) (set_at a n) deeper)) deeper

  -- one turn, at another set
  turn_out : (n : ℕ) → n < 6 → (b k : ℕ) → 1 ≤ b → b ≤ 32 → k < 7 → (b ≡ a → ⊥) ⊎ (k ≡ n → ⊥)
      → observed_set (changes a f (suc n) l) b k ≡ observed_set (changes a f n l) b k
  unfolding changes observed_set
  turn_out n hn b k hb hb' hk other =
      let e = length_changes n (omega arith) in
      on_set_out (set_at a n) (f n) (changes a f n l) (omega (arith, e, set_fits a n counted known (omega arith))) (keeps n _)
      (set_at b k) (sets_apart a n b k counted hb (omega arith) hk other) (omega (arith, e, set_fits b k hb hb' hk))

  turn_in : (n : ℕ) → n < 6 → observed_set (changes a f (suc n) l) a n ≡ f n (observed_set (changes a f n l) a n)
  unfolding changes observed_set
  turn_in n hn =
      let e = length_changes n (omega arith) in
      on_set_in (set_at a n) (f n) (changes a f n l) (omega (arith, e, set_fits a n counted known (omega arith))) (keeps n _)

  changes_out : (n : ℕ) → n ≤ 6 → (b k : ℕ) → 1 ≤ b → b ≤ 32 → k < 7 → (b ≡ a → ⊥) ⊎ (n ≤ k) → observed_set (changes a f n l) b k ≡ observed_set l b k
  unfolding changes
  changes_out zero hn b k hb hb' hk other = refl
  changes_out (suc n) hn b k hb hb' hk other =
      turn_out n hn b k hb hb' hk (now other) ∙ changes_out n (omega arith) b k hb hb' hk (later other)
    where
      now : (b ≡ a → ⊥) ⊎ (suc n ≤ k) → (b ≡ a → ⊥) ⊎ (k ≡ n → ⊥)
      now (inl d) = inl d
      now (inr h) = inr (λ (e : k ≡ n). omega arith)

      later : (b ≡ a → ⊥) ⊎ (suc n ≤ k) → (b ≡ a → ⊥) ⊎ (n ≤ k)
      later (inl d) = inl d
      later (inr h) = inr (omega arith)

  changes_in : (n : ℕ) → n ≤ 6 → (k : ℕ) → k < n → observed_set (changes a f n l) a k ≡ f k (observed_set l a k)
  changes_in zero hn k hk = absurd (omega arith)
  changes_in (suc n) hn k hk = go (ℕ_discrete k n) (changes_in n (omega arith) k)
    where
      go : Dec (k ≡ n) → (k < n → observed_set (changes a f n l) a k ≡ f k (observed_set l a k)) → observed_set (changes a f (suc n) l) a k ≡ f k (observed_set l a k)
      go (yes e) deeper = rw e (turn_in n hn ∙ ap (f n) (changes_out n (omega arith) a n counted known (omega arith) (inr (omega arith))))
      go (no d) deeper = turn_out n hn a k counted known (omega arith) (inr d) ∙ deeper (omega arith)

-- ---- the change of one set
length_change : (k : ℕ) (x y m : List ℕ) → length (change k x y m) ≡ length m
unfolding change
length_change zero x y m = length_intersection m x
length_change (suc zero) x y m = length_union m x
length_change (suc (suc zero)) x y m = length_intersection m y
length_change (suc (suc (suc zero))) x y m = length_union m y
length_change (suc (suc (suc (suc zero)))) x y m = length_union m (difference y x)
length_change (suc (suc (suc (suc (suc k))))) x y m = length_union m (difference x y)

bytes_change : (k : ℕ) (x y m : List ℕ) → Bytes x → Bytes y → Bytes m → Bytes (change k x y m)
unfolding change
bytes_change zero x y m hx hy h = bytes_intersection m x h
bytes_change (suc zero) x y m hx hy h = bytes_union m x h hx
bytes_change (suc (suc zero)) x y m hx hy h = bytes_intersection m y h
bytes_change (suc (suc (suc zero))) x y m hx hy h = bytes_union m y h hy
bytes_change (suc (suc (suc (suc zero)))) x y m hx hy h = bytes_union m (difference y x) h (bytes_difference y x hy)
bytes_change (suc (suc (suc (suc (suc k))))) x y m hx hy h = bytes_union m (difference x y) h (bytes_difference x y hx)

test_gain : (m x y : List ℕ) (n : ℕ) → length x ≡ length m → test_bit (union m (difference x y)) n ≡ (test_bit m n || test_bit x n && not (test_bit y n))
test_gain m x y n h =
    test_union m (difference x y) n (omega (arith, length_difference x y)) ∙ ap (λ (b : Bool). test_bit m n || b) (test_difference x y n)

test_change : (k : ℕ) (x y m : List ℕ) (n : ℕ) → length x ≡ length m → length y ≡ length m
    → test_bit (change k x y m) n ≡ changed k (test_bit x n) (test_bit y n) (test_bit m n)
unfolding change changed
test_change zero x y m n hx hy = test_intersection m x n
test_change (suc zero) x y m n hx hy = test_union m x n (omega arith)
test_change (suc (suc zero)) x y m n hx hy = test_intersection m y n
test_change (suc (suc (suc zero))) x y m n hx hy = test_union m y n (omega arith)
test_change (suc (suc (suc (suc zero)))) x y m n hx hy = test_gain m y x n hy
test_change (suc (suc (suc (suc (suc k))))) x y m n hx hy = test_gain m x y n hx

pub length_observed_set : (l : List ℕ) (a k : ℕ) → length l ≡ observed_size → 1 ≤ a → a ≤ 32 → k < 7 → length (observed_set l a k) ≡ 32
unfolding observed_set
length_observed_set l a k e h h' hk = part_length l (set_at a k) (omega (arith, e, set_fits a k h h' hk))

-- ---- the sets changed one by one are the sets put together
set_next : (a n : ℕ) → set_at a n + 32 ≡ set_at a (suc n)
unfolding set_at
set_next a n = omega arith

set_last : (a : ℕ) → set_at a 6 + 32 ≡ set_at a 0 + 224
unfolding set_at
set_last a = omega arith

on_part : (at : ℕ) (f : List ℕ → List ℕ) (x y z : List ℕ) → length x ≡ at → length y ≡ 32 → on_set at f (x ++ (y ++ z)) ≡ x ++ f y ++ z
unfolding on_set
on_part at f x y z e h =
    let b : drop at (x ++ (y ++ z)) ≡ y ++ z = drop_at x (y ++ z) at e in
    let c : drop (at + 32) (x ++ (y ++ z)) ≡ z = sym (drop-drop 32 at (x ++ (y ++ z))) ∙ ap (drop 32) b ∙ drop_at y z 32 h in
    rw (take_at x (y ++ z) at e, b, take_at y z 32 h, c)

module _ (a : ℕ) (counted : 1 ≤ a) (known : a ≤ 32) (l : List ℕ) (sized : length l ≡ observed_size)
    (f : ℕ → List ℕ → List ℕ) (keeps : (k : ℕ) (m : List ℕ) → length (f k m) ≡ length m) where
  -- the first sets of the move, changed, one after the other
  joined : ℕ → List ℕ
  joined zero = []
  joined (suc n) = joined n ++ f n (observed_set l a n)

  -- from a set on: the set, and what follows
  set_first : (k : ℕ) → k < 7 → drop (set_at a k) l ≡ observed_set l a k ++ drop (set_at a k + 32) l
  unfolding observed_set
  set_first k h =
      sym (take-append-drop 32 (drop (set_at a k) l)) ∙ ap (λ (r : List ℕ). take 32 (drop (set_at a k) l) ++ r) (drop-drop 32 (set_at a k) l)

  front_length : (n : ℕ) → n ≤ 6 → length (take (set_at a 0) l ++ joined n) ≡ set_at a n
  unfolding joined set_at
  front_length zero h = omega (arith, length-append (take (224 * (a - 1) + 32 * 0) l) [], length-take-le (224 * (a - 1) + 32 * 0) l (omega arith))
  front_length (suc n) h =
      let front : List ℕ = take (224 * (a - 1) + 32 * 0) l in
      omega (
        arith,
        length-append front (joined n ++ f n (observed_set l a n)),
        length-append (joined n) (f n (observed_set l a n)),
        length-append front (joined n),
        front_length n (omega arith),
        keeps n (observed_set l a n),
        length_observed_set l a n sized counted known (omega arith),
      )

  front_changes : (n : ℕ) → n ≤ 6 → changes a f n l ≡ take (set_at a 0) l ++ joined n ++ drop (set_at a n) l
  unfolding changes joined
  front_changes zero h = sym (rw append-nil (take-append-drop (set_at a 0) l))
  front_changes (suc n) h =
      let front : List ℕ = take (set_at a 0) l ++ joined n in
      let s : List ℕ = observed_set l a n in
      let next : set_at a n + 32 ≡ set_at a (suc n) = set_next a n in
      ap (on_set (set_at a n) (f n)) (front_changes n (omega arith) ∙ ap (λ (r : List ℕ). front ++ r) (set_first n (omega arith)))
      ∙ on_part (set_at a n) (f n) front s (drop (set_at a n + 32) l) (front_length n (omega arith)) (length_observed_set l a n sized counted known (omega arith))
      ∙ ap (λ (k : ℕ). front ++ f n s ++ drop k l) next
      ∙ ap (λ (r : List ℕ). r ++ drop (set_at a (suc n)) l) (append_assoc (take (set_at a 0) l) (joined n) (f n s))

-- ---- a step noted
module _ (a : ℕ) (counted : 1 ≤ a) (known : a ≤ 32) (x y l : List ℕ) (sized : length l ≡ observed_size) where
  -- set by set, as the code does it
  pub noted_changes : noted a x y l ≡ changes a (λ k. change k x y) 6 l
  unfolding noted with_sets encoded after_step sets_of change joined
  noted_changes =
      let f : ℕ → List ℕ → List ℕ = λ k. change k x y in
      let j : List ℕ = joined a counted known l sized f (λ k m. length_change k x y m) 6 in
      let s : List ℕ = observed_set l a 6 in
      let d : List ℕ = drop (set_at a 0 + 224) l in
      let last : set_at a 6 + 32 ≡ set_at a 0 + 224 = set_last a in
      sym (front_changes a counted known l sized f (λ k m. length_change k x y m) 6 (omega arith)
      ∙ ap (λ (r : List ℕ). take (set_at a 0) l ++ j ++ r) (set_first a counted known l sized f (λ k m. length_change k x y m) 6 (omega arith) ∙ ap (λ (k : ℕ). s ++ drop k l) last)
      ∙ regroup (take (set_at a 0) l) j s d)
    where
      regroup : (p j s d : List ℕ) → p ++ j ++ (s ++ d) ≡ p ++ (j ++ s) ++ d
      regroup p j s d = simp (append_assoc)

  pub length_noted : length (noted a x y l) ≡ observed_size
  length_noted = rw noted_changes (length_changes a counted known l sized _ (λ k m. length_change k x y m) 6 (omega arith))

  pub bytes_noted : Bytes x → Bytes y → Bytes l → Bytes (noted a x y l)
  bytes_noted hx hy h =
      rw noted_changes (bytes_changes a counted known l sized _ (λ k m. length_change k x y m) (λ k m. bytes_change k x y m hx hy) h 6 (omega arith))

  -- another move's sets stay
  pub noted_other : (b k : ℕ) → 1 ≤ b → b ≤ 32 → k < 7 → (b ≡ a → ⊥) → observed_set (noted a x y l) b k ≡ observed_set l b k
  noted_other b k hb hb' hk d =
      rw noted_changes (changes_out a counted known l sized _ (λ k m. length_change k x y m) 6 (omega arith) b k hb hb' hk (inl d))

  -- the bound facts of every move stay
  pub noted_bound : (b : ℕ) → 1 ≤ b → b ≤ 32 → observed_set (noted a x y l) b 6 ≡ observed_set l b 6
  noted_bound b hb hb' =
      rw noted_changes (changes_out a counted known l sized _ (λ k m. length_change k x y m) 6 (omega arith) b 6 hb hb' (omega arith) (inr (omega arith)))

  -- each of the move's own sets changes, bound fact by bound fact
  pub noted_own : length x ≡ 32 → length y ≡ 32 → (k n : ℕ) → k < 6
      → test_bit (observed_set (noted a x y l) a k) n ≡ changed k (test_bit x n) (test_bit y n) (test_bit (observed_set l a k) n)
  noted_own hx hy k n hk =
      let e = length_observed_set l a k sized counted known (omega arith) in
      rw (noted_changes, changes_in a counted known l sized (λ k. change k x y) (λ k m. length_change k x y m) 6 (omega arith) k hk)
      (test_change k x y (observed_set l a k) n (hx ∙ sym e) (hy ∙ sym e))
