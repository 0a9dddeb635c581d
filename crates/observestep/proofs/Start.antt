-- What is observed before any record, move by move. Uses the laws of observed on one set among the others.
use Prim.Native.Nat.{ℕ, ◌+◌, ◌*◌, ◌/◌, ◌%◌, ◌<◌, ◌≤◌}
use mathlib.Core.Path.{◌≡◌, refl, sym, ap, ◌∙◌}
use mathlib.Core.Logic.{◌⊎◌, inl, inr}
use mathlib.Core.Bool.{Bool, true, false, cond, ◌&&◌, ◌||◌, and-false, and_comm}
use mathlib.Core.List.{List}
use native.Mathlib.Decide.{ℕ_discrete, dec_lt}
use native.Mathlib.Omega.{arith}
use borrow.Author.Tests.{eq-eqb, ne_eqb, le-leb, lt-leb}
use lib.Dec.{eqb, leb}
use lib.ListN.{length}
use Rattle.limits.specs.Limits.{observed_size}
use Rattle.truth.specs.Bools.{is_false}
use Rattle.mask.specs.Bits.{test_bit, Bytes}
use Rattle.mask.specs.Sets.{empty, union, mask_of}
use Rattle.mask.proofs.Laws.{test_empty, length_empty, bytes_empty, test_union, length_union, bytes_union}
use Rattle.mask.proofs.Whole.{length_mask_of, bytes_mask_of, test_mask_of, is_mask_of, mask_ext}
use Rattle.terms.specs.Schema.{Schema}
use Rattle.terms.specs.Steps.{is_atom}
use Rattle.terms.proofs.Atoms.{atom_out}
use Rattle.atoms.specs.Atoms.{atom_set}
use Rattle.observed.specs.Observed.{always_before, always_after, bound, set_at, observed_set, at_first, nothing_seen}
use Rattle.observed.specs.OnSet.{on_set}
use Rattle.observed.proofs.Parts.{part_bytes, length_on_set, bytes_on_set, on_set_in, on_set_out}
use Rattle.observed.proofs.Noted.{set_fits, sets_apart, length_observed_set}
use Rattle.observed.proofs.Observe.{test_observed_set}
use Rattle.observestep.specs.Notes.{widened, first_sets}

-- the set has every bound fact at first
abbrev pub full : ℕ → Bool
full k = eqb k always_before || eqb k always_after || eqb k bound

-- ---- what the sets of all moves are
pub record Holds (W : ℕ → ℕ → List ℕ) (l : List ℕ) : Type 0 where
  pub sized : length l ≡ observed_size
  pub bytes : Bytes l
  pub sets : (b k : ℕ) → 1 ≤ b → b ≤ 32 → k < 7 → observed_set l b k ≡ W b k

pub nothing_sized : (l : List ℕ) → l ≡ empty observed_size → length l ≡ observed_size
nothing_sized l e = ap length e ∙ length_empty observed_size

-- ---- one set widened
module _ (a k : ℕ) (counted : 1 ≤ a) (known : a ≤ 32) (hk : k < 7) (m : List ℕ) (W : ℕ → ℕ → List ℕ) (l : List ℕ) (was : Holds W l) where
  fits : set_at a k + 32 ≤ length l
  fits = omega (arith, was.sized, set_fits a k counted known hk)

  widened_own : observed_set (widened (set_at a k) m l) a k ≡ union (W a k) m
  unfolding widened observed_set
  widened_own = on_set_in (set_at a k) (λ x. union x m) l fits (length_union _ m) ∙ ap (λ (x : List ℕ). union x m) (was.sets a k counted known hk)

  widened_other : (b j : ℕ) → 1 ≤ b → b ≤ 32 → j < 7 → (b ≡ a → ⊥) ⊎ (j ≡ k → ⊥) → observed_set (widened (set_at a k) m l) b j ≡ W b j
  unfolding widened observed_set
  widened_other b j hb hb' hj other =
      on_set_out (set_at a k) (λ x. union x m) l fits (length_union _ m) (set_at b j) (sets_apart a k b j counted hb hk hj other)
      (omega (arith, was.sized, set_fits b j hb hb' hj))
      ∙ was.sets b j hb hb' hj

  -- the sets after it
  abbrev pub wider : ℕ → ℕ → List ℕ
  wider b j = cond (eqb b a && eqb j k) (union (W a k) m) (W b j)

  pub widened_holds : Bytes m → Holds wider (widened (set_at a k) m l)
  unfolding widened
  widened_holds hm =
      record {
        sized = length_on_set (set_at a k) (λ x. union x m) l fits (length_union _ m) ∙ was.sized;
        bytes = bytes_on_set (set_at a k) (λ x. union x m) l fits (length_union _ m) (bytes_union _ m (part_bytes l (set_at a k) was.bytes) hm) was.bytes;
        sets = λ b j hb hb' hj. go b j hb hb' hj (ℕ_discrete b a) (ℕ_discrete j k);
      }
    where
      go : (b j : ℕ) → 1 ≤ b → b ≤ 32 → j < 7 → Dec (b ≡ a) → Dec (j ≡ k)
          → observed_set (on_set (set_at a k) (λ x. union x m) l) b j ≡ cond (eqb b a && eqb j k) (union (W a k) m) (W b j)
      go b j hb hb' hj (yes p) (yes q) = rw (eq-eqb b a p, eq-eqb j k q, p, q) widened_own
      go b j hb hb' hj (yes p) (no q) = rw (ne_eqb j k q, and-false (eqb b a)) (widened_other b j hb hb' hj (inr q))
      go b j hb hb' hj (no p) q = rw (ne_eqb b a p) (widened_other b j hb hb' hj (inl p))

-- ---- the moves up to i have their first sets, the others nothing
module _ (sch : Schema) where
  -- set k of move b
  unfoldable pub first : ℕ → ℕ → ℕ → List ℕ
  first i b k = cond (leb b i && full k) (atom_set sch b) (empty 32)

  pub started_none : (l : List ℕ) → l ≡ empty observed_size → Holds (first 0) l
  unfolding first observed_set
  started_none l e =
      rw e
      (record {
        sized = length_empty observed_size;
        bytes = bytes_empty observed_size;
        sets = λ b k hb hb' hk.
            let long = length_observed_set (empty observed_size) b k (length_empty observed_size) hb hb' hk in
            rw (lt-leb b 0 hb)
            (mask_ext _ _ (long ∙ sym (length_empty 32)) (part_bytes (empty observed_size) (set_at b k) (bytes_empty observed_size)) (bytes_empty 32)
            (λ n h. test_observed_set (empty observed_size) b k n (omega (arith, long)) ∙ test_empty observed_size _ ∙ sym (test_empty 32 n)));
      })

  -- a set put where nothing was
  filled : (b : ℕ) → union (empty 32) (atom_set sch b) ≡ atom_set sch b
  unfolding atom_set
  filled b =
      is_mask_of _ 32 (is_atom sch b) (length_union (empty 32) _ ∙ length_empty 32) (bytes_union (empty 32) _ (bytes_empty 32) (bytes_mask_of 32 (is_atom sch b)))
      (λ n h. test_union (empty 32) (mask_of 32 (is_atom sch b)) n (omega (arith, length_empty 32, length_mask_of 32 (is_atom sch b)))
      ∙ rw (test_empty 32 n) (test_mask_of 32 (is_atom sch b) n h))

  -- ---- one move more: a set after the other
  abbrev over : ℕ → ℕ → (ℕ → ℕ → List ℕ) → ℕ → ℕ → List ℕ
  over a k W b j = cond (eqb b a && eqb j k) (union (W a k) (atom_set sch a)) (W b j)

  abbrev wider₃ : ℕ → ℕ → ℕ → List ℕ
  wider₃ i = over (i + 1) bound (over (i + 1) always_after (over (i + 1) always_before (first i)))

  own_sets : (p q r : Bool) (m e : List ℕ) → cond r m (cond q m (cond p m e)) ≡ cond (p || q || r) m e
  own_sets true true true m e = refl
  own_sets true true false m e = refl
  own_sets true false true m e = refl
  own_sets true false false m e = refl
  own_sets false true true m e = refl
  own_sets false true false m e = refl
  own_sets false false true m e = refl
  own_sets false false false m e = refl

  -- the move had nothing, and has its bound facts in three sets; the others stay
  wide : (i b k : ℕ) → Dec (b ≡ i + 1) → wider₃ i b k ≡ first (i + 1) b k
  unfolding first
  wide i b k (yes p) =
      rw (p, eq-eqb (i + 1) (i + 1) refl, lt-leb (i + 1) i (omega arith), le-leb (i + 1) (i + 1) (omega arith), filled (i + 1))
      (own_sets (eqb k always_before) (eqb k always_after) (eqb k bound) (atom_set sch (i + 1)) (empty 32))
  wide i b k (no d) = rw (ne_eqb b (i + 1) d, other (dec_lt i b))
    where
      other : Dec (i < b) → leb b i ≡ leb b (i + 1)
      other (yes h) = lt-leb b i h ∙ sym (lt-leb b (i + 1) (omega arith))
      other (no h) = le-leb b i (omega arith) ∙ sym (le-leb b (i + 1) (omega arith))

  pub started_next : (i : ℕ) (l atoms new : List ℕ) → Holds (first i) l → i < 32 → atoms ≡ atom_set sch (i + 1) → new ≡ first_sets (i + 1) atoms l → Holds (first (i + 1)) new
  unfolding first_sets atom_set
  started_next i l atoms new was room e f =
      let bytes = bytes_mask_of 32 (is_atom sch (i + 1)) in
      let one = widened_holds (i + 1) always_before (omega arith) (omega arith) (omega arith) _ (first i) l was bytes in
      let two = widened_holds (i + 1) always_after (omega arith) (omega arith) (omega arith) _ _ _ one bytes in
      let three = widened_holds (i + 1) bound (omega arith) (omega arith) (omega arith) _ _ _ two bytes in
      rw (f, e) (record { sized = three.sized; bytes = three.bytes; sets = λ b k hb hb' hk. three.sets b k hb hb' hk ∙ wide i b k (ℕ_discrete b (i + 1)) })

  -- ---- all moves
  test_first : (i b k n : ℕ) → n < 256 → test_bit (first i b k) n ≡ (leb b i && full k && is_atom sch b n)
  unfolding first atom_set
  test_first i b k n h = go (leb b i && full k)
    where
      go : (c : Bool) → test_bit (cond c (mask_of 32 (is_atom sch b)) (empty 32)) n ≡ (c && is_atom sch b n)
      go true = test_mask_of 32 (is_atom sch b) n h
      go false = test_empty 32 n

  -- a move that is not there has no bound facts
  at_first_lem : (b k n : ℕ) → (leb b sch.moves && full k && is_atom sch b n) ≡ at_first sch b k n
  unfolding at_first
  at_first_lem b k n = go (dec_lt sch.moves b)
    where
      go : Dec (sch.moves < b) → (leb b sch.moves && full k && is_atom sch b n) ≡ (is_atom sch b n && full k)
      go (yes h) =
          let none : is_atom sch b n ≡ false = is_false _ (λ e. omega (arith, (atom_out sch b n e).known)) in
          rw (none, and-false)
      go (no h) = rw (le-leb b sch.moves (omega arith)) (and_comm (full k) (is_atom sch b n))

  pub started_all : (i : ℕ) (l : List ℕ) → Holds (first i) l → i ≡ sch.moves → l ≡ (nothing_seen sch).masks
  unfolding nothing_seen set_at
  started_all i l was e =
      is_mask_of l observed_size _ was.sized was.bytes
      (λ j h.
      let a : ℕ = j / 256 / 7 + 1 in
      let k : ℕ = j / 256 % 7 in
      let n : ℕ = j % 256 in
      let at : 8 * set_at (j / 256 / 7 + 1) (j / 256 % 7) + j % 256 ≡ j = place j in
      ap (test_bit l) (sym at)
      ∙ sym (test_observed_set l (j / 256 / 7 + 1) (j / 256 % 7) (j % 256) (omega arith))
      ∙ ap (λ (m : List ℕ). test_bit m (j % 256)) (was.sets (j / 256 / 7 + 1) (j / 256 % 7) (omega arith) (omega arith) (omega arith))
      ∙ test_first i (j / 256 / 7 + 1) (j / 256 % 7) (j % 256) (omega arith)
      ∙ rw e (at_first_lem (j / 256 / 7 + 1) (j / 256 % 7) (j % 256)))
    where
      place : (j : ℕ) → 8 * set_at (j / 256 / 7 + 1) (j / 256 % 7) + j % 256 ≡ j
      place j = omega arith
