-- Row 12 from what is observed is row 12 of the transitions.
use Prim.Native.Nat.{ℕ, zero, suc, ◌*◌, ◌≤◌, ◌<◌}
use native.Mathlib.Omega.{arith}
use mathlib.Core.Path.{◌≡◌, refl, sym, ap, ap₂, ◌∙◌}
use mathlib.Core.Bool.{Bool, true, false, ◌&&◌, ◌||◌, not, not-not}
use mathlib.Core.List.{List, [], ◌∷◌}
use lib.Dec.{eqb}
use lib.ListN.{length}
use borrow.Author.Tests.{eqb-true, not-false}
use Rattle.truth.specs.Bools.{clash, is_false, is_true, bool_eq, and_out, neither}
use Rattle.mask.specs.Bits.{test_bit, Bytes}
use Rattle.mask.specs.Sets.{mask_of, intersection, union, difference, empty}
use Rattle.mask.proofs.Laws.{test_empty, length_empty, bytes_empty, test_intersection, length_intersection, bytes_intersection, test_union, length_union, bytes_union, test_difference, length_difference, bytes_difference}
use Rattle.mask.proofs.Whole.{length_mask_of, bytes_mask_of, test_mask_of, is_mask_of, mask_ext}
use Rattle.terms.specs.Schema.{Schema}
use Rattle.terms.specs.Steps.{is_atom}
use Rattle.terms.proofs.Atoms.{atom_below}
use Rattle.quantify.specs.Quantify.{any, below}
use Rattle.model.specs.Domain.{Transition}
use Rattle.model.specs.Learned.{after, turned, conflicting}
use Rattle.quantify.proofs.Quantify.{below_in, below_out, below_cong, below_wide, least_same}
use Rattle.jobs.specs.Planning.{domain}
use Rattle.jobs.specs.Learn.{conflict_answer, conflicting_move}
use Rattle.observed.specs.Observed.{always_after, ever_after, added, deleted, set_at, observed_set}
use Rattle.observed.specs.Rules.{conflict_observed, conflict_among, in_use, conflict_set}
use Rattle.observed.specs.Seen.{in_set, Seen}
use Rattle.observed.proofs.Parts.{part_bytes}
use Rattle.observed.proofs.Noted.{length_observed_set}

-- ---- a byte that is not 0 is a bit that is set
abbrev pub used : ℕ → Bool
used x = not (eqb x 0)

all_empty : (m : List ℕ) → any used m ≡ false → m ≡ empty (length m)
unfolding any empty
all_empty [] e = refl
all_empty (x ∷ m) e =
    let (h, t) = neither (used x) (any used m) e in
    ap₂ (λ (y : ℕ) (r : List ℕ). y ∷ r) (eqb-true x 0 (not-false _ h)) (all_empty m t)

any_empty : (len : ℕ) → any used (empty len) ≡ false
unfolding any empty
any_empty zero = refl
any_empty (suc len) = any_empty len

any_used : (m : List ℕ) → Bytes m → any used m ≡ below (8 * length m) (test_bit m)
any_used m h = bool_eq _ _ (λ e. is_true _ (set e)) (λ e. is_true _ (unset e))
  where
    set : any used m ≡ true → below (8 * length m) (test_bit m) ≡ false → ⊥
    set e none =
        let q : m ≡ empty (length m) =
        mask_ext m (empty (length m)) (sym (length_empty _)) h (bytes_empty _)
        (λ n l. is_false _ (λ t. clash _ (below_in _ (test_bit m) n l t) none) ∙ sym (test_empty _ n)) in
        clash _ e (ap (any used) q ∙ any_empty _)

    unset : below (8 * length m) (test_bit m) ≡ true → any used m ≡ false → ⊥
    unset e none =
        let (n, l, t) = below_out _ (test_bit m) e in
        clash _ t (ap (λ (k : List ℕ). test_bit k n) (all_empty m none) ∙ test_empty _ n)

pub any_mask_of : (q : ℕ → Bool) → any used (mask_of 32 q) ≡ below 256 q
any_mask_of q =
    any_used (mask_of 32 q) (bytes_mask_of 32 q) ∙ ap (λ (k : ℕ). below (8 * k) (test_bit (mask_of 32 q))) (length_mask_of 32 q)
    ∙ below_cong 256 _ q (λ k l. test_mask_of 32 q k l)

-- a bound fact that one set has, and another has or lacks
gather : (i a b c d : Bool) → (i && a && not (i && not b) || i && c && (i && d)) ≡ (i && (a && b || c && d))
gather true a b c d = rw not-not
gather false a b c d = refl

module _ (sch : Schema) (few : sch.relations ≤ 16) (ts : List Transition) (l : List ℕ) (seen : Seen sch ts l) where
  -- A move has a conflict by what is observed exactly if it has one by its transitions,
  pub conflicting_observed : (a : ℕ) → 1 ≤ a → a ≤ 32 → conflict_observed l a ≡ conflicting (domain sch) ts a
  unfolding conflict_observed in_use conflict_set conflicting domain in_set observed_set
  conflicting_observed a h h' =
      ap (any used) found ∙ any_mask_of _
      ∙ below_wide 256 (16 * sch.relations) _ (omega arith) (λ n e. atom_below sch a n (and_out _ _ e).0)
    where
      clashes : ℕ → Bool
      clashes n = turned ts true a n && after ts false a n || turned ts false a n && after ts true a n

      set : ℕ → List ℕ
      set k = observed_set l a k

      long : length (union (difference (set added) (set always_after)) (intersection (set deleted) (set ever_after))) ≡ 32
      long =
          length_union (difference (set added) (set always_after)) (intersection (set deleted) (set ever_after)) ∙ length_difference (set added) (set always_after) ∙ length_observed_set l a added seen.sized h h' (omega arith)

      within : Bytes (union (difference (set added) (set always_after)) (intersection (set deleted) (set ever_after)))
      within =
          bytes_union (difference (set added) (set always_after)) (intersection (set deleted) (set ever_after))
          (bytes_difference (set added) (set always_after) (part_bytes l (set_at a added) seen.bytes))
          (bytes_intersection (set deleted) (set ever_after) (part_bytes l (set_at a deleted) seen.bytes))

      says : (n : ℕ) → n < 256 → test_bit (union (difference (set added) (set always_after)) (intersection (set deleted) (set ever_after))) n ≡ (is_atom sch a n && clashes n)
      says n hn =
          test_union (difference (set added) (set always_after)) (intersection (set deleted) (set ever_after)) n
          (omega (arith, length_difference (set added) (set always_after), length_intersection (set deleted) (set ever_after), length_observed_set l a added seen.sized h h' (omega arith), length_observed_set l a deleted seen.sized h h' (omega arith)))
          ∙ rw (
            test_difference,
            test_intersection,
            seen.says always_after (omega arith) a h h' n hn,
            seen.says ever_after (omega arith) a h h' n hn,
            seen.says added (omega arith) a h h' n hn,
            seen.says deleted (omega arith) a h h' n hn,
          )
          (gather (is_atom sch a n) (turned ts true a n) (after ts false a n) (turned ts false a n) (after ts true a n))

      found : conflict_set l a ≡ mask_of 32 (λ n. is_atom sch a n && clashes n)
      found = is_mask_of _ 32 _ long within says

  -- and so the smallest such move is the same.
  pub conflicting_same : sch.moves ≤ 32 → conflict_among l sch.moves ≡ conflicting_move sch ts
  unfolding conflict_among conflicting_move
  conflicting_same moves = ap conflict_answer (least_same sch.moves _ _ (λ a h h'. conflicting_observed a h (omega arith)))
