-- Sets in the bytes of what is observed: a part that was lent and came back, a step's six sets, and a move's first ones. Uses the definitions of observed, and the kit's for
-- a part of a slice.
use Prim.Native.Nat.{ℕ, ◌+◌, ◌-◌, ◌≤◌}
use mathlib.Core.Path.{◌≡◌, sym}
use mathlib.Core.List.{List, append_assoc}
use native.Mathlib.Omega.{arith}
use borrow.Rule.Slice.PartMut.{mid_of, put_mid}
use lib.ListN.{length, take, drop}
use lib.Seq.{drop-drop}
use Rattle.limits.specs.Limits.{max_moves, observed_size}
use Rattle.mask.specs.Sets.{intersection, union, difference}
use Rattle.observed.specs.Observed.{always_before, ever_before, always_after, ever_after, added, deleted, bound, set_at, noted}
use Rattle.observed.specs.OnSet.{on_set}
use Rattle.observed.proofs.Noted.{change, changes, noted_changes}
use Rattle.observestep.specs.Notes.{narrowed, widened, first_sets}

set_back : (f : List ℕ → List ℕ) (at k : ℕ) (l m : List ℕ) → k ≡ 32 → m ≡ f (mid_of at k l) → put_mid at k l m ≡ on_set at f l
unfolding on_set
set_back f at k l m e d =
    rw (d, e, drop-drop 32 at l) (sym (append_assoc (take at l) (f (take 32 (drop at l))) (drop (at + 32) l)))

-- what came back of a lent set is put where it was
module _ (at end : ℕ) (l m other : List ℕ) (ends : end ≡ at + 32) where
  pub narrowed_back : m ≡ intersection (mid_of at (end - at) l) other → put_mid at (end - at) l m ≡ narrowed at other l
  unfolding narrowed
  narrowed_back e = set_back (λ x. intersection x other) at (end - at) l m (omega (arith, ends)) e

  pub widened_back : m ≡ union (mid_of at (end - at) l) other → put_mid at (end - at) l m ≡ widened at other l
  unfolding widened
  widened_back e = set_back (λ x. union x other) at (end - at) l m (omega (arith, ends)) e

module _ (a : ℕ) (before after l l₁ l₂ l₃ l₄ l₅ l₆ : List ℕ) (at₁ at₂ at₃ at₄ at₅ at₆ : ℕ) where
  pub noted_by : (1 ≤ a) × (a ≤ max_moves) × (length l ≡ observed_size)
      → at₁ ≡ set_at a always_before
      → at₂ ≡ set_at a ever_before
      → at₃ ≡ set_at a always_after
      → at₄ ≡ set_at a ever_after
      → at₅ ≡ set_at a added
      → at₆ ≡ set_at a deleted
      → l₁ ≡ narrowed at₁ before l
      → l₂ ≡ widened at₂ before l₁
      → l₃ ≡ narrowed at₃ after l₂
      → l₄ ≡ widened at₄ after l₃
      → l₅ ≡ widened at₅ (difference after before) l₄
      → l₆ ≡ widened at₆ (difference before after) l₅
      → l₆ ≡ noted a before after l
  unfolding changes change narrowed widened
  noted_by (counted, known, sized) p₁ p₂ p₃ p₄ p₅ p₆ e₁ e₂ e₃ e₄ e₅ e₆ =
      rw (e₆, e₅, e₄, e₃, e₂, e₁, p₁, p₂, p₃, p₄, p₅, p₆) (sym (noted_changes a counted known before after l sized))

module _ (a : ℕ) (atoms l l₁ l₂ l₃ : List ℕ) (at₁ at₂ at₃ : ℕ) where
  pub first_by : at₁ ≡ set_at a always_before
      → at₂ ≡ set_at a always_after
      → at₃ ≡ set_at a bound
      → l₁ ≡ widened at₁ atoms l
      → l₂ ≡ widened at₂ atoms l₁
      → l₃ ≡ widened at₃ atoms l₂
      → l₃ ≡ first_sets a atoms l
  unfolding first_sets
  first_by p₁ p₂ p₃ e₁ e₂ e₃ = rw (e₃, e₂, e₁, p₁, p₂, p₃)
