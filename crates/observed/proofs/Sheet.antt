-- The sheet from what is observed is that of the learned rules.
use Prim.Native.Nat.{ℕ, zero, suc, ◌+◌, ◌≤◌, ◌<◌}
use native.Mathlib.Omega.{arith}
use mathlib.Core.Path.{◌≡◌, refl, ap₂, ◌∙◌}
use mathlib.Core.Bool.{Bool, true, false, ◌&&◌, not}
use mathlib.Core.List.{List, ◌++◌}
use Rattle.mask.specs.Sets.{mask_of, difference}
use Rattle.mask.proofs.Laws.{test_difference, length_difference, bytes_difference}
use Rattle.mask.proofs.Whole.{length_mask_of, bytes_mask_of, test_mask_of, is_mask_of}
use Rattle.terms.specs.Schema.{Schema}
use Rattle.terms.specs.Steps.{is_atom}
use Rattle.model.specs.Domain.{Transition}
use Rattle.model.specs.Learned.{learned_rules}
use Rattle.jobs.specs.Planning.{domain}
use Rattle.jobs.specs.Learn.{rule_block, rule_blocks}
use Rattle.atoms.specs.Atoms.{atom_set}
use Rattle.observed.specs.Observed.{always_before, ever_before, added, deleted, bound, set_at, observed_set}
use Rattle.observed.specs.Rules.{rule_set, rules_observed, sheet_observed}
use Rattle.observed.specs.Seen.{in_set, Seen}
use Rattle.observed.proofs.Parts.{part_bytes}
use Rattle.observed.proofs.Noted.{length_observed_set}

module _ (sch : Schema) (ts : List Transition) (l : List ℕ) (seen : Seen sch ts l) (a : ℕ) (h : 1 ≤ a) (h' : a ≤ 32) where
  -- ---- a set of a move, as a set of its bound facts: those in it, and those not in it
  pub seen_in : (k : ℕ) → k < 6 → observed_set l a k ≡ mask_of 32 (λ n. is_atom sch a n && in_set ts k a n)
  unfolding observed_set
  seen_in k hk =
      is_mask_of _ 32 _ (length_observed_set l a k seen.sized h h' (omega arith)) (part_bytes l (set_at a k) seen.bytes)
      (λ n hn. seen.says k hk a h h' n hn)

  pub seen_out : (k : ℕ) → k < 6 → difference (observed_set l a bound) (observed_set l a k) ≡ mask_of 32 (λ n. is_atom sch a n && not (in_set ts k a n))
  unfolding atom_set
  seen_out k hk =
      rw (seen.atoms a h h')
      (is_mask_of _ 32 _ (length_difference _ (observed_set l a k) ∙ length_mask_of 32 _) (bytes_difference _ (observed_set l a k) (bytes_mask_of 32 _))
      (λ n hn. test_difference _ (observed_set l a k) n
      ∙ rw (test_mask_of 32 (is_atom sch a) n hn, seen.says k hk a h h' n hn) (without_within (is_atom sch a n) (in_set ts k a n))))
    where
      without_within : (i x : Bool) → (i && not (i && x)) ≡ (i && not x)
      without_within true x = refl
      without_within false x = refl

  -- The four sets of a move are its learned ones.
  pub rules_block : rules_observed l a ≡ rule_block (learned_rules (domain sch) ts) a
  unfolding rules_observed rule_set rule_block learned_rules domain in_set
  rules_block =
      rw (
        seen_in always_before (omega arith),
        seen_out ever_before (omega arith),
        seen_in added (omega arith),
        seen_in deleted (omega arith),
      )

-- And so is the whole sheet.
pub sheet_blocks : (sch : Schema) (ts : List Transition) (l : List ℕ) → Seen sch ts l → (n a : ℕ) → 1 ≤ a → a + n ≤ 33
    → sheet_observed l n a ≡ rule_blocks (learned_rules (domain sch) ts) n a
unfolding sheet_observed rule_blocks
sheet_blocks sch ts l seen zero a h h' = refl
sheet_blocks sch ts l seen (suc n) a h h' =
    ap₂ (λ (r s : List ℕ). r ++ s) (rules_block sch ts l seen a h (omega arith)) (sheet_blocks sch ts l seen n (suc a) (omega arith) (omega arith))
