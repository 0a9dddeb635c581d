-- A relation's bound facts in a set of a move: the word where the set stands in the rules.
use Prim.Native.Nat.{ℕ, ◌+◌, ◌-◌, ◌*◌, ◌/◌, ◌%◌, ◌<◌}
use native.Mathlib.Omega.{arith}
use mathlib.Core.Path.{◌≡◌, ◌∙◌}
use mathlib.Core.List.{List}
use lib.ListN.{take, drop, get_or}
use lib.Seq.{get_or-take, get_or-drop}
use Rattle.mask.specs.Bits.{test_bit}
use Rattle.mask.specs.Sets.{number}
use Rattle.atoms.proofs.Words.{number_same}
use Rattle.jobs.specs.SheetBits.{sheet_set}
use Rattle.factgroups.specs.Groups.{StartsRelation}

pub set_word_by : (l : List ℕ) (a k n at w : ℕ) → StartsRelation n → at ≡ 128 * (a - 1) + 32 * k → w ≡ number (test_bit l) (8 * (at + n / 8)) 16
    → w ≡ number (test_bit (sheet_set l k a)) n 16
unfolding sheet_set test_bit
set_word_by l a k n at w first e f = f ∙ rw (← e) (number_same (test_bit (take 32 (drop at l))) (test_bit l) n (8 * (at + n / 8)) 16 same)
  where
    byte : (i : ℕ) → i < 32 → get_or (take 32 (drop at l)) i 0 ≡ get_or l (at + i) 0
    byte i h = get_or-take 32 (drop at l) i 0 h ∙ get_or-drop at l i 0

    same : (j : ℕ) → j < 16 → test_bit l (8 * (at + n / 8) + j) ≡ test_bit (take 32 (drop at l)) (n + j)
    same j h =
        let whole = first.whole in
        let within = first.within in
        let i : (8 * (at + n / 8) + j) / 8 ≡ at + (n + j) / 8 = omega arith in
        let r : (8 * (at + n / 8) + j) % 8 ≡ (n + j) % 8 = omega arith in
        rw (i, r, byte ((n + j) / 8) (omega arith))
