-- The bound facts (lifted atoms) of a set that hold in a state for a step's objects: the sixteen of a relation as a word, and one relation after the
-- other. Uses atoms' words stored in a mask, and factgroups' words of bits.
use Prim.Native.Nat.{ℕ, ◌+◌, ◌*◌, ◌/◌, ◌%◌, ◌≤◌, ◌<◌}
use native.Mathlib.Nat.{zero-add}
use native.Mathlib.Omega.{arith}
use mathlib.Core.Path.{◌≡◌, sym, ap, ◌∙◌}
use mathlib.Core.Bool.{Bool, false, ◌&&◌}
use mathlib.Core.List.{List}
use lib.Bits.{bit_and}
use lib.ListN.{length}
use Rattle.limits.specs.Limits.{set_size}
use Rattle.mask.specs.Bits.{bit_of, test_bit}
use Rattle.mask.specs.Sets.{empty, number}
use Rattle.mask.proofs.Numbers.{bit_none, bit_number}
use Rattle.mask.proofs.Whole.{length_mask_of, below_none, below_end}
use Rattle.terms.specs.declared.Binding.{Binding}
use Rattle.terms.specs.Schema.{Schema}
use Rattle.terms.specs.Steps.{ground, atom_relation}
use Rattle.atoms.specs.Atoms.{atoms_end, stored_word}
use Rattle.atoms.proofs.Words.{number_same, mask_below, word_next}
use Rattle.factgroups.specs.declared.Placement.{Placement}
use Rattle.factgroups.specs.Groups.{StartsRelation, in_place, placement_of, facts}
use Rattle.factgroups.proofs.Words.{number_and, number_none, number_at}
use Rattle.grounding.specs.Grounding.{ForBindings, held_atoms}
use Rattle.grounding.proofs.Objects.{fact_ground}

-- ---- the sixteen of a relation
module _ (sch : Schema) (m xs : List ℕ) (n : ℕ) (first : StartsRelation n) where
  pub held_word_by : (places w : ℕ) (p : Placement) (ys : List ℕ) → places ≡ sch.places (atom_relation n) → p ≡ placement_of places xs n
      → ys ≡ in_place places 2 xs → w ≡ number (λ j. test_bit m (facts p ys j)) 0 16 → ForBindings xs (λ b. w ≡ number (λ j. test_bit m (ground sch b j)) n 16)
  held_word_by places w p ys is placed columns e b bounded own =
      e
      ∙ number_same (λ j. test_bit m (ground sch b j)) (λ j. test_bit m (facts p ys j)) n 0 16
      (λ j l. rw (zero-add j, placed, columns, own) (ap (test_bit m) (fact_ground b sch n j places first l is)))

  -- a word of a set where it stands
  word_from : (atoms : List ℕ) (w : ℕ) → w ≡ number (test_bit atoms) (8 * (n / 8)) 16 → w ≡ number (test_bit atoms) n 16
  word_from atoms w e = let whole = first.whole in number_at (test_bit atoms) w (8 * (n / 8)) n 16 (omega arith) e

  pub asked_none : (atoms : List ℕ) (w : ℕ) → w ≡ number (test_bit atoms) (8 * (n / 8)) 16 → w ≡ 0
      → ForBindings xs (λ b. 0 ≡ number (λ j. test_bit atoms j && test_bit m (ground sch b j)) n 16)
  asked_none atoms w e none b bounded own =
      sym (number_none (λ j. test_bit atoms j && test_bit m (ground sch b j)) n 16 (λ j l. ap (λ (a : Bool). a && test_bit m (ground sch b (n + j))) (off j l)))
    where
      off : (j : ℕ) → j < 16 → test_bit atoms (n + j) ≡ false
      off j l = sym (bit_number (test_bit atoms) n 16 j l) ∙ ap (λ (x : ℕ). bit_of x j) (sym (word_from atoms w e) ∙ none) ∙ bit_none j

  pub asked_some : (atoms : List ℕ) (w v : ℕ) → w ≡ number (test_bit atoms) (8 * (n / 8)) 16
      → ForBindings xs (λ b. v ≡ number (λ j. test_bit m (ground sch b j)) n 16)
      → ForBindings xs (λ b. bit_and w v ≡ number (λ j. test_bit atoms j && test_bit m (ground sch b j)) n 16)
  asked_some atoms w v e held b bounded own =
      rw (word_from atoms w e, held b bounded own) (number_and (test_bit atoms) (λ j. test_bit m (ground sch b j)) n 16)

-- ---- the relations so far
module _ (sch : Schema) (b : Binding) (atoms m : List ℕ) where
  -- those of the bound facts below n
  unfoldable pub held_below : ℕ → List ℕ
  held_below n = mask_below 32 (λ j. test_bit atoms j && test_bit m (ground sch b j)) n

  pub held_first : (set : List ℕ) → set ≡ empty 32 → set ≡ held_below 0
  unfolding held_below mask_below
  held_first set e = e ∙ below_none 32 (λ j. test_bit atoms j && test_bit m (ground sch b j))

  pub held_next : (n bits : ℕ) (set new : List ℕ) → set ≡ held_below n → n % 16 ≡ 0 → n < 256
      → bits ≡ number (λ j. test_bit atoms j && test_bit m (ground sch b j)) n 16 → new ≡ stored_word set n bits → new ≡ held_below (n + 16)
  unfolding held_below
  held_next n bits set new e whole h is stored =
      stored ∙ rw e (word_next 32 (λ j. test_bit atoms j && test_bit m (ground sch b j)) n bits (omega arith) (omega arith) is)

  pub held_last : (n relations : ℕ) (set : List ℕ) → set ≡ held_below n → atoms_end relations ≤ n
      → ((j : ℕ) → atoms_end relations ≤ j → test_bit atoms j ≡ false) → set ≡ held_atoms sch b atoms m
  unfolding held_below mask_below held_atoms
  held_last n relations set e h none =
      e
      ∙ below_end 32 (λ j. test_bit atoms j && test_bit m (ground sch b j)) n
      (λ j l k. ap (λ (a : Bool). a && test_bit m (ground sch b j)) (none j (omega arith)))

-- the set, lent or not, has its 32 bytes
pub held_long : (sch : Schema) (b : Binding) (atoms m set : List ℕ) → set ≡ held_atoms sch b atoms m → length set ≡ set_size
unfolding held_atoms
held_long sch b atoms m set e = ap length e ∙ length_mask_of set_size (λ n. test_bit atoms n && test_bit m (ground sch b n))
