-- A loop that turns the facts of a list, one turn at a time.
use Prim.Native.Nat.{ℕ, suc, ◌+◌, ◌-◌, ◌*◌, ◌≤◌, ◌<◌}
use native.Mathlib.Omega.{arith}
use mathlib.Core.Path.{◌≡◌, refl, ◌∙◌}
use mathlib.Core.List.{List, [], ◌∷◌}
use mathlib.Core.Bool.{true, false}
use lib.ListN.{length}
use Rattle.limits.specs.Limits.{fact_size, max_fact_numbers, state_size}
use Rattle.mask.specs.Bits.{test_bit, flip_bit, Bytes}
use Rattle.mask.specs.Sets.{cardinality}
use Rattle.mask.proofs.Flips.{length_flip_bit, cardinality_flip_in, cardinality_flip_out, cardinality_most}
use Rattle.terms.specs.declared.Fact.{Fact}
use Rattle.terms.specs.Facts.{fact_at, fact_number}
use Rattle.format.specs.Lists.{facts_at}
use Rattle.quantify.specs.Quantify.{here, there}
use Rattle.turning.specs.Turning.{flipped, Numbered}

-- of n facts from an offset those after the first i
abbrev pub left_of : List ℕ → ℕ → ℕ → ℕ → List Fact
left_of s n at i = facts_at s (n - i) (at + fact_size * i)

module _ (s : List ℕ) (n at : ℕ) where
  pub left_first : left_of s n at 0 ≡ facts_at s n at
  left_first =
      let p : n - 0 ≡ n = omega arith in
      let q : at + fact_size * 0 ≡ at = omega arith in
      rw (p, q)

  pub left_none : (i : ℕ) → n ≤ i → left_of s n at i ≡ []
  unfolding facts_at
  left_none i h =
      let p : n - i ≡ 0 = omega arith in
      rw p

  -- the fact at i, and those after it
  pub left_more : (i : ℕ) (f : Fact) → i < n → f ≡ fact_at s (at + fact_size * i) → left_of s n at i ≡ f ∷ left_of s n at (i + 1)
  unfolding facts_at
  left_more i f h e =
      let p : n - i ≡ suc (n - (i + 1)) = omega arith in
      let q : at + fact_size * (i + 1) ≡ at + fact_size * i + fact_size = omega arith in
      rw (p, q, e)

pub length_flipped : (fs : List Fact) (m : List ℕ) → length (flipped fs m) ≡ length m
unfolding flipped
length_flipped [] m = refl
length_flipped (f ∷ fs) m = length_flipped fs (flip_bit m (fact_number f)) ∙ length_flip_bit m (fact_number f)

-- the first of some facts turned, and then the others
pub flipped_more : (fs gs : List Fact) (f : Fact) (m m' : List ℕ) → fs ≡ f ∷ gs → m' ≡ flip_bit m (fact_number f) → flipped gs m' ≡ flipped fs m
unfolding flipped
flipped_more fs gs f m m' p q = rw (p, q)

pub flipped_none : (fs : List Fact) (m : List ℕ) → fs ≡ [] → flipped fs m ≡ m
unfolding flipped
flipped_none fs m e = rw e

-- if they all have bits, the first has, and the others
pub numbered_first : (fs gs : List Fact) (f : Fact) → fs ≡ f ∷ gs → Numbered fs → fact_number f < max_fact_numbers
numbered_first fs gs f p k = k f (rw p here)

pub numbered_rest : (fs gs : List Fact) (f : Fact) → fs ≡ f ∷ gs → Numbered fs → Numbered gs
numbered_rest fs gs f p k g m = k g (rw p (there m))

-- one fact turned: how many hold
module _ (m : List ℕ) (n count : ℕ) (bytes : Bytes m) (long : length m ≡ state_size) (low : n < max_fact_numbers) (told : count ≡ cardinality m) where
  pub turn_in : test_bit m n ≡ true → (1 ≤ count) × (count - 1 ≡ cardinality (flip_bit m n))
  turn_in e = let w = cardinality_flip_in m n bytes (omega arith) e in (omega arith, omega arith)

  pub turn_out : test_bit m n ≡ false → (count ≤ max_fact_numbers) × (count + 1 ≡ cardinality (flip_bit m n))
  turn_out e =
      let w = cardinality_flip_out m n bytes (omega arith) e in
      let l = cardinality_most m bytes in
      (omega arith, omega arith)
