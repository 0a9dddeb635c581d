-- Two lists of facts of a book compared byte by byte, as the code does, are compared fact by fact.
use Prim.Native.Nat.{ℕ, zero, suc, ◌+◌, ◌*◌, ◌≤◌}
use native.Mathlib.Omega.{arith}
use mathlib.Core.Path.{◌≡◌, refl, sym, ap, ◌∙◌}
use mathlib.Core.Bool.{Bool, true, false, ◌&&◌}
use mathlib.Core.List.{List, ◌∷◌}
use lib.ListN.{length, take, drop, get_or}
use lib.Pointwise.{pointwise}
use Rattle.std.specs.Prelude.{nat_eq}
use Rattle.std.proofs.Math.Seq.{drop-cons}
use Rattle.truth.specs.Bools.{is_false}
use Rattle.limits.specs.Limits.{count_size, fact_size}
use Rattle.input.specs.Bytes.{byte_at, two}
use Rattle.terms.specs.Facts.{fact_at, same_fact, same_facts}
use Rattle.terms.proofs.Same.{same_facts_lem}
use Rattle.format.specs.Lists.{facts_at, list_at}
use Rattle.factsets.proofs.States.{length_facts}

-- three bytes, and then the others
three_first : (x y z r : Bool) → (x && (y && (z && r))) ≡ (x && y && z && r)
three_first true true true r = refl
three_first true true false r = refl
three_first true false z r = refl
three_first false y z r = refl

module _ (s : List ℕ) where
  -- the bytes of a number of facts, from an offset
  abbrev run : ℕ → ℕ → List ℕ
  run n at = take (fact_size * n) (drop at s)

  run_first : (n at : ℕ) → at + fact_size * suc n ≤ length s
      → run (suc n) at ≡ get_or s at 0 ∷ (get_or s (at + 1) 0 ∷ (get_or s (at + 2) 0 ∷ run n (at + fact_size)))
  run_first n at h =
      let w : fact_size * suc n ≡ suc (suc (suc (fact_size * n))) = omega arith in
      let one : at + 1 ≡ suc at = omega arith in
      let two : at + 2 ≡ suc (suc at) = omega arith in
      let three : at + fact_size ≡ suc (suc (suc at)) = omega arith in
      rw (w, one, two, three, drop-cons s at 0 (omega arith), drop-cons s (suc at) 0 (omega arith), drop-cons s (suc (suc at)) 0 (omega arith))

  pub runs_same : (n p q : ℕ) → p + fact_size * n ≤ length s → q + fact_size * n ≤ length s
      → pointwise nat_eq (run n p) (run n q) ≡ same_facts (facts_at s n p) (facts_at s n q)
  unfolding facts_at same_facts fact_at same_fact byte_at
  runs_same zero p q h k = refl
  runs_same (suc n) p q h k =
      rw (run_first n p h, run_first n q k, ← runs_same n (p + fact_size) (q + fact_size) (omega arith) (omega arith))
      (three_first (nat_eq (get_or s p 0) (get_or s q 0)) (nat_eq (get_or s (p + 1) 0) (get_or s (q + 1) 0)) (nat_eq (get_or s (p + 2) 0) (get_or s (q + 2) 0)) _)

  -- Lists of which one has more facts differ; others are compared by their facts.
  module _ (p q n m : ℕ) (first : n ≡ two s p) (second : m ≡ two s q) where
    pub lists_differ : (m ≡ n → ⊥) → false ≡ same_facts (list_at s p) (list_at s q)
    unfolding list_at
    lists_differ apart =
        sym (is_false _ (λ e.
        apart
        (second ∙ sym (length_facts s (two s q) (q + count_size)) ∙ sym (ap length (same_facts_lem _ _ e)) ∙ length_facts s (two s p) (p + count_size) ∙ sym first)))

    pub lists_alike : m ≡ n → (b : Bool) → b ≡ same_facts (facts_at s m (p + count_size)) (facts_at s m (q + count_size)) → b ≡ same_facts (list_at s p) (list_at s q)
    unfolding list_at
    lists_alike e b told = rw (← first, ← second, ← e) told
