-- A walk over items of different sizes, none longer than `most`, each refused under one number within itself: the starts of an order. Where
-- all items have one size, Entries has the laws.
use Prim.Native.Nat.{ℕ, zero, suc, ◌+◌, ◌*◌, ◌≤◌}
use mathlib.Core.Path.{◌≡◌}
use native.Mathlib.Nat.{mul-zero, mul-suc}
use native.Mathlib.Omega.{arith}
use Rattle.answer.specs.Answer.{Answer, Good, Refused}
use Rattle.answer.proofs.Laws.{good_refused}
use Rattle.answer.proofs.Refusals.{refused_cases}
use Rattle.answer.specs.Walk.{walk}
use Rattle.answer.proofs.Walks.{walk_induction}

module _ (item : ℕ → Answer) (num most : ℕ)
    (reach : (at next : ℕ) → item at ≡ Good next → next ≤ at + most)
    (refuses : (at k p : ℕ) → item at ≡ Refused k p → (k ≡ num) × (p ≤ at + most)) where
  -- where a good walk ends
  pub items_end : (n at last : ℕ) → walk item n at ≡ Good last → last ≤ at + most * n
  items_end =
      walk_induction item (λ n at last. last ≤ at + most * n) (λ at. rw mul-zero (omega arith))
      (λ n at next last good rest. rw mul-suc (omega (arith, reach at next good)))

  -- a refusal has the items' number, and stands among them
  pub items_place : (n at k p : ℕ) → walk item n at ≡ Refused k p → (k ≡ num) × (p ≤ at + most * n)
  unfolding walk
  items_place zero at k p e = good_refused at k p e
  items_place (suc n) at k p e =
      refused_cases (item at) _ k p e (λ f. let t = refuses at k p f in (t.0, rw mul-suc (omega arith)))
      (λ m f g.
      let t = items_place n m k p g in
      let r = reach at m f in
      (t.0, rw mul-suc (omega arith)))
