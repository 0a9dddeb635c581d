-- Entries of one size in order: each is tested against what was read of the one before it, and refused under one number at its own offset.
-- Facts of a state and goal entries of an order are such, by values or by keys. Where no entry looks back, answer/specs/Entries has the laws.
use Prim.Native.Nat.{ℕ, zero, suc, ◌+◌, ◌-◌, ◌*◌, ◌≤◌, ◌<◌}
use mathlib.Core.Path.{◌≡◌, sym, ap, ◌∙◌}
use mathlib.Core.Bool.{Bool, true, false}
use native.Mathlib.Nat.{mul-zero, mul-suc}
use native.Mathlib.Numerals.{sub-one}
use native.Mathlib.Omega.{arith}
use Rattle.answer.specs.Answer.{Answer, Good, Refused, ◌>>=◌, refuse}
use Rattle.answer.proofs.Laws.{good_refused, refuse_met, refuse_unmet, passed}
use Rattle.answer.proofs.Refusals.{row_cases}

-- `f` answers for a number of entries after one of which `last` was read; `read` is what is read at an offset
pub record Chain {A : Type 0} (f : ℕ → A → ℕ → Answer) (bad : A → ℕ → Bool) (read : ℕ → A) (num size : ℕ) : Type 0 where
  pub none : (last : A) (at : ℕ) → f 0 last at ≡ Good at
  pub more : (n : ℕ) (last : A) (at : ℕ) → f (suc n) last at ≡ (refuse (bad last at) num at >>= λ _. f n (read at) (at + size))

module _ {A : Type 0} {f : ℕ → A → ℕ → Answer} {bad : A → ℕ → Bool} {read : ℕ → A} {num size : ℕ} (chain : Chain f bad read num size) where
  -- equal cursors have equal answers
  pub chain_same : {n m : ℕ} {x y : A} {a b : ℕ} → a ≡ b → n ≡ m → x ≡ y → f n x a ≡ f m y b
  chain_same p q r = rw (p, q, r)

  -- a turn of a loop over entries: what is left answers as the whole, by what the test's call returned
  module _ {whole : Answer} {n : ℕ} {last : A} {at : ℕ} (left : f n last at ≡ whole) where
    pub chain_none : n ≡ 0 → Good at ≡ whole
    chain_none e = sym (chain.none last at) ∙ rw e at left

    module _ {b : Bool} (some : 0 < n) (told : b ≡ bad last at) where
      one_more_lem : f n last at ≡ (refuse (bad last at) num at >>= λ _. f (n - 1) (read at) (at + size))
      one_more_lem = go n some
        where
          go : (n : ℕ) → 0 < n → f n last at ≡ (refuse (bad last at) num at >>= λ _. f (n - 1) (read at) (at + size))
          go zero h = absurd (omega arith)
          go (suc n) h = rw sub-one (chain.more n last at)

      pub chain_refused : b ≡ true → Refused num at ≡ whole
      chain_refused e = sym (one_more_lem ∙ refuse_met _ _ _ _ (sym told ∙ e)) ∙ left

      pub chain_good : b ≡ false → f (n - 1) (read at) (at + size) ≡ whole
      chain_good e = sym (one_more_lem ∙ refuse_unmet _ _ _ _ (sym told ∙ e)) ∙ left

  -- the first of a number of good entries is not bad, and the others are good
  pub chain_parted : (n : ℕ) (last : A) (at next : ℕ) → f (suc n) last at ≡ Good next → (bad last at ≡ false) × (f n (read at) (at + size) ≡ Good next)
  chain_parted n last at next e = passed (bad last at) num at next _ (sym (chain.more n last at) ∙ e)

  -- good entries end after the last one
  pub chain_end : (n : ℕ) (last : A) (at next : ℕ) → f n last at ≡ Good next → next ≡ at + size * n
  chain_end zero last at next e =
      let p : at ≡ next = let q = sym (chain.none last at) ∙ e in cc in
      rw mul-zero (omega arith)
  chain_end (suc n) last at next e =
      let p = chain_end n _ _ _ (chain_parted n last at next e).1 in
      rw mul-suc (omega arith)

  -- a refusal has the entries' number, and stands among them
  pub chain_place : (n : ℕ) (last : A) (at k p : ℕ) → f n last at ≡ Refused k p → (k ≡ num) × (p ≤ at + size * n)
  chain_place zero last at k p e = good_refused at k p (sym (chain.none last at) ∙ e)
  chain_place (suc n) last at k p e =
      row_cases (bad last at) num at _ k p (sym (chain.more n last at) ∙ e) (λ x y. (x, omega arith))
      (λ unmet g.
      let w = chain_place n _ _ k p g in
      (w.0, rw mul-suc (omega arith)))

-- Entries that are good in one chain, read alike in another chain at offsets as far on, and tested there with no worse outcome, are good in the other.
module _ {A : Type 0} {f g : ℕ → A → ℕ → Answer} {bad bad' : A → ℕ → Bool} {read read' : ℕ → A} {num num' size : ℕ} (c : Chain f bad read num size) (d : Chain g bad' read' num' size) where
  pub chain_beside : (n : ℕ) (last : A) (a b next : ℕ)
      → ((i : ℕ) → i < n → (last : A) → bad last (a + size * i) ≡ false → bad' last (b + size * i) ≡ false)
      → ((i : ℕ) → i < n → read' (b + size * i) ≡ read (a + size * i))
      → f n last a ≡ Good next → g n last b ≡ Good (b + size * n)
  chain_beside zero last a b next test same e = d.none last b ∙ ap Good (rw mul-zero (omega arith))
  chain_beside (suc n) last a b next test same e =
      let (good, rest) = chain_parted c n last a next e in
      let first : (x : ℕ) → x + size * 0 ≡ x = λ x. rw mul-zero (omega arith) in
      let later : (x i : ℕ) → x + size + size * i ≡ x + size * suc i = λ x i. rw mul-suc (omega arith) in
      let good' : bad' last b ≡ false = rw (first b) at (test 0 (omega arith) last (rw (first a) good)) in
      let read_same : read' b ≡ read a = rw (first a, first b) at (same 0 (omega arith)) in
      d.more n last b ∙ refuse_unmet _ _ _ _ good' ∙ rw read_same
      (chain_beside n (read a) (a + size) (b + size) next (λ i l x. rw (later a i, later b i) (test (suc i) (omega arith) x)) (λ i l. rw (later a i, later b i) (same (suc i) (omega arith))) rest
      ∙ ap Good (later b n))
