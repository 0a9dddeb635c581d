-- A walk over entries of one size, each refused under one number at its own offset: relations, moves, objects and steps of a plan alike.
use Prim.Native.Nat.{ℕ, zero, suc, ◌+◌, ◌-◌, ◌*◌, ◌≤◌, ◌<◌}
use mathlib.Core.Path.{◌≡◌, sym, ap, ◌∙◌}
use mathlib.Core.Bool.{Bool, true, false}
use native.Mathlib.Nat.{add-zero, mul-zero, mul-suc}
use native.Mathlib.Numerals.{sub-one}
use native.Mathlib.Omega.{arith}
use Rattle.answer.specs.Answer.{Answer, Good, Refused, ◌>>=◌, refuse}
use Rattle.answer.proofs.Laws.{good_refused, bind_good, refuse_met, refuse_unmet, passed}
use Rattle.answer.proofs.Refusals.{row_cases}
use Rattle.answer.proofs.Items.{items_place}
use Rattle.answer.specs.Walk.{walk}
use Rattle.answer.proofs.Walks.{walk_refused, walk_good, walk_parted, walk_induction}

-- an entry that says where the next one starts
abbrev pub Entry : (ℕ → Answer) → (ℕ → Bool) → ℕ → ℕ → Type 0
Entry item bad num size = (at : ℕ) → item at ≡ (refuse (bad at) num at >>= λ next. Good (at + size))

module _ (item : ℕ → Answer) (bad : ℕ → Bool) (num size : ℕ) (is : Entry item bad num size) where
  -- a turn of a loop over entries: what is left of the walk answers as the whole, by what the test's call returned
  module _ (whole : Answer) (n at : ℕ) (b : Bool) (left : walk item n at ≡ whole) (some : 0 < n) (told : b ≡ bad at) where
    pub entry_refused : b ≡ true → Refused num at ≡ whole
    entry_refused e = sym (walk_refused item n at num at some (is at ∙ refuse_met _ _ _ _ (sym told ∙ e))) ∙ left

    pub entry_good : b ≡ false → walk item (n - 1) (at + size) ≡ whole
    entry_good e = sym (walk_good item n at (at + size) some (is at ∙ refuse_unmet _ _ _ _ (sym told ∙ e))) ∙ left

  pub item_good : (at m : ℕ) → item at ≡ Good m → (bad at ≡ false) × (m ≡ at + size)
  item_good at m e =
      let r = passed (bad at) num at m _ (sym (is at) ∙ e) in
      let g = r.1 in
      (r.0, cc)

  -- a good walk ends after the last entry
  pub entries_end : (n at m : ℕ) → walk item n at ≡ Good m → m ≡ at + size * n
  entries_end =
      walk_induction item (λ n at m. m ≡ at + size * n) (λ at. rw mul-zero (omega arith))
      (λ n at next m good rest. rw mul-suc (omega (arith, (item_good at next good).1)))

  -- no entry of a good walk is bad
  pub entries_right : (n at m : ℕ) → walk item n at ≡ Good m → (i : ℕ) → i < n → bad (at + size * i) ≡ false
  entries_right zero at m e i h = absurd (omega arith)
  entries_right (suc n) at m e zero h =
      let (next, good, rest) = walk_parted item n at m e in
      let w : at + size * zero ≡ at = rw mul-zero (omega arith) in
      rw w (item_good at next good).0
  entries_right (suc n) at m e (suc i) h =
      let (next, good, rest) = walk_parted item n at m e in
      let place = (item_good at next good).1 in
      let w : at + size * suc i ≡ next + size * i = rw mul-suc (omega arith) in
      rw w (entries_right n next m rest i (omega arith))

  -- entries none of which is bad
  pub entries_all : (n at : ℕ) → ((i : ℕ) → i < n → bad (at + size * i) ≡ false) → walk item n at ≡ Good (at + size * n)
  unfolding walk
  entries_all zero at f = rw (mul-zero, add-zero)
  entries_all (suc n) at f =
      let b : bad at ≡ false = rw (mul-zero, add-zero) at (f 0 (omega arith)) in
      let next : (i : ℕ) → at + size + size * i ≡ at + size * suc i = λ i. rw mul-suc (omega arith) in
      bind_good _ _ _ (is at ∙ refuse_unmet _ _ _ _ b)
      ∙ entries_all n (at + size) (λ i l. rw (next i) (f (suc i) (omega arith)))
      ∙ ap Good (next n)

  -- the first bad entry is refused
  pub entries_first : (n at i : ℕ) → i < n → ((j : ℕ) → j < i → bad (at + size * j) ≡ false) → bad (at + size * i) ≡ true → walk item n at ≡ Refused num (at + size * i)
  entries_first zero at i h f t = absurd (omega arith)
  entries_first (suc n) at zero h f t =
      let w : at + size * zero ≡ at = rw mul-zero (omega arith) in
      rw w (walk_refused item (suc n) at num at (omega arith) (is at ∙ refuse_met _ _ _ _ (rw w at t)))
  entries_first (suc n) at (suc i) h f t =
      let b : bad at ≡ false = rw (mul-zero, add-zero) at (f 0 (omega arith)) in
      let next : (j : ℕ) → at + size + size * j ≡ at + size * suc j = λ j. rw mul-suc (omega arith) in
      walk_good item (suc n) at (at + size) (omega arith) (is at ∙ refuse_unmet _ _ _ _ b)
      ∙ rw sub-one (rw (← next i) (entries_first n (at + size) i (omega arith) (λ j l. rw (next j) (f (suc j) (omega arith))) (rw (next i) t)))

  -- a refusal has the entries' number, and stands among them
  pub entries_place : (n at k p : ℕ) → walk item n at ≡ Refused k p → (k ≡ num) × (p ≤ at + size * n)
  entries_place =
      items_place item num size (λ at next good. omega (arith, (item_good at next good).1))
      (λ at k p e. row_cases (bad at) num at _ k p (sym (is at) ∙ e) (λ x y. (x, omega arith)) (λ x y. good_refused (at + size) k p y))
