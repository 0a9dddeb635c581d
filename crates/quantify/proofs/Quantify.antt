-- The quantifiers, and the first and the smallest that has a property: one law into each and one out of it, and the turns of a loop to it.
use Prim.Native.Nat.{ℕ, zero, suc, ◌+◌, ◌≤◌, ◌<◌}
use native.Mathlib.Decide.{dec_lt}
use native.Mathlib.Numerals.{add-one}
use native.Mathlib.Omega.{arith}
use lib.Dec.{eqb, ltb}
use lib.ListN.{length}
use borrow.Author.Tests.{eqb-true, eqb-false, lt-ltb}
use mathlib.Core.Path.{◌≡◌, refl, sym, ap, ap₂, subst, ◌∙◌}
use mathlib.Core.Logic.{◌⊎◌, inl, inr, ◌↔◌}
use mathlib.Core.Bool.{Bool, true, false, ◌||◌, or-false}
use mathlib.Core.List.{List, [], ◌∷◌, ◌++◌, map}
use Rattle.truth.specs.Bools.{clash, decide, is_true, bool_eq, or_left, or_right, or_out, neither}
use Rattle.quantify.specs.Quantify.{below, any, Mem, here, there, has, later, first, least}

module _ {A : Type 0} where
  pub any_in : (p : A → Bool) (xs : List A) {x : A} → Mem x xs → p x ≡ true → any p xs ≡ true
  unfolding any
  any_in p [] x4 e = elim x4 [ ]
  any_in p (x ∷ xs) here e = or_left (p x) (any p xs) e
  any_in p (y ∷ xs) (there m) e = or_right (p y) (any p xs) (any_in p xs m e)

  pub any_out : (p : A → Bool) (xs : List A) → any p xs ≡ true → (x : A) × Mem x xs × (p x ≡ true)
  unfolding any
  any_out p [] e = clash false e refl
  any_out p (x ∷ xs) e = go (or_out (p x) (any p xs) e) (any_out p xs)
    where
      go : (p x ≡ true) ⊎ (any p xs ≡ true) → (any p xs ≡ true → (y : A) × Mem y xs × (p y ≡ true)) → (y : A) × Mem y (x ∷ xs) × (p y ≡ true)
      go (inl h) out = (x, here, h)
      go (inr h) out = let (y, m, q) = out h in (y, there m, q)

  -- what holds of some member depends on the members alone
  pub any_alike : (p : A → Bool) (xs ys : List A) → ((x : A) → Mem x xs ↔ Mem x ys) → any p xs ≡ any p ys
  any_alike p xs ys alike =
      bool_eq
      (any p xs)
      (any p ys)
      (λ e. let (x, m, h) = any_out p xs e in any_in p ys ((alike x).0 m) h)
      (λ e. let (x, m, h) = any_out p ys e in any_in p xs ((alike x).1 m) h)

  pub any_append : (p : A → Bool) (xs ys : List A) → any p (xs ++ ys) ≡ (any p xs || any p ys)
  unfolding any
  any_append p [] ys = refl
  any_append p (x ∷ xs) ys = go (p x) (any_append p xs ys)
    where
      go : (b : Bool) → any p (xs ++ ys) ≡ (any p xs || any p ys) → (b || any p (xs ++ ys)) ≡ (b || any p xs || any p ys)
      go true e = refl
      go false e = e

pub below_in : (n : ℕ) (p : ℕ → Bool) (k : ℕ) → k < n → p k ≡ true → below n p ≡ true
unfolding below
below_in zero p k h e = absurd (omega arith)
below_in (suc n) p k h e = go (decide (eqb k n)) (below_in n p k)
  where
    go : (eqb k n ≡ true) ⊎ (eqb k n ≡ false) → (k < n → p k ≡ true → below n p ≡ true) → (below n p || p n) ≡ true
    go (inl q) deeper = or_right (below n p) (p n) (rw (eqb-true k n q) at e)
    go (inr q) deeper = or_left (below n p) (p n) (deeper (omega (arith, eqb-false k n q)) e)

pub below_out : (n : ℕ) (p : ℕ → Bool) → below n p ≡ true → (k : ℕ) × (k < n) × (p k ≡ true)
unfolding below
below_out zero p e = clash false e refl
below_out (suc n) p e = go (or_out (below n p) (p n) e) (below_out n p)
  where
    go : (below n p ≡ true) ⊎ (p n ≡ true) → (below n p ≡ true → (k : ℕ) × (k < n) × (p k ≡ true)) → (k : ℕ) × (k < suc n) × (p k ≡ true)
    go (inl h) out = let (k, l, q) = out h in (k, omega arith, q)
    go (inr h) out = (n, omega arith, h)

-- tests of the same values, below the bound or everywhere
pub below_cong : (n : ℕ) (p q : ℕ → Bool) → ((k : ℕ) → k < n → p k ≡ q k) → below n p ≡ below n q
unfolding below
below_cong zero p q h = refl
below_cong (suc n) p q h = ap₂ (λ (b c : Bool). b || c) (below_cong n p q (λ k l. h k (omega arith))) (h n (omega arith))

pub below_same : (n : ℕ) (p q : ℕ → Bool) → ((k : ℕ) → p k ≡ q k) → below n p ≡ below n q
below_same n p q h = below_cong n p q (λ k l. h k)

-- a bound beyond which nothing is
pub below_wide : (m n : ℕ) (p : ℕ → Bool) → n ≤ m → ((k : ℕ) → p k ≡ true → k < n) → below m p ≡ below n p
below_wide m n p h ranged =
    bool_eq _ _ (λ e. let (k, l, t) = below_out m p e in below_in n p k (ranged k t) t)
    (λ e. let (k, l, t) = below_out n p e in below_in m p k (omega arith) t)

-- one number more, of which the test fails
pub below_skip : (n : ℕ) (p : ℕ → Bool) → p n ≡ false → below (n + 1) p ≡ below n p
unfolding below
below_skip n p e = rw (add-one n, e) (or-false (below n p))

-- the smallest of tests with the same values
pub least_same : (n : ℕ) (p q : ℕ → Bool) → ((j : ℕ) → 1 ≤ j → j ≤ n → p j ≡ q j) → least n p ≡ least n q
unfolding least
least_same zero p q h = refl
least_same (suc n) p q h =
    ap₂
    (λ (k : ℕ) (b : Bool). elim k as (λ x. ℕ) [ zero ↦ elim b as (λ x. ℕ) [ true ↦ suc n | false ↦ 0 ] | suc k ↦ suc k ])
    (least_same n p q (λ j l k. h j l (omega arith)))
    (h (suc n) (omega arith) (omega arith))

module _ {A : Type 0} (p : A → Bool) where
  -- 0 where no entry has the property, else the number of one that has it, and of none before it
  abbrev pub First : List A → ℕ → Type 0
  First xs zero = (j : ℕ) → has p xs j ≡ true → ⊥
  First xs (suc k) = (has p xs (suc k) ≡ true) × ((j : ℕ) → has p xs j ≡ true → suc k ≤ j)

  pub has_from_1 : (xs : List A) (j : ℕ) → has p xs j ≡ true → 1 ≤ j
  unfolding has
  has_from_1 [] j e = clash false e refl
  has_from_1 (x ∷ xs) zero e = clash false e refl
  has_from_1 (x ∷ xs) (suc j) e = omega arith

  has_after : (x : A) (xs : List A) (j : ℕ) → p x ≡ false → has p (x ∷ xs) j ≡ true → (i : ℕ) × (j ≡ suc i) × (has p xs i ≡ true)
  unfolding has
  has_after x xs zero h e = clash false e refl
  has_after x xs (suc zero) h e = clash (p x) e h
  has_after x xs (suc (suc j)) h e = (suc j, refl, e)

  first_after : (x : A) (xs : List A) (k : ℕ) → p x ≡ false → First xs k → First (x ∷ xs) (later k)
  unfolding later has
  first_after x xs zero h law = λ j e. let (i, q, m) = has_after x xs j h e in law i m
  first_after x xs (suc k) h law = (law.0, λ j e. let (i, q, m) = has_after x xs j h e in omega (arith, law.1 i m))

  pub first_law : (xs : List A) → First xs (first p xs)
  unfolding first has
  first_law [] = λ j e. clash false e refl
  first_law (x ∷ xs) = go (decide (p x)) (first_law xs)
    where
      go : (p x ≡ true) ⊎ (p x ≡ false) → First xs (first p xs) → First (x ∷ xs) (first p (x ∷ xs))
      go (inl e) law = rw (e, first) (e, has_from_1 (x ∷ xs))
      go (inr e) law = rw (e, first) (first_after x xs (first p xs) e law)

  -- there is a first exactly if some member has the property
  pub first_none : (xs : List A) → first p xs ≡ 0 ↔ any p xs ≡ false
  unfolding first any later
  first_none [] = (λ e. refl, λ e. refl)
  first_none (x ∷ xs) = go (p x) (first p xs) (first_none xs)
    where
      go : (b : Bool) (k : ℕ) → (k ≡ 0 ↔ any p xs ≡ false) → ◌≡◌ {A = ℕ} (elim b as (λ c. ℕ) [ true ↦ 1 | false ↦ later k ]) 0 ↔ (b || any p xs) ≡ false
      go true k h = (λ e. absurd (omega arith), λ e. clash true refl e)
      go false zero h = h
      go false (suc k) h = (λ e. absurd (omega arith), λ e. absurd (omega (arith, h.1 e)))

  pub first_most : (xs : List A) → first p xs ≤ length xs
  unfolding first later
  first_most [] = omega arith
  first_most (x ∷ xs) = go (p x) (first p xs) (first_most xs)
    where
      go : (b : Bool) (k : ℕ) → k ≤ length xs → elim b as (λ x. ℕ) [ true ↦ 1 | false ↦ later k ] ≤ suc (length xs)
      go true k h = omega arith
      go false zero h = omega arith
      go false (suc k) h = omega arith

  -- the number of the first that has the property, the first entry having number i
  unfoldable pub first_from : List A → ℕ → ℕ
  first_from [] i = 0
  first_from (x ∷ xs) i = elim (p x) [ true ↦ i | false ↦ first_from xs (suc i) ]

  shifted : ℕ → ℕ → ℕ
  shifted i zero = 0
  shifted i (suc k) = suc k + i

  pub first_from_lem : (xs : List A) → first_from xs 1 ≡ first p xs
  unfolding shifted first_from first later
  first_from_lem xs = from xs 0 ∙ whole (first p xs)
    where
      whole : (k : ℕ) → shifted 0 k ≡ k
      whole zero = refl
      whole (suc k) = omega arith

      turn : (b : Bool) (i k r : ℕ) → r ≡ shifted (suc i) k
          → ◌≡◌ {A = ℕ} (elim b as (λ c. ℕ) [ true ↦ suc i | false ↦ r ]) (shifted i (elim b as (λ c. ℕ) [ true ↦ 1 | false ↦ later k ]))
      turn true i k r e = omega arith
      turn false i zero r e = e
      turn false i (suc k) r e = omega arith

      from : (ys : List A) (i : ℕ) → first_from ys (suc i) ≡ shifted i (first p ys)
      from [] i = refl
      from (y ∷ ys) i = turn (p y) i (first p ys) (first_from ys (suc (suc i))) (from ys (suc i))

-- the first of a list mapped, where each member passes as it does mapped
pub first_map : {A B : Type 0} (p : A → Bool) (q : B → Bool) (f : A → B) → ((x : A) → p x ≡ q (f x)) → (xs : List A) → first p xs ≡ first q (map f xs)
unfolding first
first_map p q f h [] = refl
first_map p q f h (x ∷ xs) = ap₂ (λ (b : Bool) (k : ℕ). elim b as (λ c. ℕ) [ true ↦ 1 | false ↦ later k ]) (h x) (first_map p q f h xs)

module _ (p : ℕ → Bool) where
  -- 0 where no number from 1 to n has the property, else the smallest that has it
  abbrev pub Least : ℕ → ℕ → Type 0
  Least n zero = (j : ℕ) → 1 ≤ j → j ≤ n → p j ≡ false
  Least n (suc k) = (suc k ≤ n) × (p (suc k) ≡ true) × ((j : ℕ) → 1 ≤ j → j ≤ k → p j ≡ false)

  pub least_law : (n : ℕ) → Least n (least n p)
  unfolding least
  least_law zero = λ j h k. absurd (omega arith)
  least_law (suc n) = go (least n p) (least_law n) (p (suc n)) refl
    where
      last : (j : ℕ) → j ≤ suc n → (eqb j (suc n) ≡ true) ⊎ (eqb j (suc n) ≡ false) → (j ≤ n → p j ≡ false) → p (suc n) ≡ false → p j ≡ false
      last j h (inl q) under e = rw (eqb-true j (suc n) q) e
      last j h (inr q) under e = under (omega (arith, eqb-false j (suc n) q))

      go : (k : ℕ) → Least n k → (b : Bool) → p (suc n) ≡ b → Least (suc n) (elim k as (λ x. ℕ) [ zero ↦ elim b as (λ x. ℕ) [ true ↦ suc n | false ↦ 0 ] | suc k ↦ suc k ])
      go zero law true e = (omega arith, e, law)
      go zero law false e = λ j h l. last j l (decide (eqb j (suc n))) (law j h) e
      go (suc k) law b e = (omega arith, law.1, law.2)

  -- there is a smallest exactly if some number has the property
  pub least_none : (n : ℕ) → least n p ≡ 0 ↔ below n (λ k. p (suc k)) ≡ false
  unfolding least below
  least_none zero = (λ e. refl, λ e. refl)
  least_none (suc n) = go (least n p) (p (suc n)) (least_none n)
    where
      go : (k : ℕ) (b : Bool) → (k ≡ 0 ↔ below n (λ j. p (suc j)) ≡ false) → ◌≡◌ {A = ℕ} (elim k as (λ x. ℕ) [ zero ↦ elim b as (λ x. ℕ) [ true ↦ suc n | false ↦ 0 ] | suc k ↦ suc k ]) 0 ↔ (below n (λ j. p (suc j)) || b) ≡ false
      go zero true h = (λ e. absurd (omega arith), λ e. clash true refl (neither (below n (λ j. p (suc j))) true e).1)
      go zero false h = (λ e. rw (h.0 refl), λ e. refl)
      go (suc k) b h = (λ e. absurd (omega arith), λ e. h.1 (neither (below n (λ j. p (suc j))) b e).0)

  pub below_least : (n : ℕ) → below n (λ k. p (suc k)) ≡ ltb 0 (least n p)
  below_least n = go (least n p) (least_none n)
    where
      go : (k : ℕ) → (k ≡ 0 ↔ below n (λ j. p (suc j)) ≡ false) → below n (λ j. p (suc j)) ≡ ltb 0 k
      go zero h = h.0 refl
      go (suc k) h = is_true _ (λ e. absurd (omega (arith, h.1 e))) ∙ sym (lt-ltb 0 (suc k) (omega arith))

  -- ---- the smallest, going up: none below 1, none up to the next, the next, and none up to the last
  pub least_first : least 0 p ≡ 0
  unfolding least
  least_first = refl

  pub least_next : (i : ℕ) (b : Bool) → least i p ≡ 0 → b ≡ p (i + 1) → b ≡ false → least (i + 1) p ≡ 0
  unfolding least
  least_next i b e f g =
      let q : p (suc i) ≡ false = rw add-one at (sym f ∙ g) in
      rw (add-one, least, e, q)

  pub least_found : (i n : ℕ) (b : Bool) → least i p ≡ 0 → b ≡ p (i + 1) → b ≡ true → i + 1 ≤ n → i + 1 ≡ least n p
  least_found i n b e f g h = go (least n p) (least_law n)
    where
      none : Least i 0
      none = subst (Least i) e (least_law i)

      go : (k : ℕ) → Least n k → i + 1 ≡ k
      go zero law = clash (p (i + 1)) (sym f ∙ g) (law (i + 1) (omega arith) h)
      go (suc k) law = meets (dec_lt k i) (dec_lt i k)
        where
          meets : Dec (k < i) → Dec (i < k) → i + 1 ≡ suc k
          meets (yes l) m = clash (p (suc k)) law.1 (none (suc k) (omega arith) (omega arith))
          meets (no l) (yes m) = clash (p (i + 1)) (sym f ∙ g) (law.2 (i + 1) (omega arith) (omega arith))
          meets (no l) (no m) = omega arith

  pub least_unfound : (i n : ℕ) → least i p ≡ 0 → i ≤ n → n ≤ i → 0 ≡ least n p
  least_unfound i n e h k =
      let q : i ≡ n = omega arith in
      sym e ∙ ap (λ (j : ℕ). least j p) q
