-- The two quantifiers that the definitions use, and the entries of a list that have a property: all of them, and the first. "Every" is `not` of the quantifiers.
use Rattle.std.specs.Prelude.{ℕ, zero, suc, Bool, true, false, ◌||◌, List, [], ◌∷◌}

-- equality of two values
unfoldable pub same : Bool → Bool → Bool
same true true = true
same true false = false
same false true = false
same false false = true

-- `p` holds of some number below `n`
unfoldable pub below : ℕ → (ℕ → Bool) → Bool
below zero p = false
below (suc n) p = below n p || p n

-- `p` holds of some member of the list
unfoldable pub any : {A : Type 0} → (A → Bool) → List A → Bool
any p [] = false
any p (x ∷ xs) = p x || any p xs

-- the members that have the property, in their sequence (filter)
unfoldable pub chosen : {A : Type 0} → (A → Bool) → List A → List A
chosen p [] = []
chosen p (x ∷ xs) = elim (p x) [ true ↦ x ∷ chosen p xs | false ↦ chosen p xs ]

-- membership
pub data Mem {A : Type 0} (x : A) : List A → Type 0 where
  here : {xs : List A} → Mem x (x ∷ xs)
  there : {y : A} {xs : List A} → Mem x xs → Mem x (y ∷ xs)

-- the entry number `k`, counted from 1, is there and has the property
unfoldable pub has : {A : Type 0} → (A → Bool) → List A → ℕ → Bool
has p [] k = false
has p (x ∷ xs) zero = false
has p (x ∷ xs) (suc zero) = p x
has p (x ∷ xs) (suc (suc k)) = has p xs (suc k)

-- a number from 1 counted one further, 0 staying 0
unfoldable pub later : ℕ → ℕ
later zero = 0
later (suc k) = suc (suc k)

-- the number, from 1, of the first entry that has the property, 0 where none has
unfoldable pub first : {A : Type 0} → (A → Bool) → List A → ℕ
first p [] = 0
first p (x ∷ xs) = elim (p x) [ true ↦ 1 | false ↦ later (first p xs) ]

-- the smallest number from 1 to `n` that has the property, 0 where none has
unfoldable pub least : ℕ → (ℕ → Bool) → ℕ
least zero p = 0
least (suc n) p = elim (least n p) [ zero ↦ elim (p (suc n)) [ true ↦ suc n | false ↦ 0 ] | suc k ↦ suc k ]
