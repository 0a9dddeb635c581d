-- What a permutation keeps: which entries there are, how many, and the sum of a number of each.
use Prim.Native.Nat.{ℕ, ◌+◌}
use native.Mathlib.Omega.{arith}
use mathlib.Core.Path.{◌≡◌, refl, ap, ◌∙◌, subst}
use mathlib.Core.Logic.{◌↔◌}
use mathlib.Core.List.Permᴰ
use mathlib.Core.List.{List, [], ◌∷◌, flatten, Permᴰ}
use lib.ListN.{length, length-append}
use Rattle.quantify.specs.Quantify.{Mem, here, there}

module _ {A : Type 0} where
  member_over : {x : A} {xs ys : List A} → Permᴰ xs ys → Mem x xs → Mem x ys
  member_over Permᴰ.nil m = m
  member_over (Permᴰ.cons {a = a} {l₂ = l₂} e d) here = subst (λ (z : A). Mem a (z ∷ l₂)) e here
  member_over (Permᴰ.cons e d) (there m) = there (member_over d m)
  member_over (Permᴰ.swap {a = a} {l = l} e e') here = there (subst (λ (z : A). Mem a (z ∷ l)) e here)
  member_over (Permᴰ.swap {b = b} {b' = b'} {l = l} e e') (there here) = subst (λ (z : A). Mem b (z ∷ b' ∷ l)) e' here
  member_over (Permᴰ.swap e e') (there (there m)) = there (there m)
  member_over (Permᴰ.trans d d') m = member_over d' (member_over d m)

  -- A permutation keeps the members,
  pub members_kept : {xs ys : List A} → Permᴰ xs ys → (x : A) → Mem x xs ↔ Mem x ys
  members_kept d x = (member_over d, member_over (Permᴰ.symm d))

  -- the sum of a number of each entry
  unfoldable pub total : (A → ℕ) → List A → ℕ
  total f [] = 0
  total f (x ∷ xs) = f x + total f xs

  -- the sum,
  pub total_kept : (f : A → ℕ) {xs ys : List A} → Permᴰ xs ys → total f xs ≡ total f ys
  unfolding total
  total_kept f Permᴰ.nil = refl
  total_kept f (Permᴰ.cons e d) = let rest = total_kept f d in omega (arith, ap f e, rest)
  total_kept f (Permᴰ.swap e e') = omega (arith, ap f e, ap f e')
  total_kept f (Permᴰ.trans d d') = total_kept f d ∙ total_kept f d'

  -- and how many there are.
  pub length_kept : {xs ys : List A} → Permᴰ xs ys → length xs ≡ length ys
  length_kept Permᴰ.nil = refl
  length_kept (Permᴰ.cons e d) = let rest = length_kept d in omega arith
  length_kept (Permᴰ.swap e e') = refl
  length_kept (Permᴰ.trans d d') = length_kept d ∙ length_kept d'

-- as many bytes as all entries have
pub length_flatten : (rs : List (List ℕ)) → length (flatten rs) ≡ total length rs
unfolding flatten total
length_flatten [] = refl
length_flatten (r ∷ rs) = let rest = length_flatten rs in omega (arith, length-append r (flatten rs), rest)
