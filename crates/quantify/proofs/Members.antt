-- Members of lists joined, and of the lists that the entries of a list give: records in another sequence give the same transitions.
use Prim.Native.Nat.{◌≤◌}
use native.Mathlib.Omega.{arith}
use mathlib.Core.Logic.{◌⊎◌, inl, inr, ◌↔◌}
use mathlib.Core.List.{List, [], ◌∷◌, ◌++◌, flat_map}
use lib.ListN.{length}
use Rattle.quantify.specs.Quantify.{Mem, here, there}

module _ {A : Type 0} where
  pub mem_left : {x : A} {xs : List A} (ys : List A) → Mem x xs → Mem x (xs ++ ys)
  mem_left ys here = here
  mem_left ys (there m) = there (mem_left ys m)

  pub mem_right : {x : A} (xs : List A) {ys : List A} → Mem x ys → Mem x (xs ++ ys)
  mem_right [] m = m
  mem_right (y ∷ xs) m = there (mem_right xs m)

  pub mem_out : {x : A} (xs : List A) {ys : List A} → Mem x (xs ++ ys) → Mem x xs ⊎ Mem x ys
  mem_out [] m = inr m
  mem_out (y ∷ xs) here = inl here
  mem_out {x} (y ∷ xs) {ys} (there m) = go (mem_out xs m)
    where
      go : Mem x xs ⊎ Mem x ys → Mem x (y ∷ xs) ⊎ Mem x ys
      go (inl k) = inl (there k)
      go (inr k) = inr k

  pub some_member : (xs : List A) → 1 ≤ length xs → (x : A) × Mem x xs
  some_member [] l = absurd (omega arith)
  some_member (x ∷ xs) l = (x, here)

module _ {A B : Type 0} (f : A → List B) where
  pub flat_in : {b : B} {x : A} (xs : List A) → Mem x xs → Mem b (f x) → Mem b (flat_map f xs)
  unfolding flat_map
  flat_in {b = b} [] x3 m = elim x3 [ ]
  flat_in (x ∷ xs) here m = mem_left (flat_map f xs) m
  flat_in (y ∷ xs) (there k) m = mem_right (f y) (flat_in xs k m)

  pub flat_out : {b : B} (xs : List A) → Mem b (flat_map f xs) → (x : A) × Mem x xs × Mem b (f x)
  unfolding flat_map
  flat_out {b = b} [] m = elim m [ ]
  flat_out {b} (x ∷ xs) m = go (mem_out (f x) m) (flat_out xs)
    where
      go : Mem b (f x) ⊎ Mem b (flat_map f xs) → (Mem b (flat_map f xs) → (y : A) × Mem y xs × Mem b (f y)) → (y : A) × Mem y (x ∷ xs) × Mem b (f y)
      go (inl h) rest = (x, here, h)
      go (inr h) rest = let (y, k, q) = rest h in (y, there k, q)

  -- the same entries, in whatever sequence: the same members
  pub flat_alike : (xs ys : List A) → ((x : A) → Mem x xs ↔ Mem x ys) → (b : B) → Mem b (flat_map f xs) ↔ Mem b (flat_map f ys)
  flat_alike xs ys same b =
      (λ m. let (x, k, h) = flat_out xs m in flat_in ys ((same x).0 k) h, λ m. let (x, k, h) = flat_out ys m in flat_in xs ((same x).1 k) h)
