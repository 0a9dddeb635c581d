-- The members of a list that have a property: which they are, and how they are chosen from lists joined, mapped, or of the same members.
use mathlib.Core.Path.{◌≡◌, refl, sym, ap, ◌∙◌}
use mathlib.Core.Logic.{◌⊎◌, inl, inr, ◌↔◌}
use mathlib.Core.Bool.{Bool, true, false, ◌&&◌, ◌||◌}
use mathlib.Core.List.{List, [], ◌∷◌, ◌++◌, map}
use Rattle.truth.specs.Bools.{decide, neither}
use Rattle.quantify.specs.Quantify.{any, Mem, here, there, chosen}

module _ {A : Type 0} (p : A → Bool) where
  -- the first member is taken if it has the property, and skipped if it does not
  pub chosen_take : (x : A) (xs : List A) → p x ≡ true → chosen p (x ∷ xs) ≡ x ∷ chosen p xs
  unfolding chosen
  chosen_take x xs e = rw (e, chosen)

  pub chosen_skip : (x : A) (xs : List A) → p x ≡ false → chosen p (x ∷ xs) ≡ chosen p xs
  unfolding chosen
  chosen_skip x xs e = rw (e, chosen)

  pub chosen_in : (xs : List A) {x : A} → Mem x xs → p x ≡ true → Mem x (chosen p xs)
  chosen_in [] {x = x} x4 e = elim x4 [ ]
  chosen_in (x ∷ xs) here e = rw (chosen_take x xs e) here
  chosen_in (y ∷ xs) {x} (there m) e = go (decide (p y)) (chosen_in xs m e)
    where
      go : (p y ≡ true) ⊎ (p y ≡ false) → Mem x (chosen p xs) → Mem x (chosen p (y ∷ xs))
      go (inl h) k = rw (chosen_take y xs h) (there k)
      go (inr h) k = rw (chosen_skip y xs h) k

  chosen_cons : {x y : A} {xs ys : List A} → p y ≡ true → (Mem x ys → Mem x xs × (p x ≡ true)) → Mem x (y ∷ ys) → Mem x (y ∷ xs) × (p x ≡ true)
  chosen_cons e out here = (here, e)
  chosen_cons e out (there m) = let (k, h) = out m in (there k, h)

  pub chosen_out : (xs : List A) {x : A} → Mem x (chosen p xs) → Mem x xs × (p x ≡ true)
  unfolding chosen
  chosen_out [] m = elim m [ ]
  chosen_out (y ∷ xs) {x} m = go (decide (p y)) (chosen_out xs)
    where
      go : (p y ≡ true) ⊎ (p y ≡ false) → (Mem x (chosen p xs) → Mem x xs × (p x ≡ true)) → Mem x (y ∷ xs) × (p x ≡ true)
      go (inl e) out = chosen_cons e out (rw (chosen_take y xs e) at m)
      go (inr e) out = let (k, h) = out (rw (chosen_skip y xs e) at m) in (there k, h)

  pub chosen_append : (xs ys : List A) → chosen p (xs ++ ys) ≡ chosen p xs ++ chosen p ys
  unfolding chosen
  chosen_append [] ys = refl
  chosen_append (x ∷ xs) ys = go (p x) (chosen_append xs ys)
    where
      go : (b : Bool) → chosen p (xs ++ ys) ≡ chosen p xs ++ chosen p ys
          → ◌≡◌ {A = List A} (elim b as (λ c. List A) [ true ↦ x ∷ chosen p (xs ++ ys) | false ↦ chosen p (xs ++ ys) ])
          (elim b as (λ c. List A) [ true ↦ x ∷ chosen p xs | false ↦ chosen p xs ] ++ chosen p ys)
      go true e = ap (λ zs. x ∷ zs) e
      go false e = e

  -- where no member has the property, none is chosen
  pub chosen_none : (xs : List A) → any p xs ≡ false → chosen p xs ≡ []
  unfolding any chosen
  chosen_none [] e = refl
  chosen_none (x ∷ xs) e = let (h, rest) = neither (p x) (any p xs) e in chosen_skip x xs h ∙ chosen_none xs rest

  -- some chosen member passes a test exactly if some member has the property and passes
  pub any_chosen : (q : A → Bool) (xs : List A) → any q (chosen p xs) ≡ any (λ x. p x && q x) xs
  unfolding any chosen
  any_chosen q [] = refl
  any_chosen q (x ∷ xs) = go (p x) (any_chosen q xs)
    where
      go : (b : Bool) → any q (chosen p xs) ≡ any (λ y. p y && q y) xs
          → any q (elim b as (λ c. List A) [ true ↦ x ∷ chosen p xs | false ↦ chosen p xs ]) ≡ ((b && q x) || any (λ y. p y && q y) xs)
      go true e = ap (λ (b : Bool). q x || b) e
      go false e = e

  -- lists with the same members have the same members chosen
  pub chosen_alike : (xs ys : List A) → ((x : A) → Mem x xs ↔ Mem x ys) → (x : A) → Mem x (chosen p xs) ↔ Mem x (chosen p ys)
  chosen_alike xs ys same x =
      (λ m. let (k, e) = chosen_out xs m in chosen_in ys ((same x).0 k) e, λ m. let (k, e) = chosen_out ys m in chosen_in xs ((same x).1 k) e)

-- choosing values by a property, and members by that property of their values
pub chosen_map : {A B : Type 0} (p : B → Bool) (q : A → Bool) (f : A → B) → ((x : A) → p (f x) ≡ q x) → (xs : List A) → chosen p (map f xs) ≡ map f (chosen q xs)
unfolding chosen
chosen_map p q f h [] = refl
chosen_map {A} {B} p q f h (x ∷ xs) = go (decide (q x)) (chosen_map p q f h xs)
  where
    go : (q x ≡ true) ⊎ (q x ≡ false) → chosen p (map f xs) ≡ map f (chosen q xs) → chosen p (map f (x ∷ xs)) ≡ map f (chosen q (x ∷ xs))
    go (inl e) rest = chosen_take p (f x) (map f xs) (h x ∙ e) ∙ ap (λ ys. f x ∷ ys) rest ∙ ap (map f) (sym (chosen_take q x xs e))
    go (inr e) rest = chosen_skip p (f x) (map f xs) (h x ∙ e) ∙ rest ∙ ap (map f) (sym (chosen_skip q x xs e))
