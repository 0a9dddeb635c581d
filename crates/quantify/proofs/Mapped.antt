-- Members of mapped lists, and tests of some of them.
use mathlib.Core.Path.{◌≡◌, refl, ap, subst}
use mathlib.Core.Logic.{◌↔◌}
use mathlib.Core.Bool.{Bool, ◌||◌}
use mathlib.Core.List.{List, [], ◌∷◌, map}
use Rattle.quantify.specs.Quantify.{any, Mem, here, there}

-- a member of a list of values is the value of a member
pub mem_map_out : {A B : Type 0} (f : A → B) (xs : List A) {y : B} → Mem y (map f xs) → (x : A) × Mem x xs × (f x ≡ y)
mem_map_out {A = A} {B = B} f [] {y = y} x' = elim x' [ ]
mem_map_out f (x ∷ xs) here = (x, here, refl)
mem_map_out f (x ∷ xs) (there m) = let (z, k, e) = mem_map_out f xs m in (z, there k, e)

pub mem_map_in : {A B : Type 0} (f : A → B) (xs : List A) {x : A} → Mem x xs → Mem (f x) (map f xs)
mem_map_in {A = A} {B = B} f [] x3 = elim x3 [ ]
mem_map_in f (x ∷ xs) here = here
mem_map_in f (y ∷ xs) (there m) = there (mem_map_in f xs m)

-- lists with the same members have the same values
pub map_alike : {A B : Type 0} (f : A → B) (xs ys : List A) → ((x : A) → Mem x xs ↔ Mem x ys) → (y : B) → Mem y (map f xs) ↔ Mem y (map f ys)
map_alike {A} {B} f xs ys same y = (over xs ys (λ x. (same x).0), over ys xs (λ x. (same x).1))
  where
    over : (us vs : List A) → ((x : A) → Mem x us → Mem x vs) → Mem y (map f us) → Mem y (map f vs)
    over us vs h m = let (x, k, e) = mem_map_out f us m in subst (λ (z : B). Mem z (map f vs)) e (mem_map_in f vs (h x k))

-- a test of some value is one of some member
pub any_map : {A B : Type 0} (p : B → Bool) (f : A → B) (xs : List A) → any p (map f xs) ≡ any (λ x. p (f x)) xs
unfolding any
any_map p f [] = refl
any_map p f (x ∷ xs) = ap (λ (b : Bool). p (f x) || b) (any_map p f xs)
