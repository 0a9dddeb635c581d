-- The order of facts, and strictly increasing lists of them: each fact is in such a list once, and one with the same members is the same list.
use Prim.Native.Nat.{ℕ, ◌≤◌, ◌<◌}
use native.Mathlib.Decide.{dec_lt}
use native.Mathlib.Omega.{arith}
use mathlib.Core.Path.{◌≡◌, refl, sym, ap₂, ◌∙◌}
use mathlib.Core.Logic.{◌⊎◌, inl, inr}
use mathlib.Core.Bool.{Bool, true, false, ◌&&◌, ◌||◌}
use mathlib.Core.List.{List, [], ◌∷◌}
use lib.Dec.{eqb, ltb}
use lib.ListN.{length}
use borrow.Author.Tests.{ltb-true, lt-ltb, eqb-true, eq-eqb}
use Rattle.truth.specs.Bools.{clash, decide, is_false, and_in, and_out, or_left, or_right, or_out}
use Rattle.terms.specs.declared.Fact.{Fact}
use Rattle.terms.specs.Facts.{precedes}
use Rattle.terms.proofs.Atoms.{fact_path}
use Rattle.quantify.specs.Quantify.{Mem, here, there}
use Rattle.factsets.specs.Right.{Increasing}

-- the order byte by byte, in plain numbers
abbrev pub Less : Fact → Fact → Type 0
Less f g =
    (f.relation.0 < g.relation.0)
    ⊎ ((f.relation.0 ≡ g.relation.0) × ((f.first.0 < g.first.0) ⊎ ((f.first.0 ≡ g.first.0) × (f.second.0 < g.second.0))))

pub precedes_out : (f g : Fact) → precedes f g ≡ true → Less f g
unfolding precedes
precedes_out f g e = go (or_out (ltb f.relation.0 g.relation.0) (eqb f.relation.0 g.relation.0 && behind) e)
  where
    behind : Bool
    behind = ltb f.first.0 g.first.0 || eqb f.first.0 g.first.0 && ltb f.second.0 g.second.0

    last : (ltb f.first.0 g.first.0 ≡ true) ⊎ ((eqb f.first.0 g.first.0 && ltb f.second.0 g.second.0) ≡ true)
        → (f.first.0 < g.first.0) ⊎ ((f.first.0 ≡ g.first.0) × (f.second.0 < g.second.0))
    last (inl h) = inl (ltb-true _ _ h)
    last (inr h) =
        let (p, q) = and_out (eqb f.first.0 g.first.0) (ltb f.second.0 g.second.0) h in
        inr (eqb-true _ _ p, ltb-true _ _ q)

    go : (ltb f.relation.0 g.relation.0 ≡ true) ⊎ ((eqb f.relation.0 g.relation.0 && behind) ≡ true) → Less f g
    go (inl h) = inl (ltb-true _ _ h)
    go (inr h) =
        let (p, q) = and_out (eqb f.relation.0 g.relation.0) behind h in
        inr (eqb-true _ _ p, last (or_out (ltb f.first.0 g.first.0) _ q))

precedes_in : (f g : Fact) → Less f g → precedes f g ≡ true
unfolding precedes
precedes_in f g (inl p) = or_left (ltb f.relation.0 g.relation.0) _ (lt-ltb _ _ p)
precedes_in f g (inr (d, p)) = or_right (ltb f.relation.0 g.relation.0) _ (and_in _ _ (eq-eqb _ _ d) (last p))
  where
    last : (f.first.0 < g.first.0) ⊎ ((f.first.0 ≡ g.first.0) × (f.second.0 < g.second.0))
        → (ltb f.first.0 g.first.0 || eqb f.first.0 g.first.0 && ltb f.second.0 g.second.0) ≡ true
    last (inl q) = or_left (ltb f.first.0 g.first.0) _ (lt-ltb _ _ q)
    last (inr (e, q)) = or_right (ltb f.first.0 g.first.0) _ (and_in _ _ (eq-eqb _ _ e) (lt-ltb _ _ q))

pub less_trans : (f g h : Fact) → Less f g → Less g h → Less f h
less_trans f g h (inl p) (inl q) = inl (omega arith)
less_trans f g h (inl p) (inr (e, q)) = inl (omega arith)
less_trans f g h (inr (d, p)) (inl q) = inl (omega arith)
less_trans f g h (inr (d, p)) (inr (e, q)) = inr (d ∙ e, go p q)
  where
    go : (f.first.0 < g.first.0) ⊎ ((f.first.0 ≡ g.first.0) × (f.second.0 < g.second.0))
        → (g.first.0 < h.first.0) ⊎ ((g.first.0 ≡ h.first.0) × (g.second.0 < h.second.0))
        → (f.first.0 < h.first.0) ⊎ ((f.first.0 ≡ h.first.0) × (f.second.0 < h.second.0))
    go (inl k) (inl l) = inl (omega arith)
    go (inl k) (inr (c, l)) = inl (omega arith)
    go (inr (c, k)) (inl l) = inl (omega arith)
    go (inr (c, k)) (inr (c', l)) = inr (c ∙ c', omega arith)

pub less_irreflexive : (f : Fact) → Less f f → ⊥
less_irreflexive f (inl p) = omega arith
less_irreflexive f (inr (d, inl p)) = omega arith
less_irreflexive f (inr (d, inr (e, p))) = omega arith

-- ---- the same of the computed test
pub precedes_trans : (f g h : Fact) → precedes f g ≡ true → precedes g h ≡ true → precedes f h ≡ true
precedes_trans f g h p q = precedes_in f h (less_trans f g h (precedes_out f g p) (precedes_out g h q))

pub precedes_self : (f : Fact) → precedes f f ≡ false
precedes_self f = is_false (precedes f f) (λ e. less_irreflexive f (precedes_out f f e))

pub precedes_not_back : (f g : Fact) → precedes f g ≡ true → precedes g f ≡ false
precedes_not_back f g p = is_false (precedes g f) (λ q. less_irreflexive f (less_trans f g f (precedes_out f g p) (precedes_out g f q)))

pub precedes_apart : (f g : Fact) → precedes f g ≡ true → f ≡ g → ⊥
precedes_apart f g p e = clash (precedes f f) (rw (← e) at p) (precedes_self f)

abbrev Apart : ℕ → ℕ → Type 0
Apart a b = (a < b) ⊎ ((a ≡ b) ⊎ (b < a))

ordered : (a b : ℕ) → Apart a b
ordered a b = go (dec_lt a b) (dec_lt b a)
  where
    go : Dec (a < b) → Dec (b < a) → Apart a b
    go (yes h) k = inl h
    go (no h) (yes k) = inr (inr k)
    go (no h) (no k) = inr (inl (omega arith))

-- Of two facts neither of which precedes the other, each is the other.
pub precedes_neither : (f g : Fact) → precedes f g ≡ false → precedes g f ≡ false → f ≡ g
precedes_neither f g p q = go (ordered f.relation.0 g.relation.0) (ordered f.first.0 g.first.0) (ordered f.second.0 g.second.0)
  where
    before : Less f g → f ≡ g
    before l = clash (precedes f g) (precedes_in f g l) p

    after : Less g f → f ≡ g
    after l = clash (precedes g f) (precedes_in g f l) q

    go : Apart f.relation.0 g.relation.0 → Apart f.first.0 g.first.0 → Apart f.second.0 g.second.0 → f ≡ g
    go (inl a) v w = before (inl a)
    go (inr (inr a)) v w = after (inl a)
    go (inr (inl a)) (inl b) w = before (inr (a, inl b))
    go (inr (inl a)) (inr (inr b)) w = after (inr (sym a, inl b))
    go (inr (inl a)) (inr (inl b)) (inl c) = before (inr (a, inr (b, c)))
    go (inr (inl a)) (inr (inl b)) (inr (inr c)) = after (inr (sym a, inr (sym b, c)))
    go (inr (inl a)) (inr (inl b)) (inr (inl c)) = fact_path f g a b c

pub compare : (f g : Fact) → (precedes f g ≡ true) ⊎ ((f ≡ g) ⊎ (precedes g f ≡ true))
compare f g = go (decide (precedes f g)) (decide (precedes g f))
  where
    go : (precedes f g ≡ true) ⊎ (precedes f g ≡ false) → (precedes g f ≡ true) ⊎ (precedes g f ≡ false)
        → (precedes f g ≡ true) ⊎ ((f ≡ g) ⊎ (precedes g f ≡ true))
    go (inl p) w = inl p
    go (inr p) (inl q) = inr (inr q)
    go (inr p) (inr q) = inr (inl (precedes_neither f g p q))

-- ---- lists in order
-- each fact comes before all that follow it
abbrev pub Sorted : List Fact → Type 0
Sorted [] = Unit {0}
Sorted (f ∷ fs) = ((g : Fact) → Mem g fs → Less f g) × Sorted fs

pub behind_all : (last : Fact) (fs : List Fact) → Increasing last fs → (g : Fact) → Mem g fs → Less last g
behind_all last [] h g x'' = elim x'' [ ]
behind_all last (f ∷ fs) h g here = precedes_out last f h.0
behind_all last (f ∷ fs) h g (there m) = less_trans last f g (precedes_out last f h.0) (behind_all f fs h.1 g m)

pub sorted : (last : Fact) (fs : List Fact) → Increasing last fs → Sorted fs
sorted last [] h = tt
sorted last (f ∷ fs) h = (behind_all f fs h.1, sorted f fs h.1)

-- a member of a longer list is its first, or one of the rest
pub mem_cons : {x y : Fact} {ys : List Fact} → Mem x (y ∷ ys) → (x ≡ y) ⊎ Mem x ys
mem_cons here = inl refl
mem_cons (there m) = inr m

pub mem_rest : {x y : Fact} {ys : List Fact} → Mem x (y ∷ ys) → (x ≡ y → ⊥) → Mem x ys
mem_rest here d = absurd (d refl)
mem_rest (there m) d = m

some : {x : Fact} {xs : List Fact} → Mem x xs → 1 ≤ length xs
some here = omega arith
some (there m) = omega arith

pub mem_none : {x : Fact} → Mem x [] → ⊥
mem_none m = omega (arith, some m)

pub mem_decide : (f : Fact) (fs : List Fact) → Dec (Mem f fs)
mem_decide f [] = no mem_none
mem_decide f (g ∷ fs) = go (compare f g) (mem_decide f fs)
  where
    neither : (f ≡ g → ⊥) → (Mem f fs → ⊥) → (f ≡ g) ⊎ Mem f fs → ⊥
    neither a b (inl d) = a d
    neither a b (inr m) = b m

    other : (f ≡ g → ⊥) → Dec (Mem f fs) → Dec (Mem f (g ∷ fs))
    other a (yes m) = yes (there m)
    other a (no b) = no (λ m. neither a b (mem_cons m))

    go : (precedes f g ≡ true) ⊎ ((f ≡ g) ⊎ (precedes g f ≡ true)) → Dec (Mem f fs) → Dec (Mem f (g ∷ fs))
    go (inl d) deeper = other (precedes_apart f g d) deeper
    go (inr (inl d)) deeper = yes (rw d here)
    go (inr (inr d)) deeper = other (λ e. precedes_apart g f d (sym e)) deeper

-- a list in order has its first fact once
pub once : (f : Fact) (fs : List Fact) → Sorted (f ∷ fs) → (x : Fact) → Mem x fs → x ≡ f → ⊥
once f fs h x m e = less_irreflexive f (rw e at (h.0 x m))

-- Two lists in order with the same members are the same.
pub same_members : (fs gs : List Fact) → Sorted fs → Sorted gs → ((f : Fact) → Mem f fs → Mem f gs) → ((g : Fact) → Mem g gs → Mem g fs) → fs ≡ gs
same_members [] [] h k into out = refl
same_members [] (g ∷ gs) h k into out = absurd (omega (arith, some (out g here)))
same_members (f ∷ fs) [] h k into out = absurd (omega (arith, some (into f here)))
same_members (f ∷ fs) (g ∷ gs) h k into out = go (first (mem_cons (into f here)) (mem_cons (out g here))) (same_members fs gs h.1 k.1)
  where
    first : (f ≡ g) ⊎ Mem f gs → (g ≡ f) ⊎ Mem g fs → f ≡ g
    first (inl e) w = e
    first (inr m) (inl e) = sym e
    first (inr m) (inr l) = absurd (less_irreflexive f (less_trans f g f (h.0 g l) (k.0 f m)))

    go : f ≡ g → (((x : Fact) → Mem x fs → Mem x gs) → ((x : Fact) → Mem x gs → Mem x fs) → fs ≡ gs) → f ∷ fs ≡ g ∷ gs
    go e tails =
        ap₂ (λ (x : Fact) (xs : List Fact). x ∷ xs) e
        (tails
        (λ x m. mem_rest (into x (there m)) (λ d. once f fs h x m (d ∙ sym e)))
        (λ x m. mem_rest (out x (there m)) (λ d. once g gs k x m (d ∙ e))))
