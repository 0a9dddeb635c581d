-- Lists of facts in order in which some facts turn: order, members, length and form afterwards, that turning back undoes it, and how a merge
-- computes it. For states said as changes. Uses Sorted.antt for the order of facts.
use Prim.Native.Nat.{suc, ◌+◌, ◌≤◌}
use native.Mathlib.Omega.{arith}
use mathlib.Core.Path.{◌≡◌, refl, sym, ap, ◌∙◌}
use mathlib.Core.Logic.{◌⊎◌, inl, inr, ◌↔◌}
use mathlib.Core.Bool.{true, false}
use mathlib.Core.List.{List, [], ◌∷◌}
use lib.ListN.{length}
use Rattle.terms.specs.declared.Fact.{Fact}
use Rattle.terms.specs.Schema.{Schema, TypedObjects}
use Rattle.terms.specs.Facts.{fact_bad, precedes, no_fact}
use Rattle.limits.specs.Limits.{max_facts}
use Rattle.format.specs.Toggled.{toggle, toggled}
use Rattle.quantify.specs.Quantify.{Mem, here, there}
use Rattle.factsets.specs.Right.{Increasing, RightState}
use Rattle.factsets.proofs.Sorted.{precedes_trans, precedes_self, precedes_not_back, precedes_apart, compare, behind_all, sorted, mem_cons, mem_rest, mem_none, mem_decide, once, same_members}

-- ---- one fact turned, by where it stands
pub toggle_before : (t f : Fact) (fs : List Fact) → precedes t f ≡ true → toggle t (f ∷ fs) ≡ t ∷ f ∷ fs
unfolding toggle
toggle_before t f fs e = rw e

pub toggle_after : (t f : Fact) (fs : List Fact) → precedes f t ≡ true → toggle t (f ∷ fs) ≡ f ∷ toggle t fs
unfolding toggle
toggle_after t f fs e = rw (precedes_not_back f t e, e)

pub toggle_same : (f : Fact) (fs : List Fact) → toggle f (f ∷ fs) ≡ fs
unfolding toggle
toggle_same f fs = rw (precedes_self f)

pub toggle_equal : (t f : Fact) (fs : List Fact) → t ≡ f → toggle t (f ∷ fs) ≡ fs
toggle_equal t f fs d = rw d (toggle_same f fs)

-- ---- order
pub increasing_after : (last f : Fact) (fs : List Fact) → precedes last f ≡ true → Increasing f fs → Increasing last fs
increasing_after last f [] e h = tt
increasing_after last f (g ∷ fs) e h = (precedes_trans last f g e h.0, h.1)

pub toggle_increasing : (last t : Fact) (fs : List Fact) → precedes last t ≡ true → Increasing last fs → Increasing last (toggle t fs)
unfolding toggle
toggle_increasing last t [] e h = (e, tt)
toggle_increasing last t (f ∷ fs) e h = go (compare t f) (λ d. toggle_increasing f t fs d h.1)
  where
    go : (precedes t f ≡ true) ⊎ ((t ≡ f) ⊎ (precedes f t ≡ true)) → (precedes f t ≡ true → Increasing f (toggle t fs)) → Increasing last (toggle t (f ∷ fs))
    go (inl d) deeper = rw (toggle_before t f fs d) (e, (d, h.1))
    go (inr (inl d)) deeper = rw (toggle_equal t f fs d) (increasing_after last f fs h.0 h.1)
    go (inr (inr d)) deeper = rw (toggle_after t f fs d) (h.0, deeper d)

pub toggled_increasing : (last : Fact) (fs ts : List Fact) → Increasing last fs → Increasing last ts → Increasing last (toggled fs ts)
unfolding toggled
toggled_increasing last fs [] h k = h
toggled_increasing last fs (t ∷ ts) h k =
    toggled_increasing last (toggle t fs) ts (toggle_increasing last t fs k.0 h) (increasing_after last t ts k.0 k.1)

-- ---- members, whatever the order
pub toggle_from : (t : Fact) (fs : List Fact) {f : Fact} → Mem f (toggle t fs) → (f ≡ t) ⊎ Mem f fs
unfolding toggle
toggle_from t [] m = mem_cons m
toggle_from t (g ∷ fs) {f} m = go (compare t g) (λ k. toggle_from t fs k)
  where
    later : (f ≡ g) ⊎ Mem f (toggle t fs) → (Mem f (toggle t fs) → (f ≡ t) ⊎ Mem f fs) → (f ≡ t) ⊎ Mem f (g ∷ fs)
    later (inl d) deeper = inr (rw d here)
    later (inr k) deeper = under (deeper k)
      where
        under : (f ≡ t) ⊎ Mem f fs → (f ≡ t) ⊎ Mem f (g ∷ fs)
        under (inl d) = inl d
        under (inr l) = inr (there l)

    go : (precedes t g ≡ true) ⊎ ((t ≡ g) ⊎ (precedes g t ≡ true)) → (Mem f (toggle t fs) → (f ≡ t) ⊎ Mem f fs) → (f ≡ t) ⊎ Mem f (g ∷ fs)
    go (inl d) deeper = mem_cons (rw (toggle_before t g fs d) at m)
    go (inr (inl d)) deeper = inr (there (rw (toggle_equal t g fs d) at m))
    go (inr (inr d)) deeper = later (mem_cons (rw (toggle_after t g fs d) at m)) deeper

pub toggled_from : (fs ts : List Fact) {f : Fact} → Mem f (toggled fs ts) → Mem f fs ⊎ Mem f ts
unfolding toggled
toggled_from fs [] m = inl m
toggled_from fs (t ∷ ts) {f} m = go (toggled_from (toggle t fs) ts m)
  where
    before : (f ≡ t) ⊎ Mem f fs → Mem f fs ⊎ Mem f (t ∷ ts)
    before (inl d) = inr (rw d here)
    before (inr k) = inl k

    go : Mem f (toggle t fs) ⊎ Mem f ts → Mem f fs ⊎ Mem f (t ∷ ts)
    go (inl k) = before (toggle_from t fs k)
    go (inr k) = inr (there k)

-- a fact that is not the one turned stays
pub toggle_kept : (t : Fact) (fs : List Fact) {f : Fact} → Mem f fs → (f ≡ t → ⊥) → Mem f (toggle t fs)
unfolding toggle
toggle_kept t [] {f = f} m a = elim m [ ]
toggle_kept t (g ∷ fs) {f} m a = go (compare t g) (λ k. toggle_kept t fs k a)
  where
    later : (f ≡ g) ⊎ Mem f fs → (Mem f fs → Mem f (toggle t fs)) → Mem f (g ∷ toggle t fs)
    later (inl d) deeper = rw d here
    later (inr k) deeper = there (deeper k)

    go : (precedes t g ≡ true) ⊎ ((t ≡ g) ⊎ (precedes g t ≡ true)) → (Mem f fs → Mem f (toggle t fs)) → Mem f (toggle t (g ∷ fs))
    go (inl d) deeper = rw (toggle_before t g fs d) (there m)
    go (inr (inl d)) deeper = rw (toggle_equal t g fs d) (mem_rest m (λ b. a (b ∙ sym d)))
    go (inr (inr d)) deeper = rw (toggle_after t g fs d) (later (mem_cons m) deeper)

-- a fact that was not there is there once it has turned
pub toggle_new : (t : Fact) (fs : List Fact) → (Mem t fs → ⊥) → Mem t (toggle t fs)
unfolding toggle
toggle_new t [] a = here
toggle_new t (g ∷ fs) a = go (compare t g) (toggle_new t fs (λ k. a (there k)))
  where
    go : (precedes t g ≡ true) ⊎ ((t ≡ g) ⊎ (precedes g t ≡ true)) → Mem t (toggle t fs) → Mem t (toggle t (g ∷ fs))
    go (inl d) deeper = rw (toggle_before t g fs d) here
    go (inr (inl d)) deeper = absurd (a (rw d here))
    go (inr (inr d)) deeper = rw (toggle_after t g fs d) (there deeper)

-- ---- members of lists in order
-- exactly one of the two
abbrev pub OneOf : Type 0 → Type 0 → Type 0
OneOf A B = (A × (B → ⊥)) ⊎ ((A → ⊥) × B)

-- no fact is among those that come after it
pub increasing_once : (f : Fact) (fs : List Fact) → Increasing f fs → Mem f fs → ⊥
increasing_once f fs h m = once f fs (behind_all f fs h, sorted f fs h) f m refl

-- the fact turned is gone if it was there
pub toggle_gone : (last t : Fact) (fs : List Fact) → Increasing last fs → Mem t fs → Mem t (toggle t fs) → ⊥
unfolding toggle
toggle_gone last t [] h m k = elim m [ ]
toggle_gone last t (g ∷ fs) h m k = go (compare t g) (toggle_gone g t fs h.1)
  where
    go : (precedes t g ≡ true) ⊎ ((t ≡ g) ⊎ (precedes g t ≡ true)) → (Mem t fs → Mem t (toggle t fs) → ⊥) → ⊥
    go (inl d) deeper = increasing_once t (g ∷ fs) (d, h.1) m
    go (inr (inl d)) deeper = increasing_once g fs h.1 (rw d at (rw (toggle_equal t g fs d) at k))
    go (inr (inr d)) deeper =
        let a : t ≡ g → ⊥ = λ e. precedes_apart g t d (sym e) in
        deeper (mem_rest m a) (mem_rest (rw (toggle_after t g fs d) at k) a)

pub toggle_mem : (last t : Fact) (fs : List Fact) → Increasing last fs → (f : Fact) → Mem f (toggle t fs) ↔ OneOf (f ≡ t) (Mem f fs)
toggle_mem last t fs h f = (λ m. into m (toggle_from t fs m), out)
  where
    into : Mem f (toggle t fs) → (f ≡ t) ⊎ Mem f fs → OneOf (f ≡ t) (Mem f fs)
    into m (inl d) = inl (d, λ k. toggle_gone last t fs h (rw d at k) (rw d at m))
    into m (inr k) = inr (λ d. toggle_gone last t fs h (rw d at k) (rw d at m), k)

    out : OneOf (f ≡ t) (Mem f fs) → Mem f (toggle t fs)
    out (inl (d, a)) = rw d (toggle_new t fs (λ k. a (rw d k)))
    out (inr (a, k)) = toggle_kept t fs k a

-- A fact holds after others turned if it did and did not turn, or did not and turned.
pub toggled_mem : (last : Fact) (fs ts : List Fact) → Increasing last fs → Increasing last ts → (f : Fact) → Mem f (toggled fs ts) ↔ OneOf (Mem f fs) (Mem f ts)
unfolding toggled
toggled_mem last fs [] h k f = (λ m. inl (m, mem_none), out)
  where
    out : OneOf (Mem f fs) (Mem f []) → Mem f fs
    out (inl (m, a)) = m
    out (inr (a, m)) = absurd (mem_none m)
toggled_mem last fs (t ∷ ts) h k f = go (toggled_mem last (toggle t fs) ts (toggle_increasing last t fs k.0 h) (increasing_after last t ts k.0 k.1) f)
  where
    one : Mem f (toggle t fs) ↔ OneOf (f ≡ t) (Mem f fs)
    one = toggle_mem last t fs h f

    apart : Mem f ts → f ≡ t → ⊥
    apart m d = increasing_once t ts k.1 (rw d at m)

    no_other : (f ≡ t → ⊥) → (Mem f ts → ⊥) → (f ≡ t) ⊎ Mem f ts → ⊥
    no_other a b (inl d) = a d
    no_other a b (inr m) = b m

    first : OneOf (f ≡ t) (Mem f fs) → (Mem f ts → ⊥) → OneOf (Mem f fs) (Mem f (t ∷ ts))
    first (inl (d, a)) b = inr (a, rw d here)
    first (inr (a, m)) b = inl (m, λ l. no_other a b (mem_cons l))

    into : OneOf (Mem f (toggle t fs)) (Mem f ts) → OneOf (Mem f fs) (Mem f (t ∷ ts))
    into (inl (m, b)) = first (one.0 m) b
    into (inr (a, m)) = inr (λ l. a (toggle_kept t fs l (apart m)), there m)

    not_turned : (Mem f fs → ⊥) → (f ≡ t → ⊥) → (f ≡ t) ⊎ Mem f fs → ⊥
    not_turned a b (inl d) = b d
    not_turned a b (inr m) = a m

    second : (Mem f fs → ⊥) → (f ≡ t) ⊎ Mem f ts → OneOf (Mem f (toggle t fs)) (Mem f ts)
    second a (inl d) = inl (one.1 (inl (d, a)), λ m. apart m d)
    second a (inr m) = inr (λ l. not_turned a (apart m) (toggle_from t fs l), m)

    out : OneOf (Mem f fs) (Mem f (t ∷ ts)) → OneOf (Mem f (toggle t fs)) (Mem f ts)
    out (inl (m, a)) = inl (toggle_kept t fs m (λ d. a (rw d here)), λ l. a (there l))
    out (inr (a, m)) = second a (mem_cons m)

    go : Mem f (toggled (toggle t fs) ts) ↔ OneOf (Mem f (toggle t fs)) (Mem f ts) → Mem f (toggled (toggle t fs) ts) ↔ OneOf (Mem f fs) (Mem f (t ∷ ts))
    go (p, q) = (λ m. into (p m), λ o. q (out o))

-- ---- turned back
-- What turns one list into another turns it back: the changes between two states are their symmetric difference.
pub toggled_back : (last : Fact) (fs gs : List Fact) → Increasing last fs → Increasing last gs → toggled fs (toggled fs gs) ≡ gs
toggled_back last fs gs h k =
    same_members (toggled fs (toggled fs gs)) gs (sorted last (toggled fs (toggled fs gs)) (toggled_increasing last fs (toggled fs gs) h inner)) (sorted last gs k)
    (λ f m. into f ((toggled_mem last fs (toggled fs gs) h inner f).0 m) (mem_decide f gs))
    (λ f m. (toggled_mem last fs (toggled fs gs) h inner f).1 (out f m (mem_decide f fs)))
  where
    inner : Increasing last (toggled fs gs)
    inner = toggled_increasing last fs gs h k

    once_turned : (f : Fact) → Mem f (toggled fs gs) ↔ OneOf (Mem f fs) (Mem f gs)
    once_turned f = toggled_mem last fs gs h k f

    there_still : (f : Fact) → (Mem f fs → ⊥) → OneOf (Mem f fs) (Mem f gs) → Mem f gs
    there_still f a (inl (m, b)) = absurd (a m)
    there_still f a (inr (b, m)) = m

    into : (f : Fact) → OneOf (Mem f fs) (Mem f (toggled fs gs)) → Dec (Mem f gs) → Mem f gs
    into f w (yes m) = m
    into f (inl (m, a)) (no b) = absurd (a ((once_turned f).1 (inl (m, b))))
    into f (inr (a, m)) (no b) = there_still f a ((once_turned f).0 m)

    not_turned : (f : Fact) → Mem f fs → Mem f gs → OneOf (Mem f fs) (Mem f gs) → ⊥
    not_turned f m l (inl (p, a)) = a l
    not_turned f m l (inr (a, p)) = a m

    out : (f : Fact) → Mem f gs → Dec (Mem f fs) → OneOf (Mem f fs) (Mem f (toggled fs gs))
    out f m (yes l) = inl (l, λ x. not_turned f l m ((once_turned f).0 x))
    out f m (no a) = inr (a, (once_turned f).1 (inr (a, m)))

-- ---- a merge of two lists in order
pub toggled_head : (f : Fact) (fs ts : List Fact) → Increasing f ts → toggled (f ∷ fs) ts ≡ f ∷ toggled fs ts
unfolding toggled
toggled_head f fs [] h = refl
toggled_head f fs (t ∷ ts) h =
    ap (λ (l : List Fact). toggled l ts) (toggle_after t f fs h.0) ∙ toggled_head f (toggle t fs) ts (increasing_after f t ts h.0 h.1)

pub toggled_none : (last : Fact) (ts : List Fact) → Increasing last ts → toggled [] ts ≡ ts
unfolding toggled toggle
toggled_none last [] h = refl
toggled_none last (t ∷ ts) h = toggled_head t [] ts h.1 ∙ ap (λ (l : List Fact). t ∷ l) (toggled_none t ts h.1)

pub toggled_nothing : (fs : List Fact) → toggled fs [] ≡ fs
unfolding toggled
toggled_nothing fs = refl

pub merge_before : (f t : Fact) (fs ts : List Fact) → precedes f t ≡ true → Increasing t ts → toggled (f ∷ fs) (t ∷ ts) ≡ f ∷ toggled fs (t ∷ ts)
merge_before f t fs ts e h = toggled_head f fs (t ∷ ts) (e, h)

pub merge_after : (f t : Fact) (fs ts : List Fact) → precedes t f ≡ true → Increasing t ts → toggled (f ∷ fs) (t ∷ ts) ≡ t ∷ toggled (f ∷ fs) ts
unfolding toggled
merge_after f t fs ts e h = ap (λ (l : List Fact). toggled l ts) (toggle_before t f fs e) ∙ toggled_head t (f ∷ fs) ts h

pub merge_both : (f : Fact) (fs ts : List Fact) → toggled (f ∷ fs) (f ∷ ts) ≡ toggled fs ts
unfolding toggled
merge_both f fs ts = ap (λ (l : List Fact). toggled l ts) (toggle_same f fs)

-- all facts turned leave none
pub toggled_self : (fs : List Fact) → toggled fs fs ≡ []
toggled_self [] = toggled_nothing []
toggled_self (f ∷ fs) = merge_both f fs fs ∙ toggled_self fs

-- ---- length
pub toggle_length_bound : (t : Fact) (fs : List Fact) → length (toggle t fs) ≤ suc (length fs)
unfolding toggle
toggle_length_bound t [] = omega arith
toggle_length_bound t (f ∷ fs) = go (compare t f) (toggle_length_bound t fs)
  where
    go : (precedes t f ≡ true) ⊎ ((t ≡ f) ⊎ (precedes f t ≡ true)) → length (toggle t fs) ≤ suc (length fs) → length (toggle t (f ∷ fs)) ≤ suc (suc (length fs))
    go (inl d) deeper = rw (toggle_before t f fs d) (omega arith)
    go (inr (inl d)) deeper = rw (toggle_equal t f fs d) (omega arith)
    go (inr (inr d)) deeper = rw (toggle_after t f fs d) (omega arith)

pub toggled_length_bound : (fs ts : List Fact) → length (toggled fs ts) ≤ length fs + length ts
unfolding toggled
toggled_length_bound fs [] = omega arith
toggled_length_bound fs (t ∷ ts) = omega (arith, toggled_length_bound (toggle t fs) ts, toggle_length_bound t fs)

-- ---- form
module _ (sch : Schema) (ob : TypedObjects) (fs ts : List Fact) where
  pub toggled_suits : ((f : Fact) → Mem f fs → fact_bad sch ob f ≡ false) → ((f : Fact) → Mem f ts → fact_bad sch ob f ≡ false)
      → (f : Fact) → Mem f (toggled fs ts) → fact_bad sch ob f ≡ false
  toggled_suits p q f m = go (toggled_from fs ts m)
    where
      go : Mem f fs ⊎ Mem f ts → fact_bad sch ob f ≡ false
      go (inl k) = p f k
      go (inr k) = q f k

  -- A right state in which facts turn that suit and stand in order is right, if it is not too long.
  pub toggled_right : RightState sch ob fs → ((f : Fact) → Mem f ts → fact_bad sch ob f ≡ false) → Increasing no_fact ts → length (toggled fs ts) ≤ max_facts
      → RightState sch ob (toggled fs ts)
  toggled_right right q h short =
      record {
        suits = toggled_suits right.suits q;
        increasing = toggled_increasing no_fact fs ts right.increasing h;
        few = short;
      }
