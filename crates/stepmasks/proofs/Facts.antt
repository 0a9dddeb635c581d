-- The facts of a list marked in a set, one after the other. For `pass` and `mark_rest` of src/lib.rt.
-- Uses the definitions of format and observed, Unbound for row 11.
use Prim.Native.Nat.{ℕ, ◌<◌}
use mathlib.Core.Path.{◌≡◌, refl, sym, ap, ◌∙◌}
use mathlib.Core.Bool.{Bool, false, ◌||◌, not, or_assoc, or-false}
use mathlib.Core.List.{List, [], ◌∷◌}
use Rattle.std.proofs.Common.{Option, is_some}
use lib.ListN.{length}
use Rattle.terms.specs.declared.Binding.{Binding}
use Rattle.terms.specs.declared.Fact.{Fact}
use Rattle.observed.specs.Inverse.{marks, unbound, in_one_alone, some_fact, unbound_changed}
use Rattle.factlist.specs.declared.ListCursor.{ListCursor}
use Rattle.lifting.specs.Pairs.{lifted, marked_as}
use Rattle.factlist.specs.Rest.{rest, FactsWithin, next, Comes}
use Rattle.factlist.proofs.Rest.{rest_none}
use Rattle.lifting.proofs.Pairs.{atom_test, marked_as_lem}
use Rattle.stepmasks.proofs.Unbound.{none_more}

-- the cursor c with the set m, past a fact that is marked as the bound fact x
abbrev pub Passes : Option ℕ → ListCursor → List ℕ → ListCursor → List ℕ → Type 0
Passes x c m c' m' = (m' ≡ marked_as m x) × (c' ≡ next c)

module _ (s atoms : List ℕ) (b : Binding) where
  -- what that leaves to come
  pub record Passed (f : Fact) (c : ListCursor) (m : List ℕ) (c' : ListCursor) (m' : List ℕ) : Type 0 where
    pub first : rest s c ≡ f ∷ rest s c'
    pub ahead : FactsWithin s c'
    pub less : c'.left < c.left
    pub marked : marks atoms b m' (rest s c') ≡ marks atoms b m (rest s c)

  pub passed_by : {f : Fact} {x : Option ℕ} {c c' : ListCursor} {m m' : List ℕ} → x ≡ lifted atoms b f → Comes s c f → Passes x c m c' m' → Passed f c m c' m'
  unfolding marks
  passed_by {f} {x} {c} {c'} {m} is e p =
      record {
        first = rw p.1 e.first;
        ahead = rw p.1 e.ahead;
        less = rw p.1 e.less;
        marked = rw (p.0, marked_as_lem b f atoms x is m, p.1, e.first);
      }

  -- Where the loop stands: from c₀ on, marked up to c.
  pub record MarkedTo (m₀ : List ℕ) (c₀ : ListCursor) (m : List ℕ) (c : ListCursor) (changed : Bool) : Type 0 where
    pub ahead : FactsWithin s c
    pub long : length m ≡ length m₀
    pub marked : marks atoms b m (rest s c) ≡ marks atoms b m₀ (rest s c₀)
    pub met : (changed || unbound_changed atoms b [] (rest s c)) ≡ unbound_changed atoms b [] (rest s c₀)

  pub marked_none : (m : List ℕ) (c : ListCursor) → FactsWithin s c → MarkedTo m c m c false
  marked_none m c w = record { ahead = w; long = refl; marked = refl; met = refl }

  module _ {m₀ : List ℕ} {c₀ : ListCursor} {m : List ℕ} {c : ListCursor} {changed : Bool} (w : MarkedTo m₀ c₀ m c changed) where
    pub marked_next : (f : Fact) (x : Option ℕ) (m' : List ℕ) (c' : ListCursor) (none : Bool)
        → Comes s c f
        → x ≡ lifted atoms b f
        → Passes x c m c' m'
        → length m' ≡ length m
        → is_some x ≡ not none
        → MarkedTo m₀ c₀ m' c' (changed || none)
    marked_next f x m' c' none e d p l told =
        let t = passed_by d e p in
        record {
          ahead = t.ahead;
          long = l ∙ w.long;
          marked = t.marked ∙ w.marked;
          met =
              or_assoc changed none (unbound_changed atoms b [] (rest s c'))
              ∙ ap (λ (y : Bool). changed || y) (none_more atoms b f (rest s c') none (atom_test b f atoms x d none told) ∙ ap (unbound_changed atoms b []) (sym t.first))
              ∙ w.met;
        }

    pub marked_all : c.left ≡ 0 → (m ≡ marks atoms b m₀ (rest s c₀)) × (changed ≡ unbound_changed atoms b [] (rest s c₀))
    unfolding marks unbound_changed unbound in_one_alone some_fact
    marked_all e =
        let n = rest_none s c e in
        (ap (marks atoms b m) (sym n) ∙ w.marked, sym (or-false changed) ∙ ap (λ (fs : List Fact). changed || unbound_changed atoms b [] fs) (sym n) ∙ w.met)
