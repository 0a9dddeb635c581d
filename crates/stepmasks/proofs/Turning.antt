-- The facts of a list that turn in a state and in a set of bound facts, one by one. For `mark_turned` of src/lib.rt.
use Prim.Native.Nat.{ℕ}
use mathlib.Core.Path.{◌≡◌, refl, sym, ap, ◌∙◌}
use mathlib.Core.Bool.{Bool, false, ◌||◌, not, or-false, or_assoc}
use mathlib.Core.List.{List}
use Rattle.std.proofs.Common.{Option, is_some}
use lib.ListN.{length}
use Rattle.mask.specs.Bits.{flip_bit}
use Rattle.terms.specs.declared.Binding.{Binding}
use Rattle.terms.specs.declared.Fact.{Fact}
use Rattle.terms.specs.Facts.{fact_number}
use Rattle.quantify.specs.Quantify.{any}
use Rattle.observed.specs.Inverse.{turn_marks, some_unbound}
use Rattle.turning.specs.Turning.{flipped}
use Rattle.factlist.specs.declared.ListCursor.{ListCursor}
use Rattle.lifting.specs.Pairs.{lifted, turned_as}
use Rattle.factlist.specs.Rest.{rest, FactsWithin, next, Comes}
use Rattle.lifting.proofs.Pairs.{atom_test, turned_as_lem}
use Rattle.factlist.proofs.Rest.{rest_none}

module _ (s atoms : List ℕ) (b : Binding) where
  -- Where the loop stands: the facts from c₀ on have turned up to c.
  pub record Turns (m₀ n₀ : List ℕ) (c₀ : ListCursor) (m n : List ℕ) (c : ListCursor) (unbound : Bool) : Type 0 where
    pub ahead : FactsWithin s c
    pub long : (length m ≡ length m₀) × (length n ≡ length n₀)
    pub state : flipped (rest s c) m ≡ flipped (rest s c₀) m₀
    pub after : turn_marks atoms b n (rest s c) ≡ turn_marks atoms b n₀ (rest s c₀)
    pub met : (unbound || some_unbound atoms b (rest s c)) ≡ some_unbound atoms b (rest s c₀)

  pub turns_none : (m n : List ℕ) (c : ListCursor) → FactsWithin s c → Turns m n c m n c false
  turns_none m n c w = record { ahead = w; long = (refl, refl); state = refl; after = refl; met = refl }

  module _ {m₀ n₀ : List ℕ} {c₀ : ListCursor} {m n : List ℕ} {c : ListCursor} {unbound : Bool} (w : Turns m₀ n₀ c₀ m n c unbound) where
    pub turns_next : (f : Fact) (x : Option ℕ) (m' n' : List ℕ) (c' : ListCursor) (none : Bool)
        → Comes s c f
        → x ≡ lifted atoms b f
        → m' ≡ flip_bit m (fact_number f)
        → n' ≡ turned_as n x
        → c' ≡ next c
        → length m' ≡ length m
        → length n' ≡ length n
        → is_some x ≡ not none
        → Turns m₀ n₀ c₀ m' n' c' (unbound || none)
    unfolding flipped turn_marks some_unbound any
    turns_next f x m' n' c' none e d p q o k l told =
        record {
          ahead = rw o e.ahead;
          long = (k ∙ w.long.0, l ∙ w.long.1);
          state = rw (p, o) (ap (λ (fs : List Fact). flipped fs m) (sym e.first) ∙ w.state);
          after = rw (q, o, turned_as_lem b f atoms x d n) (ap (turn_marks atoms b n) (sym e.first) ∙ w.after);
          met =
              or_assoc unbound none (some_unbound atoms b (rest s c'))
              ∙ ap (λ (y : Bool). unbound || y) (rw (atom_test b f atoms x d none told, o) (ap (some_unbound atoms b) (sym e.first))) ∙ w.met;
        }

    pub turns_all : c.left ≡ 0 → (m ≡ flipped (rest s c₀) m₀) × (n ≡ turn_marks atoms b n₀ (rest s c₀)) × (unbound ≡ some_unbound atoms b (rest s c₀))
    unfolding flipped turn_marks some_unbound any
    turns_all e =
        let k = rest_none s c e in
        (ap (λ (fs : List Fact). flipped fs m) (sym k) ∙ w.state, ap (turn_marks atoms b n) (sym k) ∙ w.after, sym (or-false unbound) ∙ ap (λ (fs : List Fact). unbound || some_unbound atoms b fs) (sym k) ∙ w.met)
