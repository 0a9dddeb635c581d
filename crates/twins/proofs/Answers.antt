-- Answers that are the same but for the places of 11 and 28: the relation, and its laws through rows in order, rows over lists, lent bytes and positions.
use Prim.Native.Nat.{ℕ}
use mathlib.Core.Path.{◌≡◌, refl, sym, ap, ap₂, ◌∙◌}
use mathlib.Core.Logic.{◌⊎◌, inl, inr}
use mathlib.Core.Bool.{Bool, true, false}
use mathlib.Core.List.{List}
use Rattle.answer.specs.Answer.{Answer, Good, Refused, Positioned, ◌>>=◌, first_refused, number, place, unpositioned, then_at, kept}
use Rattle.answer.proofs.Laws.{bind_refused}
use Rattle.truth.specs.Bools.{clash, decide}
use Rattle.quantify.specs.Quantify.{any}
use Rattle.jobs.proofs.FirstRefused.{first_refused_none, first_refused_some}
use Rattle.twins.specs.Twins.{placed_apart, SameAnswer}

-- equal, or both refused by one number, each at an offset in its own book
pub data Twin (a b : Answer) : Type 0 where
  equal : a ≡ b → Twin a b
  elsewhere : (num p q : ℕ) → placed_apart num ≡ true → a ≡ Refused num p → b ≡ Refused num q → Twin a b

-- rows in order
pub twin_rest : (a : Answer) (j k : ℕ → Answer) → ((n : ℕ) → Twin (j n) (k n)) → Twin (a >>= j) (a >>= k)
unfolding ◌>>=◌
twin_rest (Good n) j k h = h n
twin_rest (Refused n p) j k h = equal refl

-- where the first part may differ too
pub twin_bind : (a b : Answer) (j k : ℕ → Answer) → Twin a b → ((n : ℕ) → Twin (j n) (k n)) → Twin (a >>= j) (b >>= k)
twin_bind a b j k (equal e) h = rw e (twin_rest b j k h)
twin_bind a b j k (elsewhere num p q t e e') h = elsewhere num p q t (bind_refused a j num p e) (bind_refused b k num q e')

-- a row over two lists, met by a member of both, or of neither
pub first_twin : {A B : Type 0} (bad : A → Bool) (bad' : B → Bool) (num : ℕ) (placed : A → ℕ) (placed' : B → ℕ) (xs : List A) (ys : List B)
    → placed_apart num ≡ true → any bad xs ≡ any bad' ys → Twin (first_refused bad num placed xs) (first_refused bad' num placed' ys)
first_twin bad bad' num placed placed' xs ys t e = go (decide (any bad xs))
  where
    go : (any bad xs ≡ true) ⊎ (any bad xs ≡ false) → Twin (first_refused bad num placed xs) (first_refused bad' num placed' ys)
    go (inl h) =
        let (x, m, v, q) = first_refused_some bad num placed xs h in
        let (y, k, w, r) = first_refused_some bad' num placed' ys (sym e ∙ h) in
        elsewhere num (placed x) (placed' y) t q r
    go (inr h) = equal (first_refused_none bad num placed xs h ∙ sym (first_refused_none bad' num placed' ys (sym e ∙ h)))

-- what a reader sees of it
pub twin_answer : (a b : Answer) → Twin a b → SameAnswer a b
unfolding number
twin_answer a b (equal e) = record { number_same = ap number e; place_same = λ other. ap place e }
twin_answer a b (elsewhere num p q t e e') = record { number_same = rw (e, e'); place_same = λ other. clash (placed_apart num) t (rw e at other) }

-- lent bytes after a call
pub twin_kept : (a b : Answer) (new new' old : List ℕ) → Twin a b → new ≡ new' → kept a new old ≡ kept b new' old
unfolding kept
twin_kept a b new new' old (equal e) h = ap₂ (λ (x : Answer) (y : List ℕ). kept x y old) e h
twin_kept a b new new' old (elsewhere num p q t e e') h = rw (e, e')

-- an answer with a position, behind rows that are about no start
module _ (a b : Answer) (r r' : Positioned) (same : r ≡ r') where
  -- number and place are so too,
  pub twin_then : Twin a b → Twin (then_at a r).answer (then_at b r').answer
  unfolding then_at unpositioned
  twin_then (equal e) = equal (ap₂ (λ (x : Answer) (y : Positioned). (then_at x y).answer) e same)
  twin_then (elsewhere num p q t e e') = elsewhere num p q t (rw e) (rw e')

  -- and the position is the same, since neither 11 nor 28 has one
  pub twin_position : Twin a b → (then_at a r).position ≡ (then_at b r').position
  unfolding then_at unpositioned
  twin_position (equal e) = ap₂ (λ (x : Answer) (y : Positioned). (then_at x y).position) e same
  twin_position (elsewhere num p q t e e') = rw (e, e')
