-- What one transition more does to what a list of transitions shows: the change of each set, said of values seen before and after.
use Prim.Native.Nat.{ℕ, zero, suc}
use mathlib.Core.Path.{◌≡◌, refl, ap, ◌∙◌}
use mathlib.Core.Bool.{Bool, true, false, ◌&&◌, ◌||◌, not, or-false, and_comm}
use mathlib.Core.List.{List, [], ◌∷◌, ◌++◌}
use lib.Dec.{eqb}
use borrow.Author.Tests.{eq-eqb, ne_eqb}
use Rattle.quantify.specs.Quantify.{same, any}
use Rattle.model.specs.Domain.{Transition}
use Rattle.model.specs.Learned.{saw, before, after, turned}
use Rattle.quantify.proofs.Truth.{same_true, same_false}
use Rattle.model.proofs.OneAction.{saw_append}
use Rattle.observed.specs.Seen.{in_set}
use Rattle.observed.proofs.Noted.{changed}

-- `looks k` tests the values before and after a transition that set k is about; the set has the atoms for which that was seen, or those for which it
-- was not (`reads k`)
looks : ℕ → Bool → Bool → Bool
looks zero x y = same false x
looks (suc zero) x y = same true x
looks (suc (suc zero)) x y = same false y
looks (suc (suc (suc zero))) x y = same true y
looks (suc (suc (suc (suc zero)))) x y = same false x && same true y
looks (suc (suc (suc (suc (suc k))))) x y = same true x && same false y

reads : ℕ → Bool → Bool
reads zero b = not b
reads (suc zero) b = b
reads (suc (suc zero)) b = not b
reads (suc (suc (suc k))) b = b

shown_saw : (ts : List Transition) (k a n : ℕ) → in_set ts k a n ≡ reads k (saw ts (looks k) a n)
unfolding in_set before after turned reads looks
shown_saw ts zero a n = refl
shown_saw ts (suc zero) a n = refl
shown_saw ts (suc (suc zero)) a n = refl
shown_saw ts (suc (suc (suc zero))) a n = refl
shown_saw ts (suc (suc (suc (suc zero)))) a n = refl
shown_saw ts (suc (suc (suc (suc (suc k))))) a n = refl

neither_seen : (b x : Bool) → not (b || not x) ≡ (not b && x)
neither_seen true x = refl
neither_seen false true = refl
neither_seen false false = refl

-- what was seen before or is seen now, as the sets have it
reads_or : (k : ℕ) (x y b : Bool) → reads k (b || looks k x y) ≡ changed k x y (reads k b)
unfolding reads looks changed
reads_or zero x y b = rw same_false (neither_seen b x)
reads_or (suc zero) x y b = rw same_true
reads_or (suc (suc zero)) x y b = rw same_false (neither_seen b y)
reads_or (suc (suc (suc zero))) x y b = rw same_true
reads_or (suc (suc (suc (suc zero)))) x y b = rw (same_false, same_true, and_comm (not x) y)
reads_or (suc (suc (suc (suc (suc k))))) x y b = rw (same_false, same_true)

module _ (ts : List Transition) (t : Transition) (k a n : ℕ) where
  saw_last : (test : Bool → Bool → Bool) → saw (ts ++ t ∷ []) test a n
      ≡ (saw ts test a n || eqb t.step.action a && test (t.pre (t.step.ground n)) (t.post (t.step.ground n)))
  unfolding saw any
  saw_last test = saw_append ts (t ∷ []) test a n ∙ ap (λ (b : Bool). saw ts test a n || b) (or-false _)

  -- A transition of the move changes each set as a step is noted,
  pub shown_own : t.step.action ≡ a → in_set (ts ++ t ∷ []) k a n ≡ changed k (t.pre (t.step.ground n)) (t.post (t.step.ground n)) (in_set ts k a n)
  shown_own e = simp (shown_saw, saw_last, eq-eqb t.step.action a e) (reads_or k _ _ _)

  -- and one of another move changes nothing.
  pub shown_other : (t.step.action ≡ a → ⊥) → in_set (ts ++ t ∷ []) k a n ≡ in_set ts k a n
  shown_other d = simp (shown_saw, saw_last, ne_eqb t.step.action a d) (ap (reads k) (or-false _))
