-- What was seen and what is learned of an atom: one law into each and one out of it.
use Prim.Native.Nat.{ℕ}
use mathlib.Core.Path.{◌≡◌, refl}
use mathlib.Core.Bool.{Bool, true, false, not}
use mathlib.Core.List.{List}
use lib.Dec.{eqb}
use borrow.Author.Tests.{eqb-true, eq-eqb, not-true}
use Rattle.truth.specs.Bools.{and_in, and_out, not_in}
use Rattle.quantify.specs.Quantify.{same, Mem}
use Rattle.model.specs.Domain.{Domain, Transition}
use Rattle.model.specs.Learned.{saw, before, after, turned, learned_rules, model_of, learned}
use Rattle.quantify.proofs.Truth.{same_in, same_out}
use Rattle.quantify.proofs.Quantify.{any_in, any_out}

-- a transition of the action, with the values at the atom's fact before and after it
pub record Sight (ts : List Transition) (a n : ℕ) (x y : Bool) : Type 0 where
  pub transition : Transition
  pub member : Mem transition ts
  pub action : transition.step.action ≡ a
  pub was : transition.pre (transition.step.ground n) ≡ x
  pub got : transition.post (transition.step.ground n) ≡ y

pub sight : (ts : List Transition) (t : Transition) (n : ℕ) → Mem t ts → Sight ts t.step.action n (t.pre (t.step.ground n)) (t.post (t.step.ground n))
sight ts t n m = record { transition = t; member = m; action = refl; was = refl; got = refl }

module _ (ts : List Transition) (test : Bool → Bool → Bool) (a n : ℕ) where
  pub saw_in : (x y : Bool) → Sight ts a n x y → test x y ≡ true → saw ts test a n ≡ true
  unfolding saw
  saw_in x y s e = any_in _ ts s.member (and_in _ _ (eq-eqb _ _ s.action) (rw (s.was, s.got) e))

  pub saw_out : saw ts test a n ≡ true → (x y : Bool) × Sight ts a n x y × (test x y ≡ true)
  unfolding saw
  saw_out e =
      let (t, m, h) = any_out _ ts e in
      let (l, r) = and_out (eqb t.step.action a) (test (t.pre (t.step.ground n)) (t.post (t.step.ground n))) h in
      (_, _, record { transition = t; member = m; action = eqb-true _ _ l; was = refl; got = refl }, r)

module _ (ts : List Transition) (a n : ℕ) where
  pub before_in : (x y : Bool) → Sight ts a n x y → before ts x a n ≡ true
  unfolding before
  before_in x y s = saw_in ts _ a n x y s (same_in x x refl)

  pub before_out : (x : Bool) → before ts x a n ≡ true → (y : Bool) × Sight ts a n x y
  unfolding before
  before_out b e = let (x, y, s, h) = saw_out ts _ a n e in (y, rw (← same_out b x h) at s)

  pub after_in : (x y : Bool) → Sight ts a n x y → after ts y a n ≡ true
  unfolding after
  after_in x y s = saw_in ts _ a n x y s (same_in y y refl)

  pub after_out : (y : Bool) → after ts y a n ≡ true → (x : Bool) × Sight ts a n x y
  unfolding after
  after_out b e = let (x, y, s, h) = saw_out ts _ a n e in (x, rw (← same_out b y h) at s)

  pub turned_in : (y : Bool) → Sight ts a n (not y) y → turned ts y a n ≡ true
  unfolding turned
  turned_in y s = saw_in ts _ a n (not y) y s (and_in _ _ (same_in (not y) (not y) refl) (same_in y y refl))

  pub turned_out : (y : Bool) → turned ts y a n ≡ true → Sight ts a n (not y) y
  unfolding turned
  turned_out b e =
      let (x, y, s, h) = saw_out ts _ a n e in
      let (l, r) = and_out (same (not b) x) (same b y) h in
      rw (← same_out (not b) x l, ← same_out b y r) at s

module _ (D : Domain) (ts : List Transition) where
  pub need_in : (b : Bool) (a n : ℕ) → D.atom a n ≡ true → before ts (not b) a n ≡ false → (learned D ts).precondition b a n ≡ true
  unfolding learned model_of learned_rules
  need_in true a n atom e = and_in _ _ atom (not_in _ e)
  need_in false a n atom e = and_in _ _ atom (not_in _ e)

  pub need_out : (b : Bool) (a n : ℕ) → (learned D ts).precondition b a n ≡ true → (D.atom a n ≡ true) × (before ts (not b) a n ≡ false)
  unfolding learned model_of learned_rules
  need_out true a n e = let (l, r) = and_out (D.atom a n) (not (before ts false a n)) e in (l, not-true _ r)
  need_out false a n e = let (l, r) = and_out (D.atom a n) (not (before ts true a n)) e in (l, not-true _ r)

  pub effect_in : (b : Bool) (a n : ℕ) → D.atom a n ≡ true → turned ts b a n ≡ true → (learned D ts).effect b a n ≡ true
  unfolding learned model_of learned_rules
  effect_in true a n atom e = and_in _ _ atom e
  effect_in false a n atom e = and_in _ _ atom e

  pub effect_out : (b : Bool) (a n : ℕ) → (learned D ts).effect b a n ≡ true → (D.atom a n ≡ true) × (turned ts b a n ≡ true)
  unfolding learned model_of learned_rules
  effect_out true a n e = and_out (D.atom a n) (turned ts true a n) e
  effect_out false a n e = and_out (D.atom a n) (turned ts false a n) e
