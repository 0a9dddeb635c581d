-- The learned model is stricter than each model that explains what was seen, so than each consistent one. That it is consistent itself is not used here.
use Prim.Native.Nat.{ℕ}
use mathlib.Core.Path.{◌≡◌, refl, sym, ◌∙◌}
use mathlib.Core.Bool.{Bool, true, false, ◌&&◌, ◌||◌, not, not-not, or-false}
use mathlib.Core.List.{List}
use borrow.Author.Tests.{not-false}
use Rattle.truth.specs.Bools.{clash, neither, not_self, is_false, is_true, or_right}
use Rattle.model.specs.Domain.{Domain, Transition}
use Rattle.model.specs.Model.{Model, Valid, Consistent}
use Rattle.model.specs.Learned.{before, after, turned, learned_rules, model_of, learned}
use Rattle.model.specs.Formed.{Formed}
use Rattle.model.specs.Stricter.{value, Stricter}
use Rattle.model.proofs.Next.{next_at, inapplicable_in_lem}
use Rattle.model.proofs.Seen.{Sight, before_out, after_in, after_out, turned_in, turned_out, need_in}

-- what an action has made of an atom, it leaves so
pub value_twice : (M : Model) (a n : ℕ) (b : Bool) → value M a n (value M a n b) ≡ value M a n b
unfolding value
value_twice M a n b = go (M.effect true a n) (M.effect false a n) b
  where
    go : (p d x : Bool) → (p || (p || (x && not d)) && not d) ≡ (p || (x && not d))
    go true d x = refl
    go false true true = refl
    go false true false = refl
    go false false true = refl
    go false false false = refl

-- the atom was never seen turned to a value and, after another step, with the other
abbrev pub Unconflicted : List Transition → ℕ → ℕ → Type 0
Unconflicted ts a n = (y : Bool) → turned ts y a n ≡ true → after ts (not y) a n ≡ true → ⊥

-- so what was seen after a step was never turned to the other value
pub not_turned : (ts : List Transition) (a n : ℕ) → Unconflicted ts a n → (x y : Bool) → Sight ts a n x y → turned ts (not y) a n ≡ false
not_turned ts a n unconflicted x true s = is_false _ (λ e. unconflicted false e (after_in ts a n x true s))
not_turned ts a n unconflicted x false s = is_false _ (λ e. unconflicted true e (after_in ts a n x false s))

-- Where an atom is in no conflict, the learned model makes of a value what was seen of it.
pub learned_makes : (D : Domain) (ts : List Transition) (a n : ℕ) → D.atom a n ≡ true → Unconflicted ts a n → (x y : Bool) → Sight ts a n x y → value (learned D ts) a n x ≡ y
unfolding value learned model_of learned_rules
learned_makes D ts a n atom unconflicted true true s = rw (atom, not_turned ts a n unconflicted true true s) (or_right (turned ts true a n) true refl)
learned_makes D ts a n atom unconflicted true false s = rw (atom, not_turned ts a n unconflicted true false s, turned_in ts a n false s)
learned_makes D ts a n atom unconflicted false true s = rw (atom, turned_in ts a n true s)
learned_makes D ts a n atom unconflicted false false s = rw (atom, not_turned ts a n unconflicted false false s)

-- What joins a list of transitions to learning is local: at each atom alone the model makes of a value what was seen of it,
-- and needs nothing that was seen otherwise.
pub record Explains (D : Domain) (ts : List Transition) (M : Model) : Type 0 where
  pub made : (a n : ℕ) → D.atom a n ≡ true → (x y : Bool) → Sight ts a n x y → value M a n x ≡ y
  pub met : (a n : ℕ) → D.atom a n ≡ true → (x y : Bool) → Sight ts a n x y → M.precondition (not x) a n ≡ false

pub explains : (D : Domain) (ts : List Transition) → Formed D ts → (M : Model) → Consistent D ts M → Explains D ts M
explains D ts formed M consistent =
    record {
      made = λ a n atom x y s.
          let t = s.transition in
          let h = next_at D t.step M consistent.valid t.pre (formed.proper t s.member) n (rw s.action atom) in
          rw (s.action, s.was, s.got) at (sym h ∙ sym ((consistent.fits t s.member).yields (t.step.ground n)));
      met = λ a n atom x y s.
          let t = s.transition in
          let ranged = (formed.proper t s.member).ranged n (rw s.action atom) in
          is_false _ (λ h. clash _ (inapplicable_in_lem D t.step M t.pre n ranged (rw (s.was, s.action) h)) (consistent.fits t s.member).goes);
    }

-- what turns a value is an effect
pub forced : (M : Model) (a n : ℕ) (b : Bool) → value M a n (not b) ≡ b → M.effect b a n ≡ true
unfolding value
forced M a n true e = rw or-false at e
forced M a n false e = not-false _ (neither (M.effect true a n) (not (M.effect false a n)) e).1

module _ (D : Domain) (ts : List Transition) (M : Model) (explained : Explains D ts M) where
  pub model_unconflicted : (a n : ℕ) → D.atom a n ≡ true → Unconflicted ts a n
  model_unconflicted a n atom y e h =
      let (x, s) = after_out ts a n (not y) h in
      not_self y (sym (explained.made a n atom (not y) y (turned_out ts a n y e)) ∙ rw (explained.made a n atom x (not y) s) at (value_twice M a n x))

  -- Of a value that was seen before the action, such a model and the learned one make the same.
  pub agree : (a n : ℕ) → D.atom a n ≡ true → (b : Bool) → before ts b a n ≡ true → value M a n b ≡ value (learned D ts) a n b
  agree a n atom b e =
      let (y, s) = before_out ts a n b e in
      explained.made a n atom b y s ∙ sym (learned_makes D ts a n atom (model_unconflicted a n atom) b y s)

  -- The learned model is stricter than each that explains what was seen.
  pub stricter : Valid D M → Stricter D (learned D ts) M
  stricter valid =
      record {
        needs = λ b a n h.
            let atom = valid.needed_atom b a n h in
            need_in D ts b a n atom
            (is_false _ (λ e. let (y, s) = before_out ts a n (not b) e in clash _ h (rw not-not at (explained.met a n atom (not b) y s))));
        alike = λ b a n atom h. agree a n atom b (is_true _ (λ e. clash _ (need_in D ts (not b) a n atom (rw not-not e)) h));
      }
