-- What is learned of an action depends on what its own steps show at its atoms, and on nothing else.
use Prim.Native.Nat.{ℕ}
use mathlib.Core.Path.{◌≡◌, refl, sym, ◌∙◌, ap}
use mathlib.Core.Logic.{◌↔◌}
use mathlib.Core.Bool.{Bool, true, false, ◌||◌, not}
use mathlib.Core.List.{List, ◌++◌}
use Rattle.truth.specs.Bools.{bool_eq, guarded}
use Rattle.quantify.specs.Quantify.{Mem, here, there}
use Rattle.model.specs.Domain.{Domain, Transition}
use Rattle.model.specs.Learned.{Rules, saw, before, after, turned, learned_rules, conflicting}
use Rattle.model.specs.Alike.{Alike, EachAlike, SameOfAction, SameRules, Renumbered, none, more}
use Rattle.quantify.proofs.Quantify.{any_append, below_same}
use Rattle.model.proofs.Seen.{Sight, saw_in, saw_out}

-- what was seen in two lists together was seen in one of them
pub saw_append : (ts us : List Transition) (test : Bool → Bool → Bool) (a n : ℕ) → saw (ts ++ us) test a n ≡ (saw ts test a n || saw us test a n)
unfolding saw
saw_append ts us test a n = any_append _ ts us

-- rules that are the same at each atom are the same
pub rules_equal : (R S : Rules) → ((a n : ℕ) → SameRules R S a n) → R ≡ S
rules_equal R S same =
    λ i.
    record {
      needed = λ a n. (same a n).needed i;
      needed_not = λ a n. (same a n).needed_not i;
      added = λ a n. (same a n).added i;
      removed = λ a n. (same a n).removed i;
    }

module _ (D : Domain) where
  pub alike_refl : (t : Transition) → Alike D t t
  alike_refl t = record { action = refl; was = λ n atom. refl; got = λ n atom. refl }

  pub alike_sym : (t u : Transition) → Alike D t u → Alike D u t
  alike_sym t u h =
      record { action = sym h.action; was = λ n atom. sym (h.was n (rw h.action atom)); got = λ n atom. sym (h.got n (rw h.action atom)) }

  -- the same transitions of the action: the same is shown of it
  pub same_of_members : (a : ℕ) (ts us : List Transition) → ((t : Transition) → t.step.action ≡ a → Mem t ts ↔ Mem t us) → SameOfAction D a ts us
  same_of_members a ts us h =
      record { forth = λ t m e. (t, (h t e).0 m, alike_refl t); back = λ t m e. (t, (h t e).1 m, alike_refl t) }

  renumbered_forth : {ts us : List Transition} → Renumbered D ts us → {t : Transition} → Mem t ts → (u : Transition) × Mem u us × Alike D t u
  renumbered_forth none {t = t} x4 = elim x4 [ ]
  renumbered_forth (more {u = u} h rest) here = (u, here, h)
  renumbered_forth (more h rest) (there m) = let (v, k, e) = renumbered_forth rest m in (v, there k, e)

  renumbered_sym : {ts us : List Transition} → Renumbered D ts us → Renumbered D us ts
  renumbered_sym none = none
  renumbered_sym (more {t = t} {u = u} h rest) = more (alike_sym t u h) (renumbered_sym rest)

  -- Renumbered objects change nothing of what is shown of an action.
  pub same_of_renumbered : (ts us : List Transition) → Renumbered D ts us → (a : ℕ) → SameOfAction D a ts us
  same_of_renumbered ts us h a =
      record { forth = λ t m e. renumbered_forth h m; back = λ t m e. renumbered_forth (renumbered_sym h) m }

  module _ (a : ℕ) where
    sight_over : (ts us : List Transition) → EachAlike D a ts us → (n : ℕ) → D.atom a n ≡ true → (x y : Bool) → Sight ts a n x y → Sight us a n x y
    sight_over ts us shown n atom x y s =
        let (u, m, h) = shown s.transition s.member s.action in
        let atom' = rw (← s.action) at atom in
        record {
          transition = u;
          member = m;
          action = sym h.action ∙ s.action;
          was = sym (h.was n atom') ∙ s.was;
          got = sym (h.got n atom') ∙ s.got;
        }

    module _ (ts us : List Transition) (shown : SameOfAction D a ts us) where
      pub saw_same : (test : Bool → Bool → Bool) (n : ℕ) → D.atom a n ≡ true → saw ts test a n ≡ saw us test a n
      saw_same test n atom =
          bool_eq
          _
          _
          (λ e. let (x, y, s, h) = saw_out ts test a n e in saw_in us test a n x y (sight_over ts us shown.forth n atom x y s) h)
          (λ e. let (x, y, s, h) = saw_out us test a n e in saw_in ts test a n x y (sight_over us ts shown.back n atom x y s) h)

      before_same : (b : Bool) (n : ℕ) → D.atom a n ≡ true → before ts b a n ≡ before us b a n
      unfolding before
      before_same b n atom = saw_same _ n atom

      after_same : (b : Bool) (n : ℕ) → D.atom a n ≡ true → after ts b a n ≡ after us b a n
      unfolding after
      after_same b n atom = saw_same _ n atom

      turned_same : (b : Bool) (n : ℕ) → D.atom a n ≡ true → turned ts b a n ≡ turned us b a n
      unfolding turned
      turned_same b n atom = saw_same _ n atom

      -- Two lists that show the same of an action teach the same rules of it,
      pub rules_same : (n : ℕ) → SameRules (learned_rules D ts) (learned_rules D us) a n
      unfolding learned_rules
      rules_same n =
          record {
            needed = guarded (D.atom a n) _ _ (λ atom. ap not (before_same false n atom));
            needed_not = guarded (D.atom a n) _ _ (λ atom. ap not (before_same true n atom));
            added = guarded (D.atom a n) _ _ (turned_same true n);
            removed = guarded (D.atom a n) _ _ (turned_same false n);
          }

      -- and have a conflict together.
      pub conflicting_same : conflicting D ts a ≡ conflicting D us a
      unfolding conflicting
      conflicting_same =
          below_same
          _
          _
          _
          (λ n. guarded (D.atom a n) _ _ (λ atom. rw (turned_same true n atom, after_same false n atom, turned_same false n atom, after_same true n atom)))
