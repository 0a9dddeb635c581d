-- Ground actions trimmed to what a model may ask of them: the facts of their atoms. Learning, fitting models and runs are the same by trimmed
-- transitions, steps that did not go and plans, so that books whose groundings differ elsewhere need only be compared trimmed.
use Prim.Native.Nat.{ℕ, suc}
use mathlib.Core.Path.{◌≡◌, refl, sym, ap, ap₂, ◌∙◌, subst}
use mathlib.Core.Logic.{◌↔◌}
use mathlib.Core.Bool.{Bool, true, false, cond, ◌&&◌, ◌||◌, not}
use mathlib.Core.List.{List, [], ◌∷◌, map}
use lib.Dec.{eqb}
use Rattle.truth.specs.Bools.{clash, is_false, guarded}
use Rattle.quantify.specs.Quantify.{same, any}
use Rattle.model.specs.Domain.{Domain, State, GroundAction, Transition, Failed}
use Rattle.model.specs.Model.{Model, Valid, Fits, Consistent, Fitting, image, inapplicable, next, Run, stopped, run}
use Rattle.model.specs.Learned.{learned_rules, learned, unbound_effect, conflicting}
use Rattle.model.specs.Check.{refuted}
use Rattle.model.specs.Alike.{Alike, SameOfAction, Renumbered, none, more}
use Rattle.quantify.proofs.Quantify.{below_same}
use Rattle.model.proofs.OneAction.{rules_equal, same_of_renumbered, rules_same, conflicting_same}
use Rattle.model.proofs.Seen.{need_out, effect_out}
use Rattle.quantify.proofs.Mapped.{mem_map_out, mem_map_in}

-- a ground action with no fact but those of its atoms
unfoldable pub trimmed : Domain → GroundAction → GroundAction
trimmed D s = record { action = s.action; ground = λ n. cond (D.atom s.action n) (s.ground n) 0 }

-- and a transition by such a step
unfoldable pub trimmed_transition : Domain → Transition → Transition
trimmed_transition D t = record { step = trimmed D t.step; pre = t.pre; post = t.post }

-- and a step that did not go
unfoldable pub trimmed_failed : Domain → Failed → Failed
trimmed_failed D u = record { step = trimmed D u.step; state = u.state }

-- the sets of the model hold atoms of their action alone
pub record OfAtoms (D : Domain) (M : Model) : Type 0 where
  pub needs : (b : Bool) (a n : ℕ) → M.precondition b a n ≡ true → D.atom a n ≡ true
  pub effects : (b : Bool) (a n : ℕ) → M.effect b a n ≡ true → D.atom a n ≡ true

-- as those of a valid model do,
pub valid_of_atoms : (D : Domain) (M : Model) → Valid D M → OfAtoms D M
valid_of_atoms D M v = record { needs = v.needed_atom; effects = v.effect_atom }

-- and those of a learned one
pub learned_of_atoms : (D : Domain) (ts : List Transition) → OfAtoms D (learned D ts)
learned_of_atoms D ts = record { needs = λ b a n e. (need_out D ts b a n e).0; effects = λ b a n e. (effect_out D ts b a n e).0 }

module _ (D : Domain) where
  trimmed_ground : (s : GroundAction) (n : ℕ) → D.atom s.action n ≡ true → (trimmed D s).ground n ≡ s.ground n
  unfolding trimmed
  trimmed_ground s n e = rw e

  image_trimmed : (q : ℕ → Bool) (s : GroundAction) → ((n : ℕ) → q n ≡ true → D.atom s.action n ≡ true)
      → (f : ℕ) → image D q (trimmed D s) f ≡ image D q s f
  unfolding image
  image_trimmed q s h f = below_same _ _ _ (λ n. guarded (q n) _ _ (λ e. ap (λ (x : ℕ). eqb x f) (trimmed_ground s n (h n e))))

  -- row 11 is met by both, or by neither
  unbound_trimmed : (t : Transition) → unbound_effect D (trimmed_transition D t) ≡ unbound_effect D t
  unfolding unbound_effect trimmed_transition trimmed
  unbound_trimmed t =
      below_same _ _ _
      (λ f. guarded (not (same (t.pre f) (t.post f))) _ _ (λ e. ap not (image_trimmed (D.atom t.step.action) t.step (λ n h. h) f)))

  pub any_unbound_trimmed : (ts : List Transition) → any (unbound_effect D) (map (trimmed_transition D) ts) ≡ any (unbound_effect D) ts
  unfolding any
  any_unbound_trimmed [] = refl
  any_unbound_trimmed (t ∷ ts) = ap₂ (λ (b c : Bool). b || c) (unbound_trimmed t) (any_unbound_trimmed ts)

  -- ---- learning

  alike_trimmed : (t : Transition) → Alike D t (trimmed_transition D t)
  unfolding trimmed_transition trimmed
  alike_trimmed t =
      record {
        action = refl;
        was = λ n atom. ap t.pre (sym (trimmed_ground t.step n atom));
        got = λ n atom. ap t.post (sym (trimmed_ground t.step n atom));
      }

  all_alike : (ts : List Transition) → Renumbered D ts (map (trimmed_transition D) ts)
  all_alike [] = none
  all_alike (t ∷ ts) = more (alike_trimmed t) (all_alike ts)

  block_trimmed : (ts : List Transition) (a : ℕ) → SameOfAction D a ts (map (trimmed_transition D) ts)
  block_trimmed ts a = same_of_renumbered D ts (map (trimmed_transition D) ts) (all_alike ts) a

  -- The same rules are learned,
  pub rules_trimmed : (ts : List Transition) → learned_rules D ts ≡ learned_rules D (map (trimmed_transition D) ts)
  rules_trimmed ts = rules_equal _ _ (λ a n. rules_same D a ts (map (trimmed_transition D) ts) (block_trimmed ts a) n)

  -- and the same actions have a conflict.
  pub conflicting_trimmed : (ts : List Transition) → conflicting D ts ≡ conflicting D (map (trimmed_transition D) ts)
  conflicting_trimmed ts = λ i a. conflicting_same D a ts (map (trimmed_transition D) ts) (block_trimmed ts a) i

  -- ---- models

  module _ (M : Model) (own : OfAtoms D M) where
    needed_trimmed : (s : GroundAction) (st : State) (n : ℕ) (b : Bool) → D.atom s.action n ≡ b
        → M.precondition (not (st ((trimmed D s).ground n))) s.action n ≡ M.precondition (not (st (s.ground n))) s.action n
    needed_trimmed s st n true e = rw (trimmed_ground s n e)
    needed_trimmed s st n false e =
        is_false _ (λ h. clash (D.atom s.action n) (own.needs _ s.action n h) e)
        ∙ sym (is_false _ (λ h. clash (D.atom s.action n) (own.needs _ s.action n h) e))

    inapplicable_trimmed : (s : GroundAction) (st : State) → inapplicable D M (trimmed D s) st ≡ inapplicable D M s st
    unfolding inapplicable trimmed
    inapplicable_trimmed s st = below_same _ _ _ (λ n. needed_trimmed s st n (D.atom s.action n) refl)

    next_trimmed : (s : GroundAction) (st : State) → next D M (trimmed D s) st ≡ next D M s st
    unfolding next trimmed
    next_trimmed s st =
        λ i f.
        image_trimmed (M.effect true s.action) s (own.effects true s.action) f i
        || (st f && not (image_trimmed (M.effect false s.action) s (own.effects false s.action) f i))

    -- A plan comes to the same,
    pub run_trimmed : (plan : List GroundAction) (st : State) (k : ℕ) → run D M (map (trimmed D) plan) st k ≡ run D M plan st k
    unfolding run
    run_trimmed [] st k = refl
    run_trimmed (s ∷ plan) st k =
        ap₂ (λ (b : Bool) (r : Run). elim b as (λ c. Run) [ true ↦ stopped k | false ↦ r ]) (inapplicable_trimmed s st)
        (ap (λ (x : State). run D M (map (trimmed D) plan) x (suc k)) (next_trimmed s st) ∙ run_trimmed plan (next D M s st) (suc k))

    -- row 28 is met by both, or by neither,
    refuted_trimmed : (u : Failed) → refuted D M (trimmed_failed D u) ≡ refuted D M u
    unfolding refuted trimmed_failed
    refuted_trimmed u = ap not (inapplicable_trimmed u.step u.state)

    pub any_refuted_trimmed : (us : List Failed) → any (refuted D M) (map (trimmed_failed D) us) ≡ any (refuted D M) us
    unfolding any
    any_refuted_trimmed [] = refl
    any_refuted_trimmed (u ∷ us) = ap₂ (λ (b c : Bool). b || c) (refuted_trimmed u) (any_refuted_trimmed us)

    -- a transition fits,
    fits_trimmed : (t : Transition) → Fits D M t ↔ Fits D M (trimmed_transition D t)
    unfolding trimmed_transition
    fits_trimmed t =
        let goes = inapplicable_trimmed t.step t.pre in
        let yields = next_trimmed t.step t.pre in (
          λ h. record { goes = goes ∙ h.goes; yields = λ f. h.yields f ∙ ap (λ (x : State). x f) (sym yields) },
          λ h. record { goes = sym goes ∙ h.goes; yields = λ f. h.yields f ∙ ap (λ (x : State). x f) yields },
        )

  -- the same models are consistent,
  consistent_trimmed : (ts : List Transition) (M : Model) → Consistent D ts M ↔ Consistent D (map (trimmed_transition D) ts) M
  consistent_trimmed ts M = (
    λ h.
        record {
          valid = h.valid;
          fits = λ u m.
              let (t, k, e) = mem_map_out (trimmed_transition D) ts m in
              subst (λ (x : Transition). Fits D M x) e ((fits_trimmed M (valid_of_atoms D M h.valid) t).0 (h.fits t k));
        },
    λ h.
        record {
          valid = h.valid;
          fits = λ t m. (fits_trimmed M (valid_of_atoms D M h.valid) t).1 (h.fits (trimmed_transition D t) (mem_map_in (trimmed_transition D) ts m));
        },
  )

  -- and the same models fit.
  pub fitting_trimmed : (ts : List Transition) (us : List Failed) (M : Model) → Fitting D ts us M ↔ Fitting D (map (trimmed_transition D) ts) (map (trimmed_failed D) us) M
  unfolding trimmed_failed
  fitting_trimmed ts us M = (
    λ h.
        record {
          consistent = (consistent_trimmed ts M).0 h.consistent;
          bars = λ v m.
              let (u, k, e) = mem_map_out (trimmed_failed D) us m in
              subst (λ (x : Failed). inapplicable D M x.step x.state ≡ true) e
              (inapplicable_trimmed M (valid_of_atoms D M h.consistent.valid) u.step u.state ∙ h.bars u k);
        },
    λ h.
        record {
          consistent = (consistent_trimmed ts M).1 h.consistent;
          bars = λ u m.
              sym (inapplicable_trimmed M (valid_of_atoms D M h.consistent.valid) u.step u.state)
              ∙ h.bars (trimmed_failed D u) (mem_map_in (trimmed_failed D) us m);
        },
  )
