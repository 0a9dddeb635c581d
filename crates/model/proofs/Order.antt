-- The sequence of the transitions does not matter, nor how often one is there; and so of the steps that did not go.
use Prim.Native.Nat.{ℕ, suc}
use mathlib.Core.Path.{◌≡◌, ap}
use mathlib.Core.Logic.{◌↔◌}
use mathlib.Core.List.{List}
use Rattle.quantify.specs.Quantify.{any}
use Rattle.model.specs.Domain.{Domain, Transition, Failed}
use Rattle.model.specs.Model.{Model, Consistent, Fitting}
use Rattle.model.specs.Learned.{learned_rules, model_of, learned, unbound_effect, conflicting}
use Rattle.model.specs.Check.{inconsistent, refuted, unfit, checked}
use Rattle.model.specs.Alike.{SameOfAction, SameMembers, SameFailed}
use Rattle.quantify.proofs.Quantify.{any_alike, below_same}
use Rattle.model.proofs.OneAction.{rules_equal, same_of_members, rules_same, conflicting_same}

module _ (D : Domain) (ts ts' : List Transition) (same : SameMembers ts ts') where
  shown : (a : ℕ) → SameOfAction D a ts ts'
  shown a = same_of_members D a ts ts' (λ t e. same t)

  -- Lists with the same members have the same consistent models,
  pub consistent_alike : (M : Model) → Consistent D ts M ↔ Consistent D ts' M
  consistent_alike M =
      (λ c. record { valid = c.valid; fits = λ t m. c.fits t ((same t).1 m) }, λ c. record { valid = c.valid; fits = λ t m. c.fits t ((same t).0 m) })

  -- teach the same rules, so the same model,
  pub rules_alike : learned_rules D ts ≡ learned_rules D ts'
  rules_alike = rules_equal _ _ (λ a n. rules_same D a ts ts' (shown a) n)

  pub learned_alike : learned D ts ≡ learned D ts'
  unfolding learned
  learned_alike = ap model_of rules_alike

  -- meet row 12 for the same actions,
  pub conflicting_alike : (a : ℕ) → conflicting D ts a ≡ conflicting D ts' a
  conflicting_alike a = conflicting_same D a ts ts' (shown a)

  -- meet row 11 together,
  pub unbound_alike : any (unbound_effect D) ts ≡ any (unbound_effect D) ts'
  unbound_alike = any_alike (unbound_effect D) ts ts' same

  pub inconsistent_alike : inconsistent D ts ≡ inconsistent D ts'
  unfolding inconsistent
  inconsistent_alike = rw (unbound_alike, below_same D.actions (λ a. conflicting D ts (suc a)) (λ a. conflicting D ts' (suc a)) (λ a. conflicting_alike (suc a)))

  module _ (us us' : List Failed) (same' : SameFailed us us') where
    -- have the same models that fit, the steps that did not go being the same too,
    pub fitting_alike : (M : Model) → Fitting D ts us M ↔ Fitting D ts' us' M
    fitting_alike M = (
      λ h. record { consistent = (consistent_alike M).0 h.consistent; bars = λ u m. h.bars u ((same' u).1 m) },
      λ h. record { consistent = (consistent_alike M).1 h.consistent; bars = λ u m. h.bars u ((same' u).0 m) },
    )

    -- meet row 28 together,
    pub refuted_alike : any (refuted D (learned D ts)) us ≡ any (refuted D (learned D ts')) us'
    refuted_alike = rw learned_alike (any_alike (refuted D (learned D ts')) us us' same')

    pub unfit_alike : unfit D ts us ≡ unfit D ts' us'
    unfolding unfit
    unfit_alike = rw (inconsistent_alike, refuted_alike)

    -- and check every plan alike.
    pub checked_alike : checked D ts us ≡ checked D ts' us'
    unfolding checked
    checked_alike = rw (unfit_alike, learned_alike)
