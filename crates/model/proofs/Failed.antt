-- Steps that did not go: they rule models out and teach nothing. The check is exact of the judge over the models that fit both lists, and wherever
-- one fits, it is the check without these steps. Of a step that did not go nothing is asked, not even that its binding is injective, since a model
-- that is stricter than another bars every step that the other bars.
use mathlib.Core.Path.{◌≡◌, sym, ◌∙◌}
use mathlib.Core.Logic.{◌⊎◌, inl, inr, ◌↔◌}
use mathlib.Core.Bool.{true, false}
use mathlib.Core.List.{List, []}
use Rattle.truth.specs.Bools.{clash, is_false}
use Rattle.quantify.specs.Quantify.{Mem}
use Rattle.model.specs.Domain.{Domain, State, GroundAction, Transition, Failed, GoalLiteral}
use Rattle.model.specs.Model.{Model, Consistent, Fitting}
use Rattle.model.specs.Judge.{Verdict, Judged}
use Rattle.model.specs.Learned.{learned}
use Rattle.model.specs.Check.{inconsistent, refuted, unfit, checked}
use Rattle.model.specs.Formed.{Formed, Grounded}
use Rattle.model.specs.Exact.{Exact}
use Rattle.model.specs.Demand.{Demand}
use Rattle.model.specs.Stricter.{Stricter}
use Rattle.model.proofs.Stricter.{explains, stricter}
use Rattle.model.proofs.Lockstep.{goes_too}
use Rattle.model.proofs.Rows.{refuted_out, unrefuted, unfit_out, fit_out, fit_rows, unfit_none}
use Rattle.model.proofs.Impossible.{possible, learned_consistent}
use Rattle.model.proofs.Exact.{checked_run, exact_by}

-- where every step went, to fit is to be consistent
pub fitting_none : (D : Domain) (ts : List Transition) (M : Model) → Fitting D ts [] M ↔ Consistent D ts M
fitting_none D ts M = (λ h. h.consistent, λ c. record { consistent = c; bars = λ u m. elim m [ ] })

module _ (D : Domain) (ts : List Transition) (us : List Failed) where
  -- Where no row is met, the check is the check without the steps that did not go.
  pub absent_clean : unfit D ts us ≡ false → (plan : List GroundAction) (st : State) (goal : List GoalLiteral) → checked D ts us plan st goal ≡ checked D ts [] plan st goal
  unfolding checked
  absent_clean fit plan st goal =
      checked_run (unfit D ts us) D (learned D ts) plan st goal fit
      ∙ sym (checked_run (unfit D ts []) D (learned D ts) plan st goal (unfit_none D ts ∙ (fit_out D ts us fit).0))

  module _ (formed : Formed D ts) where
    -- The learned model is stricter than each that fits,
    pub strict : (M : Model) → Fitting D ts us M → Stricter D (learned D ts) M
    strict M h = stricter D ts M (explains D ts formed M h.consistent) h.consistent.valid

    -- so where a row is met none fits: a step that is applicable under the learned model is so under each of them;
    pub barred : unfit D ts us ≡ true → (M : Model) → Fitting D ts us M → ⊥
    barred e M h = go (unfit_out D ts us e)
      where
        go : (inconsistent D ts ≡ true) ⊎ ((u : Failed) × Mem u us × (refuted D (learned D ts) u ≡ true)) → ⊥
        go (inl p) = clash _ p (possible D ts formed M h.consistent)
        go (inr (u, m, p)) =
            clash _ (h.bars u m) (goes_too D (learned D ts) M (strict M h) u.step u.state (refuted_out D (learned D ts) u p))

    -- and elsewhere the learned model fits itself.
    pub own : unfit D ts us ≡ false → Fitting D ts us (learned D ts)
    own e =
        let (clean, none) = fit_out D ts us e in
        record { consistent = learned_consistent D ts formed clean; bars = λ u m. unrefuted D (learned D ts) u (none u m) }

    -- a model that fits shows that no row is met
    pub fit : (M : Model) → Fitting D ts us M → unfit D ts us ≡ false
    fit M h = is_false _ (λ e. barred e M h)

    -- Demand 3 over transitions: the check by the learned model is exact of the judge over all models that fit.
    pub exact : Exact D (Fitting D ts us) (unfit D ts us) (checked D ts us)
    unfolding checked
    exact = exact_by D (Fitting D ts us) (λ M h. h.consistent.valid) (learned D ts) (unfit D ts us) barred own strict

    pub absent_check : (M : Model) → Fitting D ts us M → (plan : List GroundAction) (st : State) (goal : List GoalLiteral)
        → checked D ts us plan st goal ≡ checked D ts [] plan st goal
    absent_check M h = absent_clean (fit M h)

-- As if absent: wherever some model fits, the judge says what he says when the steps that did not go are left out.
pub absent : (D : Domain) (ts : List Transition) (us : List Failed) → Formed D ts → (M : Model) → Fitting D ts us M
    → (plan : List GroundAction) → Grounded D plan → (st : State) (goal : List GoalLiteral) (v : Verdict)
    → Judged D (Fitting D ts us) plan st goal v ↔ Judged D (Fitting D ts []) plan st goal v
absent D ts us formed M h plan grounded st goal v =
    let same = absent_check D ts us formed M h plan st goal in
    let here = (exact D ts us formed).verdict plan grounded st goal v in
    let left = (exact D ts [] formed).verdict plan grounded st goal v in
    (λ j. left.1 (sym same ∙ here.0 j), λ j. here.1 (same ∙ left.0 j))

pub demand : (D : Domain) (ts : List Transition) (us : List Failed) → Formed D ts → Demand D ts us
demand D ts us formed =
    record { exact = exact D ts us formed; rows = fit_rows D ts us; absent = absent D ts us formed; absent_check = absent_check D ts us formed }
