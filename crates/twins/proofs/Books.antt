-- Two books with the same transitions, in planning's terms: one domain, and trimmed to atoms the same transitions and steps that did not go in whatever
-- sequence and, of any order, the same plan. So the same rules are learned, rows 11 and 28 are met by both or by neither and row 12 by the same moves,
-- and plans come to the same.
use Prim.Native.Nat.{ℕ}
use mathlib.Core.Path.{◌≡◌, refl, sym, ap, ap₂, ◌∙◌, subst}
use mathlib.Core.Bool.{Bool, true, false, cond}
use mathlib.Core.List.{List, [], ◌∷◌, map}
use Rattle.terms.specs.declared.Step.{Step}
use Rattle.terms.specs.Schema.{Schema}
use Rattle.terms.specs.Steps.{is_atom, ground}
use Rattle.terms.specs.Agree.{SameSchema}
use Rattle.terms.proofs.Agree.{ground_same}
use Rattle.format.specs.Form.{Form}
use Rattle.format.specs.Decode.{RecordedStep, placed_at}
use Rattle.format.specs.Order.{plan}
use Rattle.quantify.specs.Quantify.{any}
use Rattle.model.specs.Domain.{Domain, State, GroundAction}
use Rattle.model.specs.Model.{Model, Fitting, run}
use Rattle.model.specs.Learned.{learned_rules, model_of, learned, unbound_effect, conflicting}
use Rattle.model.specs.Check.{refuted}
use Rattle.model.specs.Alike.{SameMembers, SameFailed}
use Rattle.model.proofs.Order.{fitting_alike, rules_alike, conflicting_alike, unbound_alike}
use Rattle.jobs.specs.Planning.{domain, ground_action, transition, failed, went_steps, failed_steps, schema_of, steps_of_book, transitions_of, failed_of, plan_of}
use Rattle.jobs.specs.Learn.{rules_from, learned_from}
use Rattle.jobs.specs.Judge.{FitsBook}
use Rattle.demand.proofs.Agree.{domain_same}
use Rattle.wellformed.proofs.Headers.{right_schema}
use Rattle.quantify.proofs.Quantify.{any_alike}
use Rattle.twins.specs.Twins.{SameTransitions}
use Rattle.twins.proofs.Trimmed.{trimmed, trimmed_transition, trimmed_failed, OfAtoms, learned_of_atoms, rules_trimmed, conflicting_trimmed, any_unbound_trimmed, any_refuted_trimmed, run_trimmed, fitting_trimmed}
use Rattle.twins.proofs.Told.{went_same, failed_same, told_same}

-- ---- schemas that say the same

module _ (S T : Schema) (same : SameSchema S T) where
  ground_picked : (st : Step) (n : ℕ) (b : Bool) → is_atom S st.action.0 n ≡ b → cond b (ground S st.binding n) 0 ≡ cond b (ground T st.binding n) 0
  ground_picked st n true e = ground_same S T same st.binding st.action.0 n e
  ground_picked st n false e = refl

  -- a step is grounded the same at its atoms
  action_same : (st : Step) → trimmed (domain S) (ground_action S st) ≡ trimmed (domain S) (ground_action T st)
  unfolding trimmed domain ground_action
  action_same st = λ i. record { action = st.action.0; ground = λ n. ground_picked st n (is_atom S st.action.0 n) refl i }

  transition_same : (f : RecordedStep) → trimmed_transition (domain S) (transition S f) ≡ trimmed_transition (domain S) (transition T f)
  unfolding trimmed_transition transition
  transition_same f =
      ap (λ (x : GroundAction). record { step = x; pre = (transition S f).pre; post = (transition S f).post }) (action_same f.step)

  failure_same : (f : RecordedStep) → trimmed_failed (domain S) (failed S f) ≡ trimmed_failed (domain S) (failed T f)
  unfolding trimmed_failed failed
  failure_same f = ap (λ (x : GroundAction). record { step = x; state = (failed S f).state }) (action_same f.step)

  -- so an order's plan is, step by step,
  pub plan_same : (o : List ℕ) → map (trimmed (domain S)) (plan_of S o) ≡ map (trimmed (domain S)) (plan_of T o)
  unfolding plan_of
  plan_same o = steps (plan o)
    where
      steps : (xs : List Step) → map (trimmed (domain S)) (map (ground_action S) xs) ≡ map (trimmed (domain S)) (map (ground_action T) xs)
      steps [] = refl
      steps (x ∷ xs) = ap₂ (λ (y : GroundAction) (ys : List GroundAction). y ∷ ys) (action_same x) (steps xs)

-- ---- books with the same transitions

module _ (f g : Form) (s t : List ℕ) (n : ℕ) (same : SameTransitions f g s t n) where
  -- they have one domain
  pub domains : domain (schema_of s) ≡ domain (schema_of t)
  domains = domain_same (schema_of s) (schema_of t) same.comparable.schema (right_schema f s n same.comparable.good) (right_schema g t n same.comparable.good')

  -- and trimmed the same transitions, and the same steps that did not go
  members_same : SameMembers (map (trimmed_transition (domain (schema_of s))) (transitions_of f s)) (map (trimmed_transition (domain (schema_of s))) (transitions_of g t))
  unfolding transitions_of transition placed_at
  members_same =
      told_same (trimmed_transition (domain (schema_of s))) (transition (schema_of s)) (transition (schema_of t)) (λ x. refl) (λ x. refl)
      (transition_same (schema_of s) (schema_of t) same.comparable.schema) (went_steps (steps_of_book f s)) (went_steps (steps_of_book g t))
      (went_same (steps_of_book f s) (steps_of_book g t) same.steps)

  failures_same : SameFailed (map (trimmed_failed (domain (schema_of s))) (failed_of f s)) (map (trimmed_failed (domain (schema_of s))) (failed_of g t))
  unfolding failed_of failed placed_at
  failures_same =
      told_same (trimmed_failed (domain (schema_of s))) (failed (schema_of s)) (failed (schema_of t)) (λ x. refl) (λ x. refl)
      (failure_same (schema_of s) (schema_of t) same.comparable.schema) (failed_steps (steps_of_book f s)) (failed_steps (steps_of_book g t))
      (failed_same (steps_of_book f s) (steps_of_book g t) same.steps)

  -- The same rules are learned,
  pub rules_same : rules_from f s ≡ rules_from g t
  unfolding rules_from
  rules_same =
      let D : Domain = domain (schema_of s) in
      rules_trimmed D (transitions_of f s) ∙ rules_alike D _ _ members_same ∙ sym (rules_trimmed D (transitions_of g t))
      ∙ ap (λ (E : Domain). learned_rules E (transitions_of g t)) domains

  -- so the same model,
  pub learned_same : learned_from f s ≡ learned_from g t
  unfolding learned_from rules_from learned
  learned_same = ap model_of rules_same

  pub own : OfAtoms (domain (schema_of s)) (learned_from f s)
  unfolding learned_from
  own = learned_of_atoms (domain (schema_of s)) (transitions_of f s)

  -- the same moves have a conflict,
  pub conflicts_same : conflicting (domain (schema_of s)) (transitions_of f s) ≡ conflicting (domain (schema_of t)) (transitions_of g t)
  conflicts_same =
      let D : Domain = domain (schema_of s) in
      let alike : conflicting D (map (trimmed_transition D) (transitions_of f s)) ≡ conflicting D (map (trimmed_transition D) (transitions_of g t)) =
      λ i a. conflicting_alike D _ _ members_same a i in
      conflicting_trimmed D (transitions_of f s) ∙ alike ∙ sym (conflicting_trimmed D (transitions_of g t))
      ∙ ap (λ (E : Domain). conflicting E (transitions_of g t)) domains

  -- row 11 is met by both, or by neither,
  pub unbound_same : any (unbound_effect (domain (schema_of s))) (transitions_of f s) ≡ any (unbound_effect (domain (schema_of t))) (transitions_of g t)
  unbound_same =
      let D : Domain = domain (schema_of s) in
      sym (any_unbound_trimmed D (transitions_of f s)) ∙ unbound_alike D _ _ members_same ∙ any_unbound_trimmed D (transitions_of g t)
      ∙ ap (λ (E : Domain). any (unbound_effect E) (transitions_of g t)) domains

  -- and so is row 28,
  pub refuted_same : any (refuted (domain (schema_of s)) (learned_from f s)) (failed_of f s) ≡ any (refuted (domain (schema_of t)) (learned_from g t)) (failed_of g t)
  refuted_same =
      let D : Domain = domain (schema_of s) in
      let M : Model = learned_from f s in
      sym (any_refuted_trimmed D M own (failed_of f s)) ∙ any_alike (refuted D M) _ _ failures_same ∙ any_refuted_trimmed D M own (failed_of g t)
      ∙ ap₂ (λ (E : Domain) (N : Model). any (refuted E N) (failed_of g t)) domains learned_same

  -- the same models fit,
  pub fit_over : (M : Model) → FitsBook f s M → FitsBook g t M
  fit_over M h =
      let D : Domain = domain (schema_of s) in
      let cut = (fitting_alike D _ _ members_same _ _ failures_same M).0 ((fitting_trimmed D (transitions_of f s) (failed_of f s) M).0 h) in
      subst (λ (E : Domain). Fitting E (transitions_of g t) (failed_of g t) M) domains ((fitting_trimmed D (transitions_of g t) (failed_of g t) M).1 cut)

  -- and under a model of atoms an order's plan comes to the same.
  pub runs_same : (M : Model) → OfAtoms (domain (schema_of s)) M → (o : List ℕ) (st : State) (k : ℕ)
      → run (domain (schema_of s)) M (plan_of (schema_of s) o) st k ≡ run (domain (schema_of t)) M (plan_of (schema_of t) o) st k
  runs_same M own o st k =
      let D : Domain = domain (schema_of s) in
      sym (run_trimmed D M own (plan_of (schema_of s) o) st k)
      ∙ ap (λ (plan : List GroundAction). run D M plan st k) (plan_same (schema_of s) (schema_of t) same.comparable.schema o)
      ∙ run_trimmed D M own (plan_of (schema_of t) o) st k
      ∙ ap (λ (E : Domain). run E M (plan_of (schema_of t) o) st k) domains
