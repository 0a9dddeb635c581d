-- Rows 11, 12 and 28 over bytes: learning refuses a book of good form exactly where one of them is met by its steps.
use Prim.Native.Nat.{ℕ, zero, suc}
use mathlib.Core.Path.{◌≡◌, refl, sym, ◌∙◌}
use mathlib.Core.Logic.{◌⊎◌, inl, inr}
use mathlib.Core.Bool.{Bool, true, false}
use mathlib.Core.List.{List}
use Rattle.answer.specs.Answer.{Good, Refused}
use Rattle.truth.specs.Bools.{clash, decide, neither}
use Rattle.answer.proofs.Laws.{bind_good, bind_refused, good_refused}
use Rattle.answer.specs.Table.{among, impossible_rows, is_impossible}
use Rattle.terms.specs.Schema.{Schema}
use Rattle.format.specs.Form.{Form}
use Rattle.format.specs.Decode.{RecordedStep}
use Rattle.format.specs.LookOver.{look_over}
use Rattle.quantify.specs.Quantify.{any, below, least}
use Rattle.model.specs.Domain.{Domain, Transition}
use Rattle.model.specs.Learned.{unbound_effect, conflicting}
use Rattle.model.specs.Check.{inconsistent, refuted, unfit}
use Rattle.quantify.proofs.Quantify.{least_none}
use Rattle.jobs.specs.Planning.{domain, transition, failed, went_steps, failed_steps, schema_of, steps_of_book, transitions_of, failed_of}
use Rattle.jobs.specs.Learn.{unbound_effects, conflict_answer, conflicting_move, inconsistency, learned_from, refuted_steps, refutation, learnable}
use Rattle.jobs.proofs.FirstRefused.{first_refused_none, first_refused_some}
use Rattle.quantify.proofs.Mapped.{any_map}

-- row 12 is met exactly if some move has a conflict
pub conflicting_none : (sch : Schema) (ts : List Transition) → below sch.moves (λ a. conflicting (domain sch) ts (suc a)) ≡ false → conflicting_move sch ts ≡ Good 0
unfolding conflicting_move conflict_answer
conflicting_none sch ts e = rw ((least_none (conflicting (domain sch) ts) sch.moves).1 e)

pub conflicting_some : (sch : Schema) (ts : List Transition) → below sch.moves (λ a. conflicting (domain sch) ts (suc a)) ≡ true → (p : ℕ) × (conflicting_move sch ts ≡ Refused 12 p)
unfolding conflicting_move conflict_answer
conflicting_some sch ts e = go (least sch.moves (conflicting (domain sch) ts)) refl
  where
    go : (k : ℕ) → least sch.moves (conflicting (domain sch) ts) ≡ k → (p : ℕ) × (conflict_answer k ≡ Refused 12 p)
    go zero h = clash _ e ((least_none (conflicting (domain sch) ts) sch.moves).0 h)
    go (suc a) h = (suc a, refl)

-- rows 11 and 12 of the book's transitions, and with row 28 those of all its steps
abbrev pub inconsistent_in : Form → List ℕ → Bool
inconsistent_in form s = inconsistent (domain (schema_of s)) (transitions_of form s)

abbrev pub unfit_in : Form → List ℕ → Bool
unfit_in form s = unfit (domain (schema_of s)) (transitions_of form s) (failed_of form s)

-- rows 11 and 12 are not met where the transitions are consistent,
inconsistency_none : (form : Form) (s : List ℕ) → inconsistent_in form s ≡ false → inconsistency form s ≡ Good 0
unfolding inconsistency unbound_effects inconsistent transitions_of domain
inconsistency_none form s clean =
    let xs = went_steps (steps_of_book form s) in
    let (unbound-free, conflicting-free) = neither (any (unbound_effect (domain (schema_of s))) (transitions_of form s)) (below (schema_of s).moves (λ a. conflicting (domain (schema_of s)) (transitions_of form s) (suc a))) clean in
    bind_good _ _ 0 (first_refused_none _ 11 _ xs (sym (any_map (unbound_effect (domain (schema_of s))) (transition (schema_of s)) xs) ∙ unbound-free))
    ∙ conflicting_none (schema_of s) (transitions_of form s) conflicting-free

-- and else one of them is
inconsistency_some : (form : Form) (s : List ℕ) → inconsistent_in form s ≡ true → (num p : ℕ) × (inconsistency form s ≡ Refused num p) × (is_impossible num ≡ true)
unfolding inconsistency unbound_effects inconsistent transitions_of domain impossible_rows is_impossible among
inconsistency_some form s e = go (decide (any (unbound_effect D) ts))
  where
    D : Domain
    D = domain (schema_of s)

    ts : List Transition
    ts = transitions_of form s

    xs : List RecordedStep
    xs = went_steps (steps_of_book form s)

    each : any (unbound_effect D) ts ≡ any (λ f. unbound_effect D (transition (schema_of s) f)) xs
    each = any_map (unbound_effect D) (transition (schema_of s)) xs

    go : (any (unbound_effect D) ts ≡ true) ⊎ (any (unbound_effect D) ts ≡ false) → (num p : ℕ) × (inconsistency form s ≡ Refused num p) × (is_impossible num ≡ true)
    go (inl h) =
        let (f, m, t, q) = first_refused_some _ 11 _ xs (sym each ∙ h) in
        (11, f.place, bind_refused _ _ 11 f.place q, refl)
    go (inr h) =
        let (p, q) = conflicting_some (schema_of s) ts (rw h at e) in
        (12, p, bind_good _ _ 0 (first_refused_none _ 11 _ xs (sym each ∙ h)) ∙ q, refl)

-- row 28 is met exactly if some step that did not go refutes what is learned
module _ (form : Form) (s : List ℕ) where
  abbrev refutes : Bool
  refutes = any (refuted (domain (schema_of s)) (learned_from form s)) (failed_of form s)

  each_refuted : refutes ≡ any (λ x. refuted (domain (schema_of s)) (learned_from form s) (failed (schema_of s) x)) (failed_steps (steps_of_book form s))
  unfolding failed_of
  each_refuted = any_map (refuted (domain (schema_of s)) (learned_from form s)) (failed (schema_of s)) (failed_steps (steps_of_book form s))

  pub refutation_none : refutes ≡ false → refutation form s ≡ Good 0
  unfolding refutation refuted_steps
  refutation_none e = first_refused_none _ 28 _ (failed_steps (steps_of_book form s)) (sym each_refuted ∙ e)

  pub refutation_some : refutes ≡ true → (p : ℕ) × (refutation form s ≡ Refused 28 p)
  unfolding refutation refuted_steps
  refutation_some e =
      let (x, m, t, q) = first_refused_some _ 28 _ (failed_steps (steps_of_book form s)) (sym each_refuted ∙ e) in
      (x.place, q)

-- where no row is met, 11 and 12 are not
pub fit_clean : (form : Form) (s : List ℕ) → unfit_in form s ≡ false → inconsistent_in form s ≡ false
unfolding unfit
fit_clean form s fit = (neither (inconsistent_in form s) _ fit).0

module _ (form : Form) (s : List ℕ) (n : ℕ) (good : look_over form s ≡ Good n) where
  -- Where no row is met, a book of good form is learnable,
  pub learnable_fit : unfit_in form s ≡ false → learnable form s ≡ Good n
  unfolding learnable unfit learned_from
  learnable_fit fit =
      let (clean, free) = neither (inconsistent_in form s) (refutes form s) fit in
      bind_good (look_over form s) _ n good ∙ bind_good (inconsistency form s) _ 0 (inconsistency_none form s clean)
      ∙ bind_good (refutation form s) _ 0 (refutation_none form s free)

  -- and else it is refused as impossible, with 11, 12 or 28.
  pub learnable_unfit : unfit_in form s ≡ true → (num p : ℕ) × (learnable form s ≡ Refused num p) × (is_impossible num ≡ true)
  unfolding learnable unfit learned_from impossible_rows is_impossible among
  learnable_unfit e = go (decide (inconsistent_in form s))
    where
      go : (inconsistent_in form s ≡ true) ⊎ (inconsistent_in form s ≡ false) → (num p : ℕ) × (learnable form s ≡ Refused num p) × (is_impossible num ≡ true)
      go (inl h) =
          let (num, p, q, i) = inconsistency_some form s h in
          (num, p, bind_good (look_over form s) _ n good ∙ bind_refused (inconsistency form s) _ num p q, i)
      go (inr h) =
          let (p, q) = refutation_some form s (rw h at e) in
          (28, p, bind_good (look_over form s) _ n good ∙ bind_good (inconsistency form s) _ 0 (inconsistency_none form s h) ∙ bind_refused (refutation form s) _ 28 p q, refl)

  -- So one that is learned meets none of the rows.
  pub learned_fit : (m : ℕ) → learnable form s ≡ Good m → unfit_in form s ≡ false
  learned_fit m e = go (decide (unfit_in form s))
    where
      go : (unfit_in form s ≡ true) ⊎ (unfit_in form s ≡ false) → unfit_in form s ≡ false
      go (inl h) = let (num, p, q, r) = learnable_unfit h in good_refused m num p (sym e ∙ q)
      go (inr h) = h
