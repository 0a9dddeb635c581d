-- Row 28 of a step that did not go, by the sets that are observed and the state before it, is that of the learned model.
use Prim.Native.Nat.{ℕ, ◌*◌, ◌≤◌}
use native.Mathlib.Omega.{arith}
use mathlib.Core.Path.{◌≡◌, refl, ap, ◌∙◌}
use mathlib.Core.Logic.{◌⊎◌, inl, inr}
use mathlib.Core.Bool.{Bool, true, false, ◌&&◌, ◌||◌, not}
use mathlib.Core.List.{List, ◌∷◌, ◌++◌}
use Rattle.answer.specs.Answer.{Good, Refused, ◌>>=◌, first_refused}
use borrow.Author.Tests.{not-true}
use Rattle.truth.specs.Bools.{clash, decide, and_out}
use Rattle.mask.specs.Sets.{mask_of, intersection, difference}
use Rattle.mask.proofs.Laws.{test_intersection, length_intersection, bytes_intersection, test_union_below, length_union, bytes_union, test_difference, bytes_difference}
use Rattle.mask.proofs.Whole.{length_mask_of, bytes_mask_of, test_mask_of, is_mask_of}
use Rattle.terms.specs.Schema.{Schema}
use Rattle.terms.specs.Steps.{is_atom, ground}
use Rattle.terms.proofs.Atoms.{atom_below}
use Rattle.format.specs.Decode.{RecordedStep}
use Rattle.quantify.specs.Quantify.{any, Mem}
use Rattle.quantify.proofs.Quantify.{below_cong, below_wide}
use Rattle.factsets.specs.Holding.{holding}
use Rattle.model.specs.Domain.{Transition}
use Rattle.model.specs.Model.{inapplicable}
use Rattle.model.specs.Learned.{before, learned_rules, by_value, model_of, learned}
use Rattle.model.specs.Check.{refuted}
use Rattle.jobs.specs.Planning.{domain, ground_action, failed, failed_steps}
use Rattle.jobs.specs.Learn.{refuted_steps}
use Rattle.jobs.proofs.FirstRefused.{first_refused_here, first_refused_later, first_refused_append, first_refused_same}
use Rattle.jobs.proofs.Parted.{failed_out, failed_take, failed_skip, failed_append, failed_none}
use Rattle.atoms.specs.Atoms.{atom_set}
use Rattle.observed.specs.Inverse.{atoms_in}
use Rattle.observed.specs.Observed.{always_before, ever_before}
use Rattle.observed.specs.Rules.{rule_set, in_use, unmet_set, met_before, refuted_observed}
use Rattle.observed.specs.Faithful.{Faithful}
use Rattle.observed.specs.Seen.{in_set, Seen}
use Rattle.observed.proofs.Sheet.{seen_in, seen_out}
use Rattle.observed.proofs.Conflicts.{used, any_mask_of}

-- a bound fact is unmet: needed not to hold and held, or needed to hold and not held
gather : (i x y v : Bool) → (i && x && (i && v) || i && y && not (i && v)) ≡ (i && (x && v || y && not v))
gather true x y v = refl
gather false x y v = refl

module _ (sch : Schema) (few : sch.relations ≤ 16) (moves : sch.moves ≤ 32) (ts : List Transition) (l : List ℕ) (seen : Seen sch ts l) where
  module _ (x : RecordedStep) (faithful : Faithful sch x) where
    abbrev a : ℕ
    a = x.step.action.0

    high : a ≤ 32
    high = omega (arith, faithful.known)

    -- the fact that bound fact n is holds before the step
    abbrev holds : ℕ → Bool
    holds n = holding x.pre (ground sch x.step.binding n)

    abbrev held : List ℕ
    held = atoms_in (atom_set sch a) x.step.binding x.pre

    abbrev unmet : ℕ → Bool
    unmet n = is_atom sch a n && (not (before ts true a n) && holds n || not (before ts false a n) && not (holds n))

    abbrev needed_not_lem : ℕ → Bool
    needed_not_lem n = is_atom sch a n && not (before ts true a n)

    abbrev needed : ℕ → Bool
    needed n = is_atom sch a n && not (before ts false a n)

    unmet_set_lem : unmet_set l a held ≡ mask_of 32 unmet
    unfolding unmet_set rule_set in_set
    unmet_set_lem =
        rw (seen_in sch ts l seen a faithful.counted high always_before (omega arith), seen_out sch ts l seen a faithful.counted high ever_before (omega arith))
        (is_mask_of _ 32 unmet
        (length_union (intersection (mask_of 32 needed_not_lem) held) (difference (mask_of 32 needed) held) ∙ length_intersection (mask_of 32 needed_not_lem) held ∙ length_mask_of 32 needed_not_lem)
        (bytes_union (intersection (mask_of 32 needed_not_lem) held) (difference (mask_of 32 needed) held)
        (bytes_intersection (mask_of 32 needed_not_lem) held (bytes_mask_of 32 needed_not_lem)) (bytes_difference (mask_of 32 needed) held (bytes_mask_of 32 needed)))
        (λ n hn.
        test_union_below (intersection (mask_of 32 needed_not_lem) held) (difference (mask_of 32 needed) held) n (omega (arith, length_intersection (mask_of 32 needed_not_lem) held, length_mask_of 32 needed_not_lem))
        ∙ rw (test_intersection, test_difference, test_mask_of 32 needed_not_lem n hn, test_mask_of 32 needed n hn, faithful.was n hn)
        (gather (is_atom sch a n) (not (before ts true a n)) (not (before ts false a n)) (holds n))))

    -- the learned model needs the value that the fact does not have
    by_value_lem : (n : ℕ) → unmet n ≡ (learned (domain sch) ts).precondition (not (holds n)) a n
    unfolding learned model_of learned_rules domain
    by_value_lem n = go (holds n)
      where
        go : (v : Bool) → (is_atom sch a n && (not (before ts true a n) && v || not (before ts false a n) && not v)) ≡ by_value (λ b k. is_atom sch b k && not (before ts false b k)) (λ b k. is_atom sch b k && not (before ts true b k)) (not v) a n
        go true = pick (is_atom sch a n) (not (before ts true a n)) (not (before ts false a n))
          where
            pick : (i p q : Bool) → (i && (p && true || q && false)) ≡ (i && p)
            pick true true q = refl
            pick true false true = refl
            pick true false false = refl
            pick false p q = refl
        go false = pick (is_atom sch a n) (not (before ts true a n)) (not (before ts false a n))
          where
            pick : (i p q : Bool) → (i && (p && false || q && true)) ≡ (i && q)
            pick true true true = refl
            pick true true false = refl
            pick true false true = refl
            pick true false false = refl
            pick false p q = refl

    -- All preconditions that are observed are met before the step exactly if all that are learned are.
    pub met_before_lem : met_before l x ≡ refuted (domain sch) (learned (domain sch) ts) (failed sch x)
    unfolding met_before in_use refuted inapplicable failed ground_action domain
    met_before_lem =
        rw (seen.atoms a faithful.counted high)
        (ap not (ap (any used) unmet_set_lem ∙ any_mask_of unmet ∙ below_wide 256 (16 * sch.relations) unmet (omega arith) (λ n e. atom_below sch a n (and_out _ _ e).0)
        ∙ below_cong (16 * sch.relations) _ _ (λ n h. by_value_lem n)))

  -- And so the first step that did not go though they are met is the same.
  pub refuted_same : (xs : List RecordedStep) → ((x : RecordedStep) → Mem x xs → Faithful sch x)
      → refuted_observed l xs ≡ refuted_steps sch (learned (domain sch) ts) xs
  unfolding refuted_observed refuted_steps
  refuted_same xs all = first_refused_same _ 28 _ _ (failed_steps xs) (λ x m. met_before_lem x (all x (failed_out xs m).0))

-- lists in a row: the second is asked where the first is not refused
pub refuted_append : (l : List ℕ) (xs ys : List RecordedStep) → refuted_observed l (xs ++ ys) ≡ (refuted_observed l xs >>= λ _. refuted_observed l ys)
unfolding refuted_observed
refuted_append l xs ys = rw (failed_append xs ys) (first_refused_append _ 28 _ (failed_steps xs) (failed_steps ys))

-- where all steps went, none is
pub refuted_none : (l : List ℕ) (xs : List RecordedStep) → any (λ x. not x.went) xs ≡ false → refuted_observed l xs ≡ Good 0
unfolding refuted_observed first_refused
refuted_none l xs e = rw (failed_none xs e)

-- the first of some steps: it did not go though its preconditions are met, or the others are asked
module _ (l : List ℕ) (x : RecordedStep) (xs : List RecordedStep) where
  pub refuted_here : (not x.went && met_before l x) ≡ true → refuted_observed l (x ∷ xs) ≡ Refused 28 x.place
  unfolding refuted_observed
  refuted_here e =
      let (marked, met) = and_out (not x.went) (met_before l x) e in
      rw (failed_take x xs (not-true _ marked)) (first_refused_here (met_before l) 28 (λ y. y.place) x (failed_steps xs) met)

  pub refuted_later : (not x.went && met_before l x) ≡ false → refuted_observed l (x ∷ xs) ≡ refuted_observed l xs
  unfolding refuted_observed
  refuted_later e = go (decide x.went)
    where
      unmet : (a b : Bool) → a ≡ false → (not a && b) ≡ false → b ≡ false
      unmet true b w d = clash true refl w
      unmet false b w d = d

      go : (x.went ≡ true) ⊎ (x.went ≡ false) → first_refused (met_before l) 28 (λ y. y.place) (failed_steps (x ∷ xs)) ≡ first_refused (met_before l) 28 (λ y. y.place) (failed_steps xs)
      go (inl w) = rw (failed_skip x xs w)
      go (inr w) = rw (failed_take x xs w) (first_refused_later (met_before l) 28 (λ y. y.place) x (failed_steps xs) (unmet x.went (met_before l x) w e))
