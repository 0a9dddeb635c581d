-- Row 11 from what is observed is row 11 of the steps: the first one named stays named.
use Prim.Native.Nat.{ℕ, zero, suc, ◌≤◌}
use native.Mathlib.Omega.{arith}
use mathlib.Core.Path.{◌≡◌, refl, sym, ap, ◌∙◌, subst}
use mathlib.Core.Logic.{◌⊎◌, inl, inr}
use mathlib.Core.Bool.{Bool, true, false, cond}
use mathlib.Core.List.{List, [], ◌∷◌, ◌++◌}
use borrow.Author.Tests.{ne_eqb}
use Rattle.answer.specs.Answer.{Refused, first_refused}
use Rattle.truth.specs.Bools.{decide}
use Rattle.limits.specs.Limits.{max_moves}
use Rattle.terms.specs.Schema.{Schema}
use Rattle.format.specs.Decode.{RecordedStep}
use Rattle.quantify.specs.Quantify.{any, Mem, here, there, chosen}
use Rattle.model.specs.Domain.{Transition}
use Rattle.model.specs.Learned.{unbound_effect}
use Rattle.jobs.specs.Planning.{domain, transition, went_steps}
use Rattle.jobs.specs.Learn.{unbound_effects}
use Rattle.jobs.proofs.Parted.{went_take, went_skip}
use Rattle.jobs.proofs.FirstRefused.{first_refused_none, first_refused_here, first_refused_later}
use Rattle.observed.specs.Inverse.{unbound_changed}
use Rattle.observed.specs.Observed.{Observed, observe_by, failure_seen, observe, observe_all, first_named}
use Rattle.observed.specs.Rules.{unbound_answer}
use Rattle.observed.specs.Faithful.{Faithful}
use Rattle.observed.specs.Seen.{Seen}
use Rattle.observed.proofs.Observe.{observe_went, observe_failed, passed_masks, by_atoms, seen_observe}

named : (p : ℕ) → 1 ≤ p → unbound_answer p ≡ Refused 11 p
unfolding unbound_answer
named zero h = absurd (omega arith)
named (suc p) h = refl

-- a step named already
observe_named : (f : RecordedStep) (h : Observed) → 1 ≤ h.named → (observe f h).named ≡ h.named
unfolding observe_by failure_seen first_named
observe_named f h n = go (decide f.went)
  where
    go : (f.went ≡ true) ⊎ (f.went ≡ false) → (observe f h).named ≡ h.named
    go (inl e) = ap (λ (x : Observed). x.named) (observe_went f h e) ∙ rw (ne_eqb h.named 0 (λ z. omega arith))
    go (inr e) = ap (λ (x : Observed). x.named) (observe_failed f h e)

all_named : (fs : List RecordedStep) (h : Observed) → 1 ≤ h.named → (observe_all fs h).named ≡ h.named
unfolding observe_all
all_named [] h n = refl
all_named (f ∷ fs) h n =
    let e = observe_named f h n in
    all_named fs (observe f h) (omega arith) ∙ e

passed_named : (f : RecordedStep) (h : Observed) → f.went ≡ false → (observe f h).named ≡ h.named
unfolding failure_seen
passed_named f h e = ap (λ (x : Observed). x.named) (observe_failed f h e)

-- none named yet
observe_none : (atoms : List ℕ) (f : RecordedStep) (h : Observed) → h.named ≡ 0
    → (observe_by atoms f h).named ≡ cond (unbound_changed atoms f.step.binding f.pre f.post) f.place 0
unfolding observe_by first_named
observe_none atoms f h n = rw n

module _ (sch : Schema) (few : sch.moves ≤ max_moves) where
  pub unbound_observed : (fs : List RecordedStep) → ((f : RecordedStep) → Mem f fs → Faithful sch f)
      → (ts : List Transition) (h : Observed) → Seen sch ts h.masks → h.named ≡ 0
      → unbound_answer (observe_all fs h).named ≡ unbound_effects sch fs
  unfolding observe_all unbound_effects unbound_answer any went_steps chosen
  unbound_observed [] all ts h seen n = ap unbound_answer n ∙ sym (first_refused_none _ 11 _ [] refl)
  unbound_observed (f ∷ fs) all ts h seen n = by_went (decide f.went) (λ us seen'. unbound_observed fs (λ g m. all g (there m)) us (observe f h) seen')
    where
      faithful : Faithful sch f
      faithful = all f here

      -- the other steps, whatever transitions came before them
      Rest : Type 0
      Rest = (us : List Transition) → Seen sch us (observe f h).masks → (observe f h).named ≡ 0 → unbound_answer (observe_all fs (observe f h)).named ≡ unbound_effects sch fs

      one : f.went ≡ true → (observe f h).named ≡ cond (unbound_effect (domain sch) (transition sch f)) f.place 0
      one w = ap (λ (x : Observed). x.named) (by_atoms sch few ts h f w faithful seen) ∙ observe_none _ f h n ∙ ap (λ (b : Bool). cond b f.place 0) faithful.unbound_effects

      took : f.went ≡ true → (unbound_effect (domain sch) (transition sch f) ≡ true) ⊎ (unbound_effect (domain sch) (transition sch f) ≡ false) → Rest
          → unbound_answer (observe_all fs (observe f h)).named ≡ first_refused (λ x. unbound_effect (domain sch) (transition sch x)) 11 (λ x. x.place) (f ∷ went_steps fs)
      took w (inl e) rest =
          let q : (observe f h).named ≡ f.place = one w ∙ rw e in
          ap unbound_answer (all_named fs (observe f h) (omega (arith, faithful.placed)) ∙ q) ∙ named f.place faithful.placed
          ∙ sym (first_refused_here _ 11 _ f (went_steps fs) e)
      took w (inr e) rest =
          rest (ts ++ transition sch f ∷ []) (seen_observe sch few ts h f w faithful seen) (one w ∙ rw e) ∙ sym (first_refused_later _ 11 _ f (went_steps fs) e)

      by_went : (f.went ≡ true) ⊎ (f.went ≡ false) → Rest → unbound_answer (observe_all fs (observe f h)).named ≡ unbound_effects sch (f ∷ fs)
      by_went (inl w) rest = rw (went_take f fs w) (took w (decide (unbound_effect (domain sch) (transition sch f))) rest)
      by_went (inr w) rest =
          rw (went_skip f fs w)
          (rest ts (subst (λ (m : List ℕ). Seen sch ts m) (passed_masks f h w) seen) (passed_named f h w ∙ n))
