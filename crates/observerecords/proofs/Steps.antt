-- The steps of a record observed one by one, as records/proofs/Going has them looked over: what is observed with the steps still left is what is
-- observed after all.
use Prim.Native.Nat.{ℕ, zero, suc, ◌+◌, ◌-◌, ◌≤◌, ◌<◌}
use native.Mathlib.Omega.{arith}
use mathlib.Core.Path.{◌≡◌, refl, sym, ap, ◌∙◌, subst}
use mathlib.Core.Logic.{◌⊎◌, inl, inr}
use mathlib.Core.Bool.{Bool, true, false, ◌||◌, not}
use mathlib.Core.List.{List}
use lib.ListN.{length}
use Rattle.truth.specs.Bools.{decide}
use Rattle.answer.specs.Answer.{Good, is_refused}
use Rattle.mask.specs.Sets.{empty}
use Rattle.terms.specs.declared.Fact.{Fact}
use Rattle.limits.specs.Limits.{step_size, state_size, near_ceiling}
use Rattle.format.specs.Filed.{went_at, filed_fact}
use Rattle.format.specs.Lists.{list_at, list_end}
use Rattle.format.specs.Form.{most_listed, state_after}
use Rattle.format.specs.States.{state}
use Rattle.format.specs.Decode.{RecordedStep, recorded_step, recorded_steps_at}
use Rattle.format.proofs.States.{list_ends}
use Rattle.turning.specs.Turning.{Carried}
use Rattle.observed.specs.Observed.{bound, Observed, observed_set, failure_seen, observe, observe_by, observe_all}
use Rattle.observed.specs.Begun.{Begun}
use Rattle.observed.proofs.Observe.{observe_went, observe_failed, passed_masks}
use Rattle.observed.proofs.Noted.{length_noted, noted_bound}
use Rattle.records.specs.declared.Scope.{Scope}
use Rattle.records.specs.Readable.{schema_in, typed_in, Readable, step_listed}
use Rattle.records.specs.Rows.{changes_listed, step_after}
use Rattle.records.proofs.Parts.{listed_good}
use Rattle.records.proofs.Going.{Going, going_first, going_on_lem}
use Rattle.observestep.specs.declared.Noted.{Noted}
use Rattle.observestep.specs.Notes.{IsObserved}
use Rattle.observerecords.proofs.Ready.{listed_whole, step_move}
use Rattle.observerecords.specs.declared.noticed.Noticed.{Noticed}
use Rattle.observerecords.specs.Observing.{held_with, IsHeld, Observable, Ready, Done}

pub held_path : (h : Observed) (bytes : List ℕ) (noticed : Noticed) → IsHeld h bytes noticed → held_with bytes noticed ≡ h
unfolding held_with
held_path h bytes noticed e = λ i. record { masks = e.masks i; named = e.named i; failed = e.failed i }

pub path_held : (h : Observed) (bytes : List ℕ) (noticed : Noticed) → held_with bytes noticed ≡ h → IsHeld h bytes noticed
unfolding held_with
path_held h bytes noticed j = record { masks = ap (λ x. x.masks) j; named = ap (λ x. x.named) j; failed = ap (λ x. x.failed) j }

-- some step did not go, after one more that went, and after one that did not
still : (b went : Bool) → went ≡ true → (b || not went) ≡ b
still true went e = refl
still false went e = ap not e

from_now : (b went : Bool) → went ≡ false → (b || not went) ≡ true
from_now true went e = refl
from_now false went e = ap not e

-- What is held after a step is the masks and the step that row 11 names, whatever was noticed before, and that it was noticed whether the step went.
module _ (x : RecordedStep) (masks : List ℕ) (noticed : Noticed) (masks' : List ℕ) (named' : ℕ) where
  abbrev unnoticed : Observed
  unnoticed = record { masks = masks; named = noticed.named; failed = false }

  abbrev HeldAfter : Type 0
  HeldAfter = IsHeld (observe x (held_with masks noticed)) masks' (record { named = named'; failed = noticed.failed || not x.went })

  noticed_step : IsObserved (observe x unnoticed) masks' named' → HeldAfter
  unfolding held_with observe_by failure_seen
  noticed_step o = go (decide x.went)
    where
      -- observed from either, the step comes to the same masks and the same name; `b` is whether some step did not go then
      alike : (ms : List ℕ) (n : ℕ) (u b : Bool)
          → observe x unnoticed ≡ record { masks = ms; named = n; failed = u }
          → observe x (held_with masks noticed) ≡ record { masks = ms; named = n; failed = b }
          → (noticed.failed || not x.went) ≡ b
          → HeldAfter
      alike ms n u b was is e =
          record {
            masks = o.masks ∙ ap (λ h. h.masks) was ∙ sym (ap (λ h. h.masks) is);
            named = o.named ∙ ap (λ h. h.named) was ∙ sym (ap (λ h. h.named) is);
            failed = e ∙ sym (ap (λ h. h.failed) is);
          }

      go : (x.went ≡ true) ⊎ (x.went ≡ false) → HeldAfter
      go (inl e) = alike _ _ _ _ (observe_went x unnoticed e) (observe_went x (held_with masks noticed) e) (still noticed.failed x.went e)
      go (inr e) = alike _ _ _ _ (observe_failed x unnoticed e) (observe_failed x (held_with masks noticed) e) (from_now noticed.failed x.went e)

-- Where the loop stands: the steps left answer as all do (records/proofs/Going), the facts before them are stood for, and what is observed with them
-- after what was is the whole.
pub record Observing (s : List ℕ) (c : Scope) (first from : ℕ) (m : List ℕ) (held left pre at : ℕ) (masks : List ℕ) (noticed : Noticed) (whole : Observed) : Type 0 where
  pub before : List Fact
  pub going : Going s c first from before m held left pre at
  pub begun : Begun (schema_in s c) masks
  pub rest : observe_all (recorded_steps_at c.short s left before at) (held_with masks noticed) ≡ whole

module _ (s : List ℕ) (c : Scope) (ks table : List ℕ) (readable : Readable s c ks table) where
  -- ---- the first state
  pub observing_first : (first from : ℕ) → first ≤ near_ceiling → state (filed_fact c.short) 8 (schema_in s c) (typed_in s c) s c.end first ≡ Good from
      → (m m' : List ℕ) (held : ℕ)
      → m ≡ empty state_size
      → length m' ≡ state_size
      → Carried c.short s first m m' held
      → (masks : List ℕ) (noticed : Noticed)
      → Begun (schema_in s c) masks
      → (left : ℕ)
      → left ≡ c.steps
      → Observing s c first from m' held left first from masks noticed (observe_all (recorded_steps_at c.short s c.steps (list_at s first) from) (held_with masks noticed))
  observing_first first from near good m m' held e long carried masks noticed begun left all =
      rw all
      (record {
        before = list_at s first;
        going = going_first s c ks table readable first from near good m m' held e long carried;
        begun = begun;
        rest = refl;
      })

  -- ---- one step on
  module _ (first from : ℕ) (m : List ℕ) (held left pre at : ℕ) (masks : List ℕ) (noticed : Noticed) (whole : Observed) (obs : Observing s c first from m held left pre at masks noticed whole) where
    abbrev pub observing_ready : Ready s c pre m held masks
    observing_ready =
        record { before = obs.before; right = obs.going.right; listed = obs.going.listed; carries = obs.going.carries; long = obs.going.long; begun = obs.begun }

    abbrev own_step : RecordedStep
    own_step = recorded_step c.short s obs.before at

    abbrev Stepped : List ℕ → ℕ → Type 0
    Stepped masks' named' = IsObserved (observe own_step (record { masks = masks; named = noticed.named; failed = false })) masks' named'

    module _ (observable : Observable s c ks table) (some : 0 < left) (next : ℕ) (told : Good next ≡ step_listed c.short (schema_in s c) (typed_in s c) s c.end at) where
      -- what is observed keeps its size and the bound facts of each move
      begun_on : (masks' : List ℕ) (r : ℕ) → Stepped masks' r → Begun (schema_in s c) masks'
      unfolding observe_by recorded_step
      begun_on masks' r o = go (decide own_step.went)
        where
          go : (own_step.went ≡ true) ⊎ (own_step.went ≡ false) → Begun (schema_in s c) masks'
          go (inr e) = subst (Begun (schema_in s c)) (passed_masks own_step _ e ∙ sym o.masks) obs.begun
          go (inl e) =
              let (counted, known) = step_move s c ks table observable at (listed_whole s c ks table observable at next (sym told)) in
              let is = o.masks ∙ ap (λ h. h.masks) (observe_went own_step _ e) in
              record {
                sized = ap length is ∙ length_noted _ counted known _ _ masks obs.begun.sized;
                atoms = λ a low high. ap (λ (l : List ℕ). observed_set l a bound) is ∙ noted_bound _ counted known _ _ masks obs.begun.sized a low high ∙ obs.begun.atoms a low high;
              }

      end : next ≡ list_end s (at + step_size)
      end = (list_ends _ (most_listed c.short) 8 _ _ s c.end (at + step_size) next (listed_good c.short (schema_in s c) (typed_in s c) s c.end at next (sym told)).1).0

      one_more_lem : (k : ℕ) (masks' : List ℕ) (noticed' : Noticed) → left ≡ suc k → IsHeld (observe own_step (held_with masks noticed)) masks' noticed'
          → observe_all (recorded_steps_at c.short s k (state_after c.short s obs.before (at + step_size)) next) (held_with masks' noticed') ≡ whole
      unfolding recorded_steps_at observe_all
      one_more_lem k masks' noticed' e o = rw (held_path _ _ _ o, end) (rw e at obs.rest)

      pub observing_on : (m' masks' : List ℕ) (r : Noted)
          → Done c.short s obs.before at m masks noticed.named m' masks' r
          → (after : ℕ) → Good after ≡ step_after at r.count (changes_listed c.short s pre at) next
          → length m' ≡ state_size
          → (noticed' : Noticed) → noticed' ≡ record { named = r.named; failed = noticed.failed || not (went_at s at) }
          → (left' : ℕ)
          → left' ≡ left - 1
          → Observing s c first from m' r.count left' (at + step_size) next masks' noticed' whole
      unfolding recorded_step is_refused
      observing_on m' masks' r done after is long noticed' are left' fewer =
          let seen = noticed_step own_step masks noticed masks' r.named done.observed in
          rw fewer
          (record {
            before = state_after c.short s obs.before (at + step_size);
            going = going_on_lem s c ks table readable first from obs.before m held left pre at obs.going some _ told next refl m' r.count done.carried (Good after) is false refl long refl;
            begun = begun_on masks' r.named done.observed;
            rest = one_more_lem (left - 1) masks' noticed' (omega arith) (subst (λ (n : Noticed). IsHeld (observe own_step (held_with masks noticed)) masks' n) (sym are) seen);
          })

    -- ---- no step left
    pub observing_done : left ≡ 0 → IsHeld whole masks noticed
    unfolding recorded_steps_at observe_all
    observing_done e = go left e obs.rest
      where
        go : (k : ℕ) → k ≡ 0 → observe_all (recorded_steps_at c.short s k obs.before at) (held_with masks noticed) ≡ whole → IsHeld whole masks noticed
        go zero e j = path_held whole masks noticed j
        go (suc k) e j = absurd (omega arith)
