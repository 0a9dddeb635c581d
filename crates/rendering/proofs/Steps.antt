-- Steps of good form, one by one: the list after each is good, and their bytes are those of the first and of the others.
use Prim.Native.Nat.{ℕ, zero, suc, ◌+◌, ◌-◌, ◌≤◌, ◌<◌}
use native.Mathlib.Numerals.{sub-one}
use native.Mathlib.Omega.{arith}
use mathlib.Core.Path.{◌≡◌, refl, sym, ap}
use mathlib.Core.Bool.{true, false, not}
use mathlib.Core.List.{List, [], ◌++◌}
use lib.ListN.{length}
use Rattle.std.specs.Prelude.{Result, Ok, Err}
use Rattle.terms.specs.declared.Fact.{Fact}
use Rattle.limits.specs.Limits.{max_length, step_size}
use Rattle.format.specs.Filed.{filed_fact}
use Rattle.format.specs.Lists.{list_at, list_end}
use Rattle.format.specs.Toggled.{toggled}
use Rattle.format.specs.Form.{Form, most_listed, state_after}
use Rattle.format.specs.Decode.{recorded_step, recorded_steps_at}
use Rattle.format.proofs.States.{next_good}
use Rattle.format.proofs.Records.{step_good, step_ends, steps_parted}
use Rattle.jobs.specs.Convert.{list_bytes, filed_step_bytes, listed, steps_bytes}
use Rattle.factsets.proofs.States.{list_increasing}
use Rattle.appending.specs.Appended.{AllBut}
use Rattle.rendering.specs.Held.{Holds, AppendedHeld}
use Rattle.rendering.specs.Good.{GoodNext, GoodSteps}
use Rattle.appending.proofs.Appended.{append_then, over_then, part_none, part_next, part_over, part_all}

-- ---- what is asked

module _ (form : Form) (s : List ℕ) where
  -- the list after the first of some steps, and the others
  pub steps_next : (n : ℕ) (before : List Fact) (at : ℕ) → 0 < n → GoodSteps form s n before at
      → GoodNext form s before (at + step_size) × GoodSteps form s (n - 1) (state_after form s before (at + step_size)) (list_end s (at + step_size))
  unfolding filed_fact
  steps_next zero before at h g = absurd (omega arith)
  steps_next (suc n) before at h g =
      let (first, others) = steps_parted form g.sch g.ob s g.end n before at g.last g.good in
      let behind = (step_good form g.sch g.ob s g.end before at _ first).2 in
      let (list, few) = next_good form g.sch g.ob s g.end before (at + step_size) _ behind in
      let within = (step_ends form g.sch g.ob s g.end before at _ first).1 in
      let reach = g.within in (
        record {
          list = record { within = omega arith; near = g.near; order = list_increasing (most_listed form) 8 g.sch g.ob s g.end (at + step_size) _ list };
          few = few;
        },
        rw sub-one (record { sch = g.sch; ob = g.ob; end = g.end; last = g.last; good = others; start = within; within = g.within; near = g.near }),
      )

  -- the first lies within
  pub steps_reach : (n : ℕ) (before : List Fact) (at : ℕ) → 0 < n → GoodSteps form s n before at → at + step_size ≤ max_length
  unfolding list_end
  steps_reach n before at h g = omega (arith, (steps_next n before at h g).0.list)

  -- ---- bytes

  -- what is listed in the other form is in both the list in which facts turn
  listed_other : (before : List Fact) (at : ℕ) → listed (not form) (recorded_step form s before at) ≡ toggled before (list_at s (at + step_size))
  unfolding listed recorded_step state_after
  listed_other before at = go form
    where
      go : (form : Form) → listed (not form) (recorded_step form s before at) ≡ toggled before (list_at s (at + step_size))
      go true = refl
      go false = refl

  abbrev pub first_step : List Fact → ℕ → List ℕ
  first_step before at = filed_step_bytes (recorded_step form s before at) ++ list_bytes (toggled before (list_at s (at + step_size)))

  -- the steps to come
  abbrev pub steps_to_come : ℕ → List Fact → ℕ → List ℕ
  steps_to_come n before at = steps_bytes (not form) (recorded_steps_at form s n before at)

  steps_none : (n : ℕ) (before : List Fact) (at : ℕ) → n ≡ 0 → steps_to_come n before at ≡ []
  unfolding steps_bytes recorded_steps_at
  steps_none n before at e = rw e

  steps_first : (n : ℕ) (before : List Fact) (at : ℕ) → 0 < n
      → first_step before at ++ steps_to_come (n - 1) (state_after form s before (at + step_size)) (list_end s (at + step_size)) ≡ steps_to_come n before at
  unfolding steps_bytes recorded_steps_at recorded_step
  steps_first zero before at h = absurd (omega arith)
  steps_first (suc n) before at h =
      let behind : List ℕ = steps_to_come n (state_after form s before (at + step_size)) (list_end s (at + step_size)) in
      rw sub-one (ap (λ (fs : List Fact). filed_step_bytes (recorded_step form s before at) ++ list_bytes fs ++ behind) (sym (listed_other before at)))

  -- ---- a loop over steps: those to come are yet to be appended, and the facts before the next one hold

  pub record Stepping (whole old : List ℕ) (n at : ℕ) (state new : List ℕ) : Type 0 where
    pub appended : AllBut (steps_to_come n (list_at state 0) at) whole old new
    pub holds : Holds state
    pub good : GoodSteps form s n (list_at state 0) at

  pub stepping_first : (old state : List ℕ) (n at : ℕ) → Holds state → GoodSteps form s n (list_at state 0) at
      → Stepping (steps_to_come n (list_at state 0) at) old n at state old
  stepping_first old state n at holds good = record { appended = part_none _ old; holds = holds; good = good }

  module _ {whole old : List ℕ} {n at : ℕ} {state mid : List ℕ} (i : Stepping whole old n at state mid) where
    pub stepping_end : n ≡ 0 → mid ≡ old ++ whole
    stepping_end e = part_all i.appended (steps_none n (list_at state 0) at e)

    module _ (more : 0 < n) where
      pub stepping_over : max_length < length mid + length (first_step (list_at state 0) at) → max_length < length old + length whole
      stepping_over h = part_over i.appended (first_step (list_at state 0) at) _ (steps_first n (list_at state 0) at more) h

      pub stepping_next : (state' new : List ℕ)
          → (new ≡ mid ++ first_step (list_at state 0) at) × Holds state' × (list_at state' 0 ≡ state_after form s (list_at state 0) (at + step_size))
          → (at' : ℕ) → at' ≡ list_end s (at + step_size) → Stepping whole old (n - 1) at' state' new
      stepping_next state' new (same, holds, e) at' d =
          let part = part_next i.appended (first_step (list_at state 0) at) (steps_first n (list_at state 0) at more) same in
          record { appended = rw (e, d) part; holds = holds; good = rw (e, d) (steps_next n (list_at state 0) at more i.good).1 }

-- bytes, then a state
pub carried_then : {A E : Type 0} (a b : List ℕ) (after : List Fact) (old mid new state : List ℕ) (r : Result A E)
    → mid ≡ old ++ a → AppendedHeld b after mid new state r → AppendedHeld (a ++ b) after old new state r
carried_then a b after old mid new state (Ok _) e p = (append_then a b old mid e p.0, p.1, p.2)
carried_then a b after old mid new state (Err _) e p = over_then a b old mid e p
