-- Row 27 by the lists of a record, as the code asks it, is row 27 by the states: a step that did not go leaves the state as it was. In a short book
-- that is so exactly if no fact turns. Uses factsets/proofs/Toggled for what turning facts does to a state.
use Prim.Native.Nat.{ℕ, ◌+◌}
use mathlib.Core.Path.{◌≡◌, refl, sym, ap, ◌∙◌}
use mathlib.Core.Bool.{Bool, true, false, not}
use mathlib.Core.List.{List, []}
use lib.Dec.{eqb}
use lib.ListN.{length}
use borrow.Author.Tests.{eqb-true, eq-eqb}
use Rattle.truth.specs.Bools.{bool_eq}
use Rattle.limits.specs.Limits.{count_size, step_size}
use Rattle.input.specs.Bytes.{two}
use Rattle.terms.specs.declared.Fact.{Fact}
use Rattle.terms.specs.Facts.{same_facts, no_fact}
use Rattle.terms.proofs.Same.{same_facts_lem, facts_same}
use Rattle.format.specs.Filed.{went_at}
use Rattle.format.specs.Lists.{facts_at, list_at}
use Rattle.format.specs.Toggled.{toggled}
use Rattle.format.specs.Form.{Form, state_after}
use Rattle.format.specs.Records.{failed_changes}
use Rattle.factsets.specs.Right.{Increasing}
use Rattle.factsets.proofs.States.{length_facts}
use Rattle.factsets.proofs.Toggled.{toggled_back, toggled_nothing, toggled_self}
use Rattle.records.specs.Rows.{changes_listed}

-- row 27 by the lists, as the code meets it
module _ (form : Form) (s : List ℕ) (pre at : ℕ) (b : Bool) (told : b ≡ went_at s at) where
  pub listed_went : b ≡ true → false ≡ changes_listed form s pre at
  unfolding changes_listed
  listed_went e = rw (← told, e)

  pub listed_short : b ≡ false → form ≡ true → (n : ℕ) → n ≡ two s (at + step_size) → not (eqb n 0) ≡ changes_listed form s pre at
  unfolding changes_listed
  listed_short e short n counted = rw (← told, e, short, counted)

  pub listed_full : b ≡ false → form ≡ false → (same : Bool) → same ≡ same_facts (list_at s pre) (list_at s (at + step_size)) → not same ≡ changes_listed form s pre at
  unfolding changes_listed
  listed_full e full same compared = rw (← told, e, full, compared)

-- a state stays as it was only if no fact turns
unturned : (fs ts : List Fact) → Increasing no_fact fs → Increasing no_fact ts → fs ≡ toggled fs ts → ts ≡ []
unturned fs ts h k e = sym (toggled_back no_fact fs ts h k) ∙ ap (λ (gs : List Fact). toggled fs gs) (sym e) ∙ toggled_self fs

module _ (s : List ℕ) (at : ℕ) where
  -- a list is empty if its count is 0, and the other way round
  list_none : two s at ≡ 0 → list_at s at ≡ []
  unfolding list_at facts_at
  list_none e = rw e

  none_listed : list_at s at ≡ [] → two s at ≡ 0
  unfolding list_at
  none_listed e = sym (length_facts s (two s at) (at + count_size)) ∙ ap length e

  -- the state after a list of facts that turn is the state before it if none is listed
  same_if_none : (before : List Fact) → Increasing no_fact before → Increasing no_fact (list_at s at) → eqb (two s at) 0 ≡ same_facts before (toggled before (list_at s at))
  same_if_none before h k =
      bool_eq _ _
      (λ e. rw (list_none (eqb-true _ _ e), toggled_nothing before) (facts_same before))
      (λ e. eq-eqb _ _ (none_listed (unturned before (list_at s at) h k (same_facts_lem before (toggled before (list_at s at)) e))))

-- Row 27 by the lists is row 27 by the states.
pub changes_by_lists : (form : Form) (s : List ℕ) (before : List Fact) (pre at : ℕ)
    → Increasing no_fact before
    → (form ≡ false → list_at s pre ≡ before)
    → (form ≡ true → Increasing no_fact (list_at s (at + step_size)))
    → changes_listed form s pre at ≡ failed_changes form s before at
unfolding changes_listed failed_changes state_after
changes_by_lists true s before pre at h listed order = rw (same_if_none s (at + step_size) before h (order refl))
changes_by_lists false s before pre at h listed order = rw (listed refl)
