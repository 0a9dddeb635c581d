-- The loop over the records: observed one by one, they give what is observed after all of them (`observed_after_all`).
use Prim.Native.Nat.{ℕ, zero, suc, ◌-◌, ◌<◌}
use mathlib.Core.Path.{◌≡◌, sym, ◌∙◌}
use mathlib.Core.List.{List}
use native.Mathlib.Numerals.{sub-one}
use native.Mathlib.Omega.{arith}
use Rattle.std.proofs.Common.{Err}
use Rattle.answer.specs.Answer.{Good}
use Rattle.answer.specs.declared.Refusal.{Refusal}
use Rattle.answer.specs.Refusal.{refused_by}
use Rattle.terms.specs.declared.Sections.{Sections}
use Rattle.format.specs.Form.{Form}
use Rattle.format.specs.LookOver.{all_records}
use Rattle.format.specs.Parts.{record_part, records_at}
use Rattle.format.specs.Records.{record_at}
use Rattle.observed.specs.Observed.{Observed, observed_after, observed_after_all}
use Rattle.observed.proofs.Records.{held_none, held_more}
use Rattle.observerecords.specs.declared.noticed.Noticed.{Noticed}
use Rattle.observerecords.specs.Observing.{held_with, IsHeld, RecordsObserved}
use Rattle.observerecords.proofs.Steps.{held_path, path_held}

pub refused_walked : (form : Form) (h : Sections) (s : List ℕ) (n from : ℕ) (before : Observed) (bytes : List ℕ) (e : Refusal)
    → refused_by e ≡ all_records form h s n from
    → RecordsObserved form h s n from before bytes (Err e)
refused_walked form h s n from before bytes e p = record { says = p; observes = tt }

-- ---- the records

module _ (form : Form) (s : List ℕ) (whole : Observed) where
  -- one record more
  pub record_turn : (h : Sections) (n at next : ℕ) (masks masks' : List ℕ) (noticed noticed' : Noticed)
      → 0 < n
      → record_at form h s at ≡ Good next
      → IsHeld (observed_after form (record_part s at) at (held_with masks noticed)) masks' noticed'
      → observed_after_all form (records_at s n at) at (held_with masks noticed) ≡ whole
      → observed_after_all form (records_at s (n - 1) next) next (held_with masks' noticed') ≡ whole
  record_turn h zero at next masks masks' noticed noticed' l e f i = absurd (omega arith)
  record_turn h (suc n) at next masks masks' noticed noticed' l e f i =
      rw (held_path _ _ _ f, sub-one) (sym (held_more form h s at next e n (held_with masks noticed)) ∙ i)

  pub records_done : (n at : ℕ) (masks : List ℕ) (noticed : Noticed)
      → n ≡ 0
      → observed_after_all form (records_at s n at) at (held_with masks noticed) ≡ whole
      → IsHeld whole masks noticed
  records_done n at masks noticed e i =
      path_held whole masks noticed (sym (held_none form s at (held_with masks noticed)) ∙ rw e at i)
