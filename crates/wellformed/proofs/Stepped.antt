-- Every record of a good book has a step, since row 24 is met by none.
use Prim.Native.Nat.{ℕ, zero, suc, ◌+◌, ◌≤◌}
use mathlib.Core.Path.{◌≡◌, refl, ap, subst}
use mathlib.Core.List.{List}
use lib.ListN.{length}
use Rattle.limits.specs.Limits.{step_size}
use Rattle.terms.specs.declared.Fact.{Fact}
use Rattle.terms.specs.declared.Sections.{Sections}
use Rattle.terms.specs.Sections.{sections_of}
use Rattle.format.specs.Form.{Form, state_after}
use Rattle.format.specs.Lists.{list_end}
use Rattle.format.specs.Records.{steps_in}
use Rattle.format.specs.Decode.{recorded_steps_at, steps_of_record}
use Rattle.format.specs.Parts.{records_of}
use Rattle.format.proofs.Records.{record_stepped}
use Rattle.format.proofs.Parts.{steps_alone_lem}
use Rattle.format.proofs.LookOver.{look_over_good}
use Rattle.wellformed.specs.Stepped.{EveryRecordHasAStep}
use Rattle.wellformed.proofs.Parts.{each_record}

-- a record has as many steps as its head says
length_recorded : (form : Form) (s : List ℕ) (n : ℕ) (before : List Fact) (at : ℕ) → length (recorded_steps_at form s n before at) ≡ n
unfolding recorded_steps_at
length_recorded form s zero before at = refl
length_recorded form s (suc n) before at = ap suc (length_recorded form s n (state_after form s before (at + step_size)) (list_end s (at + step_size)))

pub every_record_has_a_step : EveryRecordHasAStep
unfolding records_of steps_of_record
every_record_has_a_step form s n e r m =
    let h : Sections = sections_of s in
    let (at, next, good, part) = each_record form h s _ _ _ (look_over_good form s n e).records m in
    (length_recorded form r _ _ _, subst (λ (x : List ℕ). 1 ≤ steps_in x 0) part (rw (steps_alone_lem form h s at next good) (record_stepped form h s at next good)))
