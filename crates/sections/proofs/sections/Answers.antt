-- `sections` meets its contract, row by row.
use mathlib.Core.Path.{◌≡◌, refl, sym, ◌∙◌}
use Rattle.std.proofs.lemmas.Result.{err_from_is_err_and}
use Rattle.answer.specs.Answer.{is_refused}
use mathlib.Core.Bool.{false}
use lib.ListN.{length}
use Rattle.format.specs.Header.{length_bad, counts_bad, offsets_bad}
use native.Mathlib.Omega.{arith}
use Rattle.format.proofs.Header.{offsets_good}
use Rattle.sections.proofs.Tests.{row_one, row_two, row_three, row_twenty_one, row_four, row_five_lem}
use Rattle.sections.proofs.sections.Goals as goal
use Rattle.sections.proofs.sections.Goals.{Else-offsets_bad}

-- after the third test, none of rows 1 to 3 is met
unmet : (e : Else-offsets_bad)
    → let a = e.args in
    (length_bad a.s.now ≡ false) × (counts_bad a.h ≡ false) × (offsets_bad a.h (length a.s.now) ≡ false)
unmet e = (
  sym e.length_bad.ensures ∙ e.if-length_bad.false,
  sym e.counts_bad.ensures ∙ e.if-counts_bad.false,
  sym e.offsets_bad.ensures ∙ e.if-offsets_bad.false,
)

pub returns-then-length_bad : goal.returns-then-length_bad
returns-then-length_bad c = rw c.at.ensures (row_one _ _ (sym c.length_bad.ensures ∙ c.if-length_bad.true))

pub returns-then-counts_bad : goal.returns-then-counts_bad
returns-then-counts_bad c = rw c.at-then-counts_bad.ensures (row_two _ _ (sym c.length_bad.ensures ∙ c.if-length_bad.false) (sym c.counts_bad.ensures ∙ c.if-counts_bad.true))

pub returns-then-offsets_bad : goal.returns-then-offsets_bad
returns-then-offsets_bad c = let one = sym c.length_bad.ensures ∙ c.if-length_bad.false in
    let two = sym c.counts_bad.ensures ∙ c.if-counts_bad.false in
    rw c.at-then-offsets_bad.ensures (row_three _ _ one two (sym c.offsets_bad.ensures ∙ c.if-offsets_bad.true))

pub overflow_sub-h : goal.overflow_sub-h
overflow_sub-h c = let o = offsets_good _ _ (unmet (goal.at.overflow_sub-h c).Else-offsets_bad).2 in
    omega (arith, o.behind)

pub returns-in_err-parents : goal.returns-in_err-parents
unfolding is_refused
returns-in_err-parents c = let u = unmet (goal.at.returns-in_err-parents c).Else-offsets_bad in
    let p = err_from_is_err_and c.from_residual.result c.from_residual.ensures.1 in
    rw (p.1, p.2) (row_twenty_one _ _ u.0 u.1 u.2 _ c.in_err-parents.ensures refl)

pub returns-in_err-relations : goal.returns-in_err-relations
unfolding is_refused
returns-in_err-relations c = let u = unmet (goal.at.returns-in_err-relations c).Else-offsets_bad in
    let p = err_from_is_err_and c.from_residual-in_err-relations.result c.from_residual-in_err-relations.ensures.1 in
    rw (p.1, p.2) (row_four _ _ u.0 u.1 u.2 _ c.in_ok-parents.ensures refl _ c.in_err-relations.ensures refl)

pub returns : goal.returns
unfolding is_refused
returns c = let u = unmet (goal.at.returns c).Else-offsets_bad in
    row_five_lem _ _ u.0 u.1 u.2 _ c.in_ok-parents.ensures refl _ c.in_ok-relations.ensures refl _ c.moves.ensures
