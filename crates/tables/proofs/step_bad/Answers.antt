-- `step_bad` meets its contract: the move is out of range, or the step is right if each object is in the set that suits its parameter.
use Rattle.terms.specs.Schema.{schema}
use Rattle.terms.specs.Steps.{step_bad}
use Rattle.tables.specs.Tables.{ForRightByKind, move_entry}
use Rattle.tables.proofs.Laws.{arguments_bad}
use Rattle.tables.proofs.step_bad.Goals as goal

pub returns-then-out_of_range : goal.returns-then-out_of_range
unfolding ForRightByKind step_bad schema
returns-then-out_of_range c ob right = rw (← c.out_of_range.ensures, c.if-out_of_range.true)

pub returns : goal.returns
unfolding ForRightByKind step_bad schema move_entry
returns c ob right = rw (
  ← c.out_of_range.ensures,
  c.if-out_of_range.false,
  c.all_in.ensures,
  c.argument-4.ensures,
  c.argument-3.ensures,
  c.argument-2.ensures,
  c.argument.ensures,
  c.entry_at.ensures,
  c.move_at.ensures.0,
)
    (arguments_bad _ ob _ right _)
