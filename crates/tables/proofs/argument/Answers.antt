-- `argument` meets its contract: the parameter is used, or it is not.
use mathlib.Core.Path.{refl}
use borrow.Author.Tests.{le-leb, lt-leb}
use Rattle.tables.specs.Tables.{argument}
use Rattle.tables.proofs.argument.Goals as goal

pub returns-then-i-params : goal.returns-then-i-params
unfolding argument
returns-then-i-params c = rw (← c.entry-set.ensures, ← c.object-object.ensures, le-leb _ _ c.if-i-params.true) refl

pub returns-else-i-params : goal.returns-else-i-params
unfolding argument
returns-else-i-params c = rw (← c.entry-set.ensures, ← c.object-object.ensures, lt-leb _ _ c.if-i-params.false) refl
