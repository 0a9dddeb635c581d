-- `observestep::first_named` meets its contract: the two tests are those of `first_named`.
use borrow.Author.Tests.{eq-eqb, ne_eqb}
use Rattle.observed.specs.Observed.{first_named}
use Rattle.observestep.proofs.first_named.Goals as goal

pub returns-then-named-ne0 : goal.returns-then-named-ne0
unfolding first_named
returns-then-named-ne0 c = rw (ne_eqb _ _ c.if-named-ne0.true)

pub returns-then-unbound : goal.returns-then-unbound
unfolding first_named
returns-then-unbound c = rw (eq-eqb _ _ c.if-named-ne0.false, c.if-unbound.true)

pub returns : goal.returns
unfolding first_named
returns c = rw (eq-eqb _ _ c.if-named-ne0.false, c.if-unbound.false)
