-- `observestep::nothing_seen` meets its contract: the moves up to i have their first sets.
use native.Mathlib.Omega.{arith}
use mathlib.Core.Path.{sym, ◌∙◌}
use Rattle.terms.specs.Schema.{schema}
use Rattle.observestep.proofs.Start.{nothing_sized, started_none, started_next, started_all}
use Rattle.observestep.proofs.nothing_seen.Goals as goal

pub loop-i-init : goal.loop-i-init
loop-i-init c = let p = c.requires in
    (started_none _ _ p.0, nothing_sized _ p.0)

pub loop-i-preserved : goal.loop-i-preserved
loop-i-preserved c = let i = c.loop-i.invariant in
    (started_next _ _ _ _ _ i.0 (omega arith) c.atom_set.ensures c.first_sets.ensures, i.1)

pub returns : goal.returns
unfolding schema
returns c = let i = c.loop-i.invariant in
    started_all _ _ _ i.0 (omega arith)
