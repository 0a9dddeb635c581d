-- `record` meets its contract: its steps, by the counts of its head.
use native.Mathlib.Omega.{arith}
use Rattle.failedsteps.proofs.Book.{record_reach, steps_asked, steps_answered}
use Rattle.failedsteps.proofs.record.Goals as goal

pub overflow_add-first : goal.overflow_add-first
overflow_add-first c = let p = c.requires in
    omega (arith, record_reach _ _ _ _ _ p.0 p.1, p.0.size)

pub overflow_add-first-2 : goal.overflow_add-first-2
overflow_add-first-2 c = let p = c.requires in
    omega (arith, record_reach _ _ _ _ _ p.0 p.1, p.0.size)

pub steps-requires : goal.steps-requires
steps-requires c = let p = c.requires in
    (p.0, steps_asked _ _ _ _ _ p.0 p.1 _ p.2)

pub returns : goal.returns
returns c = let p = c.requires in
    steps_answered _ _ _ _ _ p.0 p.1 _ p.2 _ c.steps.ensures
