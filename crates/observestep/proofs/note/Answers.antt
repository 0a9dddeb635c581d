-- `observestep::note` meets its contract: six sets, one after the other.
use native.Mathlib.Omega.{arith}
use Rattle.observestep.proofs.Sets.{noted_by}
use Rattle.observestep.proofs.note.Goals as goal

pub returns : goal.returns
returns c = noted_by _ _ _ _ _ _ _ _ _ _ _ _ _ _ _ _ c.requires
    c.set_at-always_before.ensures.0 c.set_at-ever_before.ensures.0 c.set_at-always_after.ensures.0
    c.set_at-ever_after.ensures.0 c.set_at-added.ensures.0 c.set_at-deleted.ensures.0
    c.narrow.ensures c.widen.ensures c.narrow-2.ensures c.widen-2.ensures
    c.widen_by_change.ensures c.widen_by_change-2.ensures
