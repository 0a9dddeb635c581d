-- `hold` meets its contract: the list's bytes fit, and are read as they were.
use native.Mathlib.Omega.{arith}
use Rattle.format.specs.Lists.{list_end}
use Rattle.rendering.proofs.Held.{hold_room, held_by}
use Rattle.rendering.proofs.hold.Goals as goal

pub list_end-end-requires : goal.list_end-end-requires
unfolding list_end
list_end-end-requires c = omega arith

pub slice_bounds-write_bytes-count : goal.slice_bounds-write_bytes-count
unfolding list_end
slice_bounds-write_bytes-count c = omega arith

pub slice_bounds-write_bytes-start : goal.slice_bounds-write_bytes-start
unfolding list_end
slice_bounds-write_bytes-start c = omega arith

pub write_bytes-requires : goal.write_bytes-requires
write_bytes-requires c = let p = c.requires in
    hold_room c.args.state.now _ _ _ p.0 c.list_end-end.ensures.0 p.1 p.3

pub returns : goal.returns
returns c = let p = c.requires in
    held_by _ _ _ _ p.0 c.list_end-end.ensures.0 p.1 p.3 _ c.write_bytes.ensures
