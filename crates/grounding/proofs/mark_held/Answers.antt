-- `grounding::mark_held` meets its contract: the relations below the end, one after the other.
use Rattle.std.proofs.Common.{◌≡◌, ◌+◌, ◌*◌, arith}
use Rattle.atoms.specs.Atoms.{atoms_end}
use Rattle.factgroups.proofs.Groups.{starts}
use Rattle.grounding.proofs.Held.{held_first, held_next, held_last}
use Rattle.grounding.proofs.mark_held.Goals as goal

pub loop-r-init : goal.loop-r-init
loop-r-init c b bounded own = held_first _ _ _ _ _ c.requires.3

pub asked_word-bits-requires : goal.asked_word-bits-requires
asked_word-bits-requires c = let q = c.requires in
    (c.indices-xs.ensures.1, q.1, q.2, starts _ (omega arith) (omega arith))

pub loop-r-preserved : goal.loop-r-preserved
loop-r-preserved c b bounded own =
    let next : 16 * c.loop-r.r + 16 ≡ 16 * (c.loop-r.r + 1) = omega arith in
    rw (← next)
    (held_next _ _ _ _ _ _ _ _ (c.loop-r.invariant b bounded own) (omega arith) (omega arith) (c.asked_word-bits.ensures b bounded own) c.store_word.ensures)

pub returns : goal.returns
unfolding atoms_end
returns c = let q = c.requires in
    held_last _ _ _ _ _ _ _ (c.loop-r.invariant _ q.0 c.indices-xs.ensures.0) (omega arith) q.4
