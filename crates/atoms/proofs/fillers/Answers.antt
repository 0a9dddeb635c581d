-- `atoms::fillers` meets its contract: the place is used, or it is not.
use native.Mathlib.Omega.{arith}
use Rattle.atoms.specs.Atoms.{ForMoves}
use Rattle.atoms.proofs.Places.{used_fillers, unused_fillers}
use Rattle.atoms.proofs.fillers.Goals as goal

pub returns-then-i-places : goal.returns-then-i-places
unfolding ForMoves
returns-then-i-places c = let kind = c.place_kind.ensures in
    (λ m right. used_fillers _ _ _ _ _ c.places.ensures _ _ _ kind c.if-i-places.true c.entry.ensures right, omega arith)

pub returns : goal.returns
unfolding ForMoves
returns c = (λ m right. unused_fillers _ _ _ _ _ c.places.ensures c.if-i-places.false, omega arith)
