-- `grounding::placement` meets its contract: by the places of the relation.
use Rattle.grounding.proofs.Objects.{placed_by_lem}
use Rattle.grounding.proofs.placement.Goals as goal

pub returns : goal.returns
returns c = let places = rw c.atom_relation.ensures at c.places.ensures in
    placed_by_lem _ _ _ _ _ c.requires.1 places c.placement_of.ensures.0 c.placement_of.ensures.1
