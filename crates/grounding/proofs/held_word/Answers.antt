-- `grounding::held_word` meets its contract: by the places of the relation.
use Rattle.factgroups.proofs.Values.{columns_used, columns_unused}
use Rattle.grounding.proofs.Held.{held_word_by}
use Rattle.grounding.proofs.held_word.Goals as goal

pub returns-then-places-gt1 : goal.returns-then-places-gt1
returns-then-places-gt1 c = let places = rw c.atom_relation.ensures at c.places-places.ensures in
    held_word_by _ _ _ _ c.requires.2 _ _ _ _ places c.placement_of-p.ensures.0 (columns_used _ _ c.if-places-gt1.true) c.values_at.ensures

pub returns : goal.returns
returns c = let places = rw c.atom_relation.ensures at c.places-places.ensures in
    held_word_by _ _ _ _ c.requires.2 _ _ _ _ places c.placement_of-p.ensures.0 (columns_unused _ _ c.if-places-gt1.false) c.values_alone.ensures
