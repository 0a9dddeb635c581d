-- `lifting::Lifting::atom` meets its contract: the places are not both the binding's, or the move's set decides.
use native.Mathlib.Omega.{arith}
use Rattle.lifting.proofs.Pairs.{atom_none, atom_some}
use Rattle.lifting.proofs.Lifting.atom.Goals as goal

pub returns-then-x-ge-ATOMS_PER_RELATION : goal.returns-then-x-ge-ATOMS_PER_RELATION
returns-then-x-ge-ATOMS_PER_RELATION c = atom_none _ _ _ _ c.places-x.ensures c.if-x-ge-ATOMS_PER_RELATION.true

pub returns-then-test_bit : goal.returns-then-test_bit
returns-then-test_bit c = rw c.if-test_bit.true at (atom_some _ _ _ _ c.places-x.ensures c.if-x-ge-ATOMS_PER_RELATION.false _ (omega arith) _ c.test_bit.ensures)

pub returns : goal.returns
returns c = rw c.if-test_bit.false at (atom_some _ _ _ _ c.places-x.ensures c.if-x-ge-ATOMS_PER_RELATION.false _ (omega arith) _ c.test_bit.ensures)
