-- `atoms::atom_set` meets its contract: the relations below the end, one after the other.
use Prim.Native.Nat.{◌*◌}
use Rattle.terms.specs.Schema.{schema}
use Rattle.atoms.proofs.Atoms.{AtomsTo}
use Rattle.atoms.proofs.atom_set.Given as goal

abbrev pub invariant-loop-i : goal.invariant-loop-i
invariant-loop-i l = AtomsTo (schema l.h l.book) l.kinds (16 * l.i) l.set
