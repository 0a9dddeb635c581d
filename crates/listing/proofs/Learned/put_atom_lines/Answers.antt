-- `listing::Learned::put_atom_lines` meets its contract: what is put and the lines of the numbers left are the whole.
use Rattle.std.proofs.Common.{arith}
use Rattle.listing.proofs.Text.{atoms_each, first, turn, last}
use Rattle.listing.proofs.Learned.put_atom_lines.Goals as goal

pub loop-n-init : goal.loop-n-init
loop-n-init c = record { room = omega arith; split = first _ _ (atoms_each _ _ _) _ _ _ }

pub loop-n-preserved : goal.loop-n-preserved
loop-n-preserved c = let e = c.put_line_if_atom.ensures in record {
  room = omega (arith, e.upper_bound);
  split = turn _ _ (atoms_each _ _ _) _ _ _ _ _ _ _ c.loop-n.invariant.split e.text (omega arith) (omega arith);
}

pub returns-clause-text : goal.returns-clause-text
returns-clause-text c = last _ _ (atoms_each _ _ _) _ _ _ _ c.loop-n.invariant.split (omega arith)
