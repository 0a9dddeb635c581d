-- `listing::Learned::put_move_lines` meets its contract: what is put and the lines of the moves left are the whole.
use Rattle.std.proofs.Common.{arith}
use Rattle.listing.proofs.Text.{first, turn, last}
use Rattle.listing.proofs.Sheet.{moves_each}
use Rattle.listing.proofs.Learned.put_move_lines.Goals as goal

pub loop-i-init : goal.loop-i-init
loop-i-init c = record { room = omega arith; split = first _ _ (moves_each _ _ _ c.args.self.now.is) _ _ _ }

pub loop-i-preserved : goal.loop-i-preserved
loop-i-preserved c = let e = c.put_atom_lines.ensures in record {
  room = omega (arith, e.upper_bound);
  split = turn _ _ (moves_each _ _ _ c.args.self.now.is) _ _ _ _ _ _ _ c.loop-i.invariant.split e.text (omega arith) (omega arith);
}

pub returns : goal.returns
returns c = last _ _ (moves_each _ _ _ c.args.self.now.is) _ _ _ _ c.loop-i.invariant.split (omega arith)
