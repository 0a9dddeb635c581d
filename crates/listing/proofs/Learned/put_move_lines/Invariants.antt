-- `listing::Learned::put_move_lines` meets its contract: what is put and the lines of the moves left are the whole.
use Rattle.std.proofs.Common.{◌++◌, ◌+◌, ◌-◌, ◌*◌, ◌≤◌, length}
use Rattle.format.specs.Form.{full}
use Rattle.jobs.specs.Planning.{schema_of}
use Rattle.jobs.specs.Learn.{rules_from}
use Rattle.jobs.specs.Listing.{move_lines}
use Rattle.listing.specs.declared.TheConstants.{MOVE_SIZE}
use Rattle.listing.proofs.Text.{Split}
use Rattle.listing.proofs.Learned.put_move_lines.Given as goal

abbrev pub invariant-loop-i : goal.invariant-loop-i
invariant-loop-i l = record {
  room : length l.text ≤ length l.initial.text + MOVE_SIZE * l.i;
  split : Split l.text
      (move_lines (schema_of l.self.book.now) (rules_from full l.self.book.now) (l.self.h.moves.count - l.i) (l.i + 1))
      (l.initial.text ++ move_lines (schema_of l.self.book.now) (rules_from full l.self.book.now) l.self.h.moves.count 1);
}
