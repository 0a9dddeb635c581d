-- `listing::Learned::put_atom_lines` meets its contract: what is put and the lines of the numbers left are the whole.
use Rattle.std.proofs.Common.{◌++◌, ◌+◌, ◌-◌, ◌*◌, ◌≤◌, length}
use Rattle.format.specs.Form.{full}
use Rattle.jobs.specs.Planning.{schema_of}
use Rattle.jobs.specs.Learn.{rules_from}
use Rattle.jobs.specs.Listing.{atom_lines}
use Rattle.listing.specs.declared.TheConstants.{LINE_SIZE}
use Rattle.listing.proofs.Text.{Split}
use Rattle.listing.proofs.Learned.put_atom_lines.Given as goal

abbrev pub invariant-loop-n : goal.invariant-loop-n
invariant-loop-n l = record {
  room : length l.text ≤ length l.initial.text + LINE_SIZE * l.n;
  split : Split l.text
      (atom_lines (schema_of l.self.book.now) (rules_from full l.self.book.now) l.m.0 (l.end - l.n) l.n)
      (l.initial.text ++ atom_lines (schema_of l.self.book.now) (rules_from full l.self.book.now) l.m.0 l.end 0);
}
