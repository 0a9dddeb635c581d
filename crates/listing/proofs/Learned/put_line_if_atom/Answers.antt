-- `listing::Learned::put_line_if_atom` meets its contract.
use Rattle.listing.proofs.Sheet.{told, there_by, absent_by}
use Rattle.listing.proofs.Learned.put_line_if_atom.Goals as goal

pub returns-then-test_bit-clause-text : goal.returns-then-test_bit-clause-text
returns-then-test_bit-clause-text c =
    let (from_one, there, small, room, set) = c.requires in
    let learned = c.args.self.now.is in
    let e = told _ _ _ learned _ _ _ _ small set c.test_bit.ensures in
    there_by _ _ _ learned c.args.text.now _ _ _ e _ from_one there small c.if-test_bit.true c.atom_line.ensures.text

pub returns-else-test_bit-clause-text : goal.returns-else-test_bit-clause-text
returns-else-test_bit-clause-text c =
    let (from_one, there, small, room, set) = c.requires in
    let learned = c.args.self.now.is in
    let e = told _ _ _ learned _ _ _ _ small set c.test_bit.ensures in
    absent_by _ _ _ learned c.args.text.now _ _ _ e c.if-test_bit.false
