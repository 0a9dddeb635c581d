-- `listing::Learned::put_lines` meets its contract: the first line, and the moves' lines after it.
use Rattle.listing.proofs.Printed.{listing_by}
use Rattle.listing.proofs.Learned.put_lines.Goals as goal

pub returns : goal.returns
returns c = listing_by _ _ _ c.args.self.now.is _ _ _ (rw c.requires at c.counts_line.ensures.text) c.put_move_lines.ensures
