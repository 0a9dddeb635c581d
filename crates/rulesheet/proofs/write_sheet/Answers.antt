-- `rulesheet::write_sheet` meets its contract: the blocks are the whole sheet.
use Rattle.rulesheet.proofs.Blocks.{sheet_whole}
use Rattle.rulesheet.proofs.write_sheet.Goals as goal

pub returns : goal.returns
returns c = let p = c.requires in sheet_whole _ p.2 _ _ _ p.1 p.0 c.write_blocks.ensures
