-- `rulesheet::write_rules` meets its contract: four runs of bytes are one.
use native.Mathlib.Omega.{arith}
use Rattle.rulesheet.specs.Sheet.{block}
use Rattle.rulesheet.proofs.Blocks.{block_by}
use Rattle.rulesheet.proofs.write_rules.Goals as goal

pub returns : goal.returns
unfolding block
returns c = block_by _ _ _ _ _ (omega arith) c.write_set.ensures c.write_set-2.ensures c.write_set-3.ensures c.write_set-4.ensures
