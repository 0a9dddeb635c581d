-- `rulesheet::write_blocks` meets its contract: the first i blocks are written, and the sets of the moves behind them are as they were.
use native.Mathlib.Omega.{arith}
use mathlib.Core.Path.{refl, ◌∙◌}
use Rattle.rulesheet.proofs.Blocks.{sheet_first, sheet_turn, rules_kept}
use Rattle.rulesheet.proofs.write_blocks.Goals as goal

pub loop-i-init : goal.loop-i-init
loop-i-init c = sheet_first _ _

pub loop-i-preserved : goal.loop-i-preserved
loop-i-preserved c = let e = c.loop-i.invariant in
    let sized = c.requires.2 in
    sheet_turn _ sized _ _ _ (omega arith) e _ _ _ (omega arith) (omega arith) refl
    (c.rules_of-rules.ensures ∙ rules_kept c.args.apart c.args.sheet.now c.loop-i.sheet _ _ c.unwrap_or.result sized (omega arith) e refl c.unwrap_or.ensures) c.write_rules.ensures
