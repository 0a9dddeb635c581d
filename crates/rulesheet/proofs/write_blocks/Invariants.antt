-- `rulesheet::write_blocks` meets its contract: the first i blocks are written.
use Rattle.std.proofs.Common.{◌≡◌}
use Rattle.output.specs.Written.{written}
use Rattle.observed.specs.Rules.{sheet_observed}
use Rattle.rulesheet.specs.Sheet.{source}
use Rattle.rulesheet.proofs.write_blocks.Given as goal

abbrev pub invariant-loop-i : goal.invariant-loop-i
invariant-loop-i l = l.sheet ≡ written l.initial.sheet 0 (sheet_observed (source l.apart l.initial.sheet) l.i 1)
