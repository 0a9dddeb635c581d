-- Where each of a move's four sets stands on a rule sheet, counted from 0.
use Rattle.std.specs.Prelude.{ℕ}
use Rattle.jobs.specs.declared.RuleSet.{RuleSet}
use Rattle.jobs.specs.declared.RuleSet.TheVariants.{PrePos, PreNeg, Add, Delete}

abbrev pub place_of : RuleSet → ℕ
place_of PrePos = 0
place_of PreNeg = 1
place_of Add = 2
place_of Delete = 3
