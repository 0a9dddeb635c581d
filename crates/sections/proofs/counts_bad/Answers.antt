-- `sections::counts_bad` meets its contract: the test of the definition, read by read.
use mathlib.Core.Path.{refl}
use Rattle.format.specs.Header.{counts_bad}
use Rattle.sections.proofs.counts_bad.Goals as goal

pub returns : goal.returns
unfolding counts_bad
returns c = refl
