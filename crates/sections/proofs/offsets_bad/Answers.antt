-- `sections::offsets_bad` meets its contract: the test of the definition, read by read.
use Rattle.format.specs.Header.{offsets_bad}
use mathlib.Core.Path.{refl}
use Rattle.sections.proofs.offsets_bad.Goals as goal

pub returns : goal.returns
unfolding offsets_bad
returns c = refl
