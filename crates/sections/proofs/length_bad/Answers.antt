-- `sections::length_bad` meets its contract: the test of the definition, read by read.
use mathlib.Core.Path.{refl}
use Rattle.format.specs.Header.{length_bad}
use Rattle.sections.proofs.length_bad.Goals as goal

pub returns : goal.returns
unfolding length_bad
returns c = refl
