-- `sections::kind_bad` meets its contract: the test of the definition, read by read.
use Rattle.format.specs.Header.{kind_bad}
use Rattle.sections.proofs.kind_bad.Goals as goal

pub returns : goal.returns
unfolding kind_bad
returns c = cc
