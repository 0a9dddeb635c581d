-- `sections::parent_bad` meets its contract: the test of the definition, read by read.
use Rattle.sections.proofs.Tests.{parent_bad_by}
use Rattle.sections.proofs.parent_bad.Goals as goal

pub returns : goal.returns
returns c = parent_bad_by _ _ _ c.byte_at.ensures
