-- `sections::move_bad` meets its contract: the test of the definition, read by read.
use Rattle.sections.proofs.Tests.{move_bad_by}
use Rattle.sections.proofs.move_bad.Goals as goal

pub returns : goal.returns
returns c = move_bad_by _ _ _ _ _ _ _ _ _ c.byte_at-params.ensures c.kind_bad-first.ensures c.kind_bad-second.ensures
    c.kind_bad-third.ensures c.kind_bad-fourth.ensures c.byte_at-last.ensures
