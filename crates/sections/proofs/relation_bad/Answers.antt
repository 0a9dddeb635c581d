-- `sections::relation_bad` meets its contract: the test of the definition, read by read.
use Rattle.sections.proofs.Tests.{relation_bad_by}
use Rattle.sections.proofs.relation_bad.Goals as goal

pub returns : goal.returns
returns c = relation_bad_by _ _ _ _ _ _ _ c.byte_at-places.ensures c.kind_bad-first.ensures c.kind_bad-second.ensures c.byte_at-last.ensures
