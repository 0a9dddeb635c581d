-- `stepping::Execution::set_word` meets its contract: a set stands in the rules from its place on.
use Rattle.std.proofs.Common.{arith}
use Rattle.stepping.proofs.Sets.{set_word_by}
use Rattle.stepping.proofs.Execution.set_word.Goals as goal

pub returns : goal.returns
returns c = set_word_by _ _ _ _ _ _ c.requires (omega arith) c.word_at.ensures.0
