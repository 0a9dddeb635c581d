-- `factgroups::group_word` meets its contract: a group has two bytes.
use native.Mathlib.Omega.{arith}
use Rattle.factgroups.proofs.Words.{number_at}
use Rattle.factgroups.proofs.group_word.Goals as goal

pub returns : goal.returns
returns c = number_at _ _ _ _ _ (omega (arith, c.group.ensures.0)) c.word_at.ensures.0
