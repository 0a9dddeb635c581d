-- `atoms::pairs` meets its contract, by the test of all pairs.
use borrow.Author.Rules.{rules}
use Rattle.atoms.proofs.Places.{pairs_fit, pairs_product}
use Rattle.atoms.proofs.pairs.Goals as goal

pub overflow_mul-result-4 : goal.overflow_mul-result-4
overflow_mul-result-4 c = let fit = pairs_fit _ _ c.requires.0 c.requires.1 in search rules

pub returns : goal.returns
returns c = pairs_product _ _ c.requires.0 c.requires.1
