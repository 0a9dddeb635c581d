-- `terms::Fact::follows` meets its contract: the keys of facts of bytes are in their order.
use native.Mathlib.Omega.{arith}
use Rattle.terms.proofs.Order.{keys}
use Rattle.terms.proofs.Fact.follows.Goals as goal

pub returns : goal.returns
returns c = rw (c.requires, c.key.ensures) (keys _ _ (omega arith) (omega arith) (omega arith) (omega arith))
