-- `atoms::params_by_kind` meets its contract: the table is right for the parameters as typed objects.
use native.Mathlib.Omega.{arith}
use Rattle.terms.specs.Schema.{move_at}
use Rattle.atoms.proofs.Places.{params_right}
use Rattle.atoms.proofs.params_by_kind.Goals as goal

pub kinds_of-requires : goal.kinds_of-requires
unfolding move_at
kinds_of-requires c = (omega arith, omega arith)

pub returns : goal.returns
returns c = params_right _ _ _ _ _ (rw (← c.params.ensures) c.min-count.ensures) (omega arith) c.kinds_of.ensures
