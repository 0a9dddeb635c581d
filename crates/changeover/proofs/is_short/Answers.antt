-- `changeover::is_short` meets its contract.
use mathlib.Core.Path.{refl}
use Rattle.changeover.specs.Calls.{form_of}
use Rattle.changeover.proofs.is_short.Goals as goal

pub returns : goal.returns
unfolding form_of
returns c = refl
