-- `conflicts::in_use` meets its contract: the library's test of some byte that is not 0.
use Rattle.std.proofs.Common.{rules, tests, not, eqb}
use Rattle.std.proofs.lemmas.Iterator.{YieldsList-from_slice}
use Rattle.std.proofs.lemmas.Iterator.Search.{any_from_yields_List}
use Rattle.conflicts.proofs.Refusals.{in_use_by}
use Rattle.conflicts.proofs.in_use.Goals as goal

pub returns : goal.returns
returns c = let m = c.args.set.now in
    in_use_by m _ (any_from_yields_List (λ x. not (eqb x 0)) _ _ _ c.any.ensures.ran (YieldsList-from_slice m cc) (λ x b q k. search (rules, tests)))
