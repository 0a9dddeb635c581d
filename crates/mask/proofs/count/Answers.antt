-- `mask::count` meets its contract: the sum of the ones of each byte is the size.
use Rattle.std.proofs.Common.{◌≡◌, ◌∙◌, rules, arith}
use Rattle.std.specs.List.{sum_by}
use lib.Count.{ones}
use Rattle.mask.proofs.Flips.{cardinality_most}
use Rattle.mask.proofs.Turns.{cardinality_sum}
use Rattle.mask.proofs.count.Goals as goal

pub returns : goal.returns
returns c = let m = c.args.m.now in
    let size : c.sum.result ≡ sum_by ones m = search rules in
    (size ∙ cardinality_sum m, omega (arith, cardinality_sum m, cardinality_most m (λ i. (c.type_inv.m i).fits)))
