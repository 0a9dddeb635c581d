-- `output::write_bytes` meets its contract: the first i bytes are copied.
use native.Mathlib.Omega.{arith}
use mathlib.Core.Path.{refl, ◌∙◌}
use lib.ListN.{length-set}
use Rattle.output.proofs.Written.{copied_first, copied_next, copied_last}
use Rattle.output.proofs.write_bytes.Goals as goal

pub loop-i-init : goal.loop-i-init
loop-i-init c = (refl, copied_first _ _ _)

pub loop-i-preserved : goal.loop-i-preserved
loop-i-preserved c = let e = c.loop-i.invariant in
    (simp length-set e.0, copied_next _ _ _ _ _ c.requires c.loop-i-test.true e.1)

pub returns : goal.returns
returns c = let e = c.loop-i.invariant in
    e.1 ∙ copied_last _ _ _ _ (omega arith) c.loop-i-test.false
