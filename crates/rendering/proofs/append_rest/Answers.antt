-- `append_rest` meets its contract: the bytes from here to the end of the list are its facts to come.
use Prim.Native.Nat.{◌+◌, ◌-◌, ◌*◌}
use native.Mathlib.Omega.{arith}
use Rattle.factlist.specs.Rest.{rest}
use Rattle.rendering.proofs.Bytes.{facts_part}
use Rattle.rendering.proofs.append_rest.Goals as goal

pub returns : goal.returns
unfolding rest
returns c = let a = c.args in
    let n = a.c.left in
    let at = a.c.at in
    rw (facts_part a.s.now n at (at + 3 * n - at) (omega arith) (omega arith)) at c.append.ensures
