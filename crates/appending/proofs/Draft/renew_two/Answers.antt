-- `renew_two` meets its contract: the bytes are written within what is formed.
use native.Mathlib.Omega.{arith}
use mathlib.Core.Path.{ap, ◌∙◌}
use mathlib.Core.List.{List}
use lib.ListN.{length}
use lib.Seq.{length-take-le}
use Prim.Native.Nat.{ℕ}
use Rattle.output.specs.Written.{written, two_bytes}
use Rattle.output.proofs.Two.{length_two}
use Rattle.appending.proofs.Appended.{renew_written}
use Rattle.appending.proofs.Draft.renew_two.Goals as goal

pub returns : goal.returns
returns c = let d = c.self.inside in
    let n = length-take-le d.len d.bytes (omega arith) in
    let v = ap length c.self.view_is in
    renew_written _ _ _ _ _ (omega arith) c.write_two.ensures (rw length_two (omega arith)) ∙ ap (λ (l : List ℕ). written l c.args.at (two_bytes c.args.n)) c.self.view_is
