-- `append` meets its contract where there is room: the bytes are written behind what is formed.
use native.Mathlib.Omega.{arith}
use mathlib.Core.Path.{refl, ap, ◌∙◌}
use mathlib.Core.List.{List, ◌++◌}
use Prim.Native.Nat.{ℕ}
use Rattle.appending.proofs.Appended.{append_written}
use Rattle.appending.proofs.Draft.append.Goals as goal

pub returns : goal.returns
returns c = append_written _ _ _ _ _ (omega arith) c.write_bytes.ensures refl (omega arith) ∙ ap (λ (l : List ℕ). l ++ c.args.bytes.now) c.self.view_is
