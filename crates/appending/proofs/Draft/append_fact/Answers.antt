-- `append_fact` meets its contract: there is no room, or its three bytes are stored behind what is formed.
use native.Mathlib.Omega.{arith}
use mathlib.Core.Path.{◌≡◌, refl, ap, ◌∙◌}
use mathlib.Core.List.{List, [], ◌∷◌, ◌++◌}
use Prim.Native.Nat.{ℕ}
use lib.ListN.{length}
use lib.Seq.{length-take-le}
use Rattle.jobs.specs.Convert.{facts_bytes}
use Rattle.appending.proofs.Appended.{append_written, three_written}
use Rattle.appending.proofs.Draft.append_fact.Goals as goal

pub returns : goal.returns
unfolding facts_bytes
returns c = let d = c.self.inside in
    append_written d.bytes _ _ _ _ (omega arith) (three_written _ _ _ d.len d.bytes (omega arith)) refl (omega arith) ∙ ap (λ (l : List ℕ). l ++ facts_bytes (c.args.f ∷ [])) c.self.view_is

pub returns-then-at-gt-MAX_LENGTH : goal.returns-then-at-gt-MAX_LENGTH
unfolding facts_bytes
returns-then-at-gt-MAX_LENGTH c = let d = c.self.inside in
    let n = length-take-le d.len d.bytes (omega arith) in
    let v = ap length c.self.view_is in
    omega arith
