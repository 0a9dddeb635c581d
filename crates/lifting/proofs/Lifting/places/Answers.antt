-- `lifting::Lifting::places` meets its contract, from the table.
use native.Mathlib.Omega.{arith}
use Prim.Native.Nat.{◌<◌}
use mathlib.Core.Path.{refl}
use Rattle.lifting.proofs.Pairs.{places_by}
use Rattle.lifting.proofs.Lifting.places.Goals as goal

pub returns : goal.returns
returns c = let h : c.args.f.first.0 < 256 = omega arith in
    let k : c.args.f.second.0 < 256 = omega arith in
    places_by _ _ _ _ _ c.args.self.inverts refl refl h k
