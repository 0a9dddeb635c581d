-- The order of facts: facts of bytes stand byte by byte as their keys do.
use Prim.Native.Nat.{ℕ, ◌+◌, ◌*◌, ◌<◌}
use mathlib.Core.Path.{◌≡◌, refl}
use mathlib.Core.Bool.{Bool, true, false, ◌&&◌, ◌||◌}
use lib.Dec.{ltb, eqb}
use native.Mathlib.Omega.{arith}
use borrow.Author.Tests.{ltb-true, ltb-false, eqb-true, eqb-false, lt-ltb, le-ltb}
use Rattle.terms.specs.declared.Fact.{Fact}
use Rattle.terms.specs.Facts.{precedes}
use Rattle.terms.specs.Told.{fact_key}

abbrev key : ℕ → ℕ → ℕ → ℕ
key r x y = r * 65536 + x * 256 + y

ordered : (r x y r' x' y' : ℕ) (a b c d e : Bool)
    → x < 256 → y < 256 → x' < 256 → y' < 256
    → ltb r r' ≡ a → eqb r r' ≡ b → ltb x x' ≡ c → eqb x x' ≡ d → ltb y y' ≡ e
    → ltb (key r x y) (key r' x' y') ≡ (a || b && (c || d && e))
ordered r x y r' x' y' true b c d e h i j k p q u v w = lt-ltb (key r x y) (key r' x' y') (omega (arith, ltb-true r r' p))
ordered r x y r' x' y' false false c d e h i j k p q u v w = le-ltb (key r x y) (key r' x' y') (omega (arith, ltb-false r r' p, eqb-false r r' q))
ordered r x y r' x' y' false true true d e h i j k p q u v w = lt-ltb (key r x y) (key r' x' y') (omega (arith, eqb-true r r' q, ltb-true x x' u))
ordered r x y r' x' y' false true false false e h i j k p q u v w =
    le-ltb (key r x y) (key r' x' y') (omega (arith, eqb-true r r' q, ltb-false x x' u, eqb-false x x' v))
ordered r x y r' x' y' false true false true true h i j k p q u v w =
    lt-ltb (key r x y) (key r' x' y') (omega (arith, eqb-true r r' q, eqb-true x x' v, ltb-true y y' w))
ordered r x y r' x' y' false true false true false h i j k p q u v w =
    le-ltb (key r x y) (key r' x' y') (omega (arith, eqb-true r r' q, eqb-true x x' v, ltb-false y y' w))

pub keys : (f g : Fact) → f.first.0 < 256 → f.second.0 < 256 → g.first.0 < 256 → g.second.0 < 256 → ltb (fact_key f) (fact_key g) ≡ precedes f g
unfolding fact_key precedes
keys f g h i j k =
    ordered f.relation.0 f.first.0 f.second.0 g.relation.0 g.first.0 g.second.0 _ _ _ _ _ h i j k refl refl refl refl refl
