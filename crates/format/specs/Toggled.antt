-- A state in which the values of some facts turn (symmetric difference). Facts stand in order, before and after.
use Rattle.std.specs.Prelude.{cond, List, [], ◌∷◌}
use Rattle.terms.specs.declared.Fact.{Fact}
use Rattle.terms.specs.Facts.{precedes}

-- one fact turns: it holds afterwards if it did not before
unfoldable pub toggle : Fact → List Fact → List Fact
toggle t [] = t ∷ []
toggle t (f ∷ fs) = cond (precedes t f) (t ∷ f ∷ fs) (cond (precedes f t) (f ∷ toggle t fs) fs)

-- each fact of a list turns
unfoldable pub toggled : List Fact → List Fact → List Fact
toggled fs [] = fs
toggled fs (t ∷ ts) = toggled (toggle t fs) ts
