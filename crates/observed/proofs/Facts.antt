-- The facts that stand in one of two lists alone, by the next ones of both.
use mathlib.Core.Path.{◌≡◌}
use mathlib.Core.Bool.{true, false}
use mathlib.Core.List.{List, ◌∷◌}
use Rattle.terms.specs.declared.Fact.{Fact}
use Rattle.terms.specs.Facts.{precedes}
use Rattle.observed.specs.Inverse.{merge_from, in_one_alone}

module _ (f : Fact) (fs : List Fact) (g : Fact) (gs : List Fact) where
  pub alone_before : precedes f g ≡ true → in_one_alone (f ∷ fs) (g ∷ gs) ≡ f ∷ in_one_alone fs (g ∷ gs)
  unfolding in_one_alone merge_from
  alone_before e = rw e

  pub alone_after : precedes f g ≡ false → precedes g f ≡ true → in_one_alone (f ∷ fs) (g ∷ gs) ≡ g ∷ in_one_alone (f ∷ fs) gs
  unfolding in_one_alone merge_from
  alone_after e d = rw (e, d)

pub alone_both : (f : Fact) (fs gs : List Fact) → precedes f f ≡ false → in_one_alone (f ∷ fs) (f ∷ gs) ≡ in_one_alone fs gs
unfolding in_one_alone merge_from
alone_both f fs gs e = rw e
