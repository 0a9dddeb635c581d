-- Two facts, or two lists of facts, that the test finds to be the same are the same, and the other way round.
use mathlib.Core.Path.{◌≡◌, refl}
use mathlib.Core.Bool.{true, ◌&&◌}
use mathlib.Core.List.{List, [], ◌∷◌}
use lib.Dec.{eqb}
use borrow.Author.Tests.{eqb-true, eq-eqb}
use Rattle.truth.specs.Bools.{clash, and_out}
use Rattle.terms.specs.declared.Fact.{Fact}
use Rattle.terms.specs.Facts.{same_fact, same_facts}
use Rattle.terms.proofs.Atoms.{fact_path}

pub same_fact_lem : (f g : Fact) → same_fact f g ≡ true → f ≡ g
unfolding same_fact
same_fact_lem f g e =
    let (two, y) = and_out (eqb f.relation.0 g.relation.0 && eqb f.first.0 g.first.0) (eqb f.second.0 g.second.0) e in
    let (r, x) = and_out (eqb f.relation.0 g.relation.0) (eqb f.first.0 g.first.0) two in
    fact_path f g (eqb-true _ _ r) (eqb-true _ _ x) (eqb-true _ _ y)

pub fact_same : (f : Fact) → same_fact f f ≡ true
unfolding same_fact
fact_same f = rw (eq-eqb f.relation.0 _ refl, eq-eqb f.first.0 _ refl, eq-eqb f.second.0 _ refl)

pub same_facts_lem : (fs gs : List Fact) → same_facts fs gs ≡ true → fs ≡ gs
unfolding same_facts
same_facts_lem [] [] e = refl
same_facts_lem [] (g ∷ gs) e = clash _ e refl
same_facts_lem (f ∷ fs) [] e = clash _ e refl
same_facts_lem (f ∷ fs) (g ∷ gs) e = let (h, t) = and_out (same_fact f g) (same_facts fs gs) e in rw (same_fact_lem f g h, same_facts_lem fs gs t)

pub facts_same : (fs : List Fact) → same_facts fs fs ≡ true
unfolding same_facts
facts_same [] = refl
facts_same (f ∷ fs) = rw (fact_same f) (facts_same fs)
