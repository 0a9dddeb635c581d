-- The numbers of facts: a right fact's is counted by the domain, and two right facts over the same objects with one number are one fact.
use Prim.Native.Nat.{ℕ, ◌+◌, ◌-◌, ◌*◌, ◌≤◌, ◌<◌}
use mathlib.Core.Path.{◌≡◌, refl, sym, ◌∙◌}
use mathlib.Core.Bool.{Bool, true, false, ◌||◌}
use native.Mathlib.Omega.{arith}
use lib.Dec.{leb}
use Rattle.truth.specs.Bools.{neither}
use Rattle.terms.specs.declared.Object.{Object}
use Rattle.terms.specs.declared.Fact.{Fact}
use Rattle.terms.specs.Schema.{Schema, TypedObjects, out_of_range, object_bad}
use Rattle.terms.specs.Facts.{fact_bad, fact_number}
use Rattle.terms.proofs.Atoms.{range_out, fact_path}
use Rattle.limits.specs.Limits.{max_objects}
use Rattle.factsets.proofs.Suits.{used_out, unused_out, object_most}

-- three digits, of which the last two are under 16, are told by their number
pub digits_same : (a b c d e f : ℕ) → b < 16 → c < 16 → e < 16 → f < 16 → 256 * a + 16 * b + c ≡ 256 * d + 16 * e + f
    → (a ≡ d) × (b ≡ e) × (c ≡ f)
digits_same a b c d e f hb hc he hf q =
    let p : a ≡ d = omega arith in
    let r : b ≡ e = omega arith in
    (p, r, omega arith)

-- the three parts of the test on a fact
pub fact_parts : (sch : Schema) (ob : TypedObjects) (f : Fact) → fact_bad sch ob f ≡ false
    → (out_of_range sch.relations f.relation.0 ≡ false)
    × (object_bad sch ob (leb 1 (sch.places f.relation)) (sch.place_kind f.relation 1) f.first ≡ false)
    × (object_bad sch ob (leb 2 (sch.places f.relation)) (sch.place_kind f.relation 2) f.second ≡ false)
unfolding fact_bad
fact_parts sch ob f e =
    let nb : Bool = out_of_range sch.relations f.relation.0 in
    let one : Bool = object_bad sch ob (leb 1 (sch.places f.relation)) (sch.place_kind f.relation 1) f.first in
    let (both, second) = neither (nb || one) (object_bad sch ob (leb 2 (sch.places f.relation)) (sch.place_kind f.relation 2) f.second) e in
    let (number, first) = neither nb one both in
    (number, first, second)

module _ (sch : Schema) (ob : TypedObjects) (few : ob.count ≤ max_objects) where
  -- A right fact's number is under 256 for each relation.
  pub number_below : (f : Fact) → fact_bad sch ob f ≡ false → fact_number f < 256 * sch.relations
  unfolding fact_number
  number_below f e =
      let (number, first, second) = fact_parts sch ob f e in
      let (low, high) = range_out sch.relations f.relation.0 number in
      let one = object_most sch ob _ f.first _ first in
      let two = object_most sch ob _ f.second _ second in
      omega arith

  -- what stands in a place of two right facts of one relation is the same if its number from 0 is
  place_same : (used : Bool) (named : ℕ) (x y : Object) → object_bad sch ob used named x ≡ false → object_bad sch ob used named y ≡ false
      → x.0 - 1 ≡ y.0 - 1 → x.0 ≡ y.0
  place_same true named x y e h q = omega (arith, used_out sch ob named x true e refl, used_out sch ob named y true h refl)
  place_same false named x y e h q = unused_out sch ob named x false e refl ∙ sym (unused_out sch ob named y false h refl)

  -- Two right facts over the same objects with equal numbers are equal.
  pub number_injective : (f g : Fact) → fact_bad sch ob f ≡ false → fact_bad sch ob g ≡ false → fact_number f ≡ fact_number g → f ≡ g
  unfolding fact_number
  number_injective f g e h q =
      let (number, first, second) = fact_parts sch ob f e in
      let (number', first', second') = fact_parts sch ob g h in
      let (low, high) = range_out sch.relations f.relation.0 number in
      let (low', high') = range_out sch.relations g.relation.0 number' in
      let one = object_most sch ob _ f.first _ first in
      let two = object_most sch ob _ f.second _ second in
      let one' = object_most sch ob _ g.first _ first' in
      let two' = object_most sch ob _ g.second _ second' in
      let (r, x, y) = digits_same (f.relation.0 - 1) (f.first.0 - 1) (f.second.0 - 1) (g.relation.0 - 1) (g.first.0 - 1) (g.second.0 - 1)
      (omega arith) (omega arith) (omega arith) (omega arith) q
      in
      let same : f.relation.0 ≡ g.relation.0 = omega arith in
      let relation : f.relation ≡ g.relation = λ i. record { 0 = same i } in
      fact_path f g same
      (place_same _ _ f.first g.first first (rw relation first') x)
      (place_same _ _ f.second g.second second (rw relation second') y)
