-- What a whole table says: that the table by kind tells which objects suit and which steps are wrong, and the table by relation which facts are.
use Prim.Native.Nat.{ℕ, ◌+◌, ◌<◌, ◌≤◌}
use mathlib.Core.Path.{◌≡◌, refl, sym, ap, ◌∙◌}
use mathlib.Core.Bool.{Bool, true, false, cond, ◌&&◌, ◌||◌, not, or-false, not-not}
use mathlib.Core.List.{List, [], ◌∷◌}
use native.Mathlib.Omega.{arith}
use borrow.Author.Tests.{le-leb, lt-leb}
use lib.Dec.{eqb, leb}
use Rattle.std.specs.Prelude.{min}
use Rattle.std.specs.List.{list_all}
use Rattle.std.specs.Ordering.{ord_min, nat_cmp}
use Rattle.std.proofs.lemmas.Bool.Decides.{nat_tests}
use Rattle.objectset.specs.declared.Asked.{Asked}
use Rattle.objectset.specs.Sets.{member, is_in, entry}
use Rattle.objectset.proofs.Laws.{member_none, member_one}
use Rattle.terms.specs.declared.Object.{Object}
use Rattle.terms.specs.declared.Relation.{Relation}
use Rattle.terms.specs.declared.Step.{Step}
use Rattle.terms.specs.Steps.{object_of, argument_bad}
use Rattle.terms.specs.Schema.{Schema, TypedObjects, out_of_range, kind_suits, object_bad}
use Rattle.terms.specs.Facts.{fact_bad}
use Rattle.terms.specs.Told.{suits}
use Rattle.tables.specs.Tables.{RightByKind, place_set, RightByPlace, RightFrom, argument}
use Rattle.tables.proofs.Turns.{below_all, RightByKindTo, RowsTo}

-- ---- one place
module _ (sch : Schema) (ks : List ℕ) (r : Relation) (i places : ℕ) (is : places ≡ sch.places r) where
  pub place_used : (k : ℕ) → k ≡ sch.place_kind r i → i ≤ places → place_set sch ks r i ≡ entry ks k
  unfolding place_set
  place_used k e l = rw (← is, ← e, le-leb i places l) refl

  pub place_unused : places < i → place_set sch ks r i ≡ 1
  unfolding place_set
  place_unused l = rw (← is, lt-leb i places l) refl

-- ---- the table by kind
pub kinds_right : (sch : Schema) (ob : TypedObjects) (n : ℕ) (ks : List ℕ) → n ≡ ob.count + 1 → RightByKindTo sch (λ x. ob.kind (record { 0 = x })) n ks → RightByKind sch ob ks
unfolding RightByKind RightByKindTo
kinds_right sch ob n ks e i k x =
    i.1 k x.0 ∙ ap (λ (b : Bool). b && kind_suits sch k (ob.kind x)) (below_all ob.count n x.0 (λ l. omega arith) (λ l. omega arith))

none_of : (a b c d : Bool) → not (not a && (not b && (not c && (not d && true)))) ≡ (a || b || c || d)
none_of true b c d = refl
none_of false true c d = refl
none_of false false true d = refl
none_of false false false true = refl
none_of false false false false = refl

both_good : (a s : Bool) → (not a && s) ≡ not (a || not s)
both_good true s = refl
both_good false true = refl
both_good false false = refl

module _ (sch : Schema) (ob : TypedObjects) (ks : List ℕ) (right : RightByKind sch ob ks) where
  object_in_lem : (named : ℕ) (x : Object) → member (entry ks named) x.0 ≡ not (out_of_range ob.count x.0 || not (kind_suits sch named (ob.kind x)))
  unfolding RightByKind
  object_in_lem named x = right named x ∙ both_good (out_of_range ob.count x.0) (kind_suits sch named (ob.kind x))

  place_in : (used : Bool) (named : ℕ) (x : Object) → member (cond used (entry ks named) 1) x.0 ≡ not (object_bad sch ob used named x)
  unfolding object_bad
  place_in true named x =
      rw (or-false (out_of_range ob.count x.0 || not (kind_suits sch named (ob.kind x)))) (object_in_lem named x)
  place_in false named x = member_one x.0 ∙ sym (not-not (eqb x.0 0))

  -- an object is in the set that suits its parameter, unless it is wrong there
  argument_in : (st : Step) (i : ℕ)
      → is_in (argument ks (sch.params st.action) i (sch.param_kind st.action (record { 0 = i })) st.binding) ≡ not (argument_bad sch ob st i)
  unfolding is_in argument argument_bad
  argument_in st i = place_in (leb i (sch.params st.action)) (sch.param_kind st.action (record { 0 = i })) (object_of st.binding (record { 0 = i }))

  pub arguments_bad : (st : Step)
      → (let a : ℕ → Asked = λ i. argument ks (sch.params st.action) i (sch.param_kind st.action (record { 0 = i })) st.binding in
      not (list_all is_in (a 1 ∷ a 2 ∷ a 3 ∷ a 4 ∷ [])))
      ≡ (argument_bad sch ob st 1 || argument_bad sch ob st 2 || argument_bad sch ob st 3 || argument_bad sch ob st 4)
  arguments_bad st =
      rw (argument_in st 1, argument_in st 2, argument_in st 3, argument_in st 4)
      (none_of (argument_bad sch ob st 1) (argument_bad sch ob st 2) (argument_bad sch ob st 3) (argument_bad sch ob st 4))

  pub place_set_in : (r : Relation) (i : ℕ) (x : Object)
      → member (place_set sch ks r i) x.0 ≡ not (object_bad sch ob (leb i (sch.places r)) (sch.place_kind r i) x)
  unfolding place_set
  place_set_in r i x = place_in (leb i (sch.places r)) (sch.place_kind r i) x

  either : (n a b : Bool) (p q x y : ℕ)
      → member p x ≡ not a
      → member q y ≡ not b
      → not (member (cond (not n) p 0) x && member (cond (not n) q 0) y) ≡ (n || a || b)
  either true a b p q x y e f = rw (member_none x) refl
  either false true b p q x y e f = rw e refl
  either false false true p q x y e f = rw (e, f) refl
  either false false false p q x y e f = rw (e, f) refl

  rows_right : (n : ℕ) (t : List ℕ)
      → n ≤ sch.relations + 1
      → ((x : ℕ) → x < 256 → x ≤ sch.relations → x < n)
      → RowsTo (λ q. place_set sch ks (record { 0 = q }) 1) (λ q. place_set sch ks (record { 0 = q }) 2) n t
      → RightByPlace sch ob t
  unfolding RightByPlace RowsTo suits fact_bad
  rows_right n t l g i f k =
      let r = f.relation.0 in
      let b = below_all sch.relations n r (g r k) (λ m. omega arith) in
      rw ((i.1 r k).0, (i.1 r k).1, b)
      (either (out_of_range sch.relations r) _ _ _ _ _ _ (place_set_in f.relation 1 f.first) (place_set_in f.relation 2 f.second))

-- the smaller of two numbers as code takes it
pub min_is : (a b : ℕ) → ord_min nat_cmp a b ≡ min a b
min_is a b = grind (arith, nat_tests)

-- the last relation that is looked at is the last one, or the last one that a byte can name
pub rows_follow : (sch : Schema) (ks : List ℕ) (n : ℕ) (t : List ℕ)
    → n ≡ min 256 (sch.relations + 1)
    → RowsTo (λ q. place_set sch ks (record { 0 = q }) 1) (λ q. place_set sch ks (record { 0 = q }) 2) n t
    → RightFrom sch ks t
unfolding RightFrom
rows_follow sch ks n t e i ob right = rows_right sch ob ks right n t (omega arith) (λ x h l. omega arith) i
