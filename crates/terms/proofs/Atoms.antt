-- Laws of the tests on numbers, facts and bound facts (lifted atoms), with no step: what each says in plain numbers, and how a bound fact is told.
use Prim.Native.Nat.{ℕ, zero, suc, ◌+◌, ◌-◌, ◌*◌, ◌/◌, ◌%◌, ◌≤◌, ◌<◌}
use mathlib.Core.Path.{◌≡◌, sym, ◌∙◌}
use mathlib.Core.Logic.{◌⊎◌, inl, inr}
use mathlib.Core.Bool.{Bool, true, false, ◌&&◌, ◌||◌}
use native.Mathlib.Omega.{arith}
use lib.Dec.{eqb, ltb, leb}
use borrow.Author.Tests.{ltb-false, leb-true, leb-false, le-leb, lt-ltb, le-ltb, eqb-true, eq-eqb}
use Rattle.truth.specs.Bools.{clash, and_in, and_out, or_right, or_out, neither}
use mathlib.Core.List.{List}
use Rattle.input.specs.Bytes.{byte_at}
use Rattle.limits.specs.Limits.{header_size}
use Rattle.terms.specs.declared.Sections.{Sections}
use Rattle.terms.specs.declared.Param.{Param}
use Rattle.terms.specs.declared.Relation.{Relation}
use Rattle.terms.specs.declared.Move.{Move}
use Rattle.terms.specs.declared.Fact.{Fact}
use Rattle.terms.specs.Schema.{Schema, out_of_range, parent_at, schema, kind_suits}
use Rattle.terms.specs.Steps.{atom_relation, atom_first, atom_second, parameter_fills, is_atom}

pub range_out : (count n : ℕ) → out_of_range count n ≡ false → (1 ≤ n) × (n ≤ count)
unfolding out_of_range
range_out count n e =
    let (low, high) = neither (ltb n 1) (ltb count n) e in
    (ltb-false n 1 low, ltb-false count n high)

pub range_in : (count n : ℕ) → 1 ≤ n → n ≤ count → out_of_range count n ≡ false
unfolding out_of_range
range_in count n low high = rw (le-ltb n 1 low, le-ltb count n high)

-- what holds of 1, 2, 3 and 4 holds of each number from 1 to 4
pub four : (Q : ℕ → Type 0) → Q 1 → Q 2 → Q 3 → Q 4 → (i : ℕ) → 1 ≤ i → i ≤ 4 → Q i
four Q a b c d zero low high = absurd (omega arith)
four Q a b c d (suc zero) low high = a
four Q a b c d (suc (suc zero)) low high = b
four Q a b c d (suc (suc (suc zero))) low high = c
four Q a b c d (suc (suc (suc (suc zero)))) low high = d
four Q a b c d (suc (suc (suc (suc (suc i))))) low high = absurd (omega arith)

-- the parent of a kind stands before the relations, or there is none
pub parent_some : (h : Sections) (s : List ℕ) (kind at : ℕ) → at ≡ header_size + (kind - 1) → at < h.relations.at → (schema h s).parent kind ≡ byte_at s at
unfolding schema parent_at
parent_some h s kind at e l = rw (e, lt-ltb (header_size + (kind - 1)) h.relations.at (omega arith))

pub parent_none : (h : Sections) (s : List ℕ) (kind at : ℕ) → at ≡ header_size + (kind - 1) → h.relations.at ≤ at → (schema h s).parent kind ≡ 0
unfolding schema parent_at
parent_none h s kind at e l = rw (le-ltb (header_size + (kind - 1)) h.relations.at (omega arith))

-- a fact is told by its three numbers
pub fact_path : (f g : Fact) → f.relation.0 ≡ g.relation.0 → f.first.0 ≡ g.first.0 → f.second.0 ≡ g.second.0 → f ≡ g
fact_path f g p q r = λ i. record { relation = record { 0 = p i }; first = record { 0 = q i }; second = record { 0 = r i } }

-- ---- the numbers of bound facts

-- the parameters of a bound fact count from 1 to 4
pub first_range : (n : ℕ) → (1 ≤ (atom_first n).0) × ((atom_first n).0 ≤ 4)
unfolding atom_first
first_range n = (omega arith, omega arith)

pub second_range : (n : ℕ) → (1 ≤ (atom_second n).0) × ((atom_second n).0 ≤ 4)
unfolding atom_second
second_range n = (omega arith, omega arith)

pub relation_from_1 : (n : ℕ) → 1 ≤ (atom_relation n).0
unfolding atom_relation
relation_from_1 n = omega arith

-- the number of a bound fact
unfoldable pub atom_number : ℕ → ℕ → ℕ → ℕ
atom_number r p q = 16 * (r - 1) + 4 * (p - 1) + (q - 1)

pub atom_number_lem : (n : ℕ) → atom_number (atom_relation n).0 (atom_first n).0 (atom_second n).0 ≡ n
unfolding atom_number atom_relation atom_first atom_second
atom_number_lem n = omega arith

-- a bound fact is told by its relation and its parameters
pub atom_same : (m n : ℕ) → (atom_relation m).0 ≡ (atom_relation n).0 → (atom_first m).0 ≡ (atom_first n).0 → (atom_second m).0 ≡ (atom_second n).0 → m ≡ n
atom_same m n r p q = sym (atom_number_lem m) ∙ rw (r, p, q) (atom_number_lem n)

-- and back: each part asks only what it needs, since an unused place adds nothing whatever stands in it
module _ (r p q : ℕ) (high : p ≤ 4) (high' : q ≤ 4) where
  pub number_relation : 1 ≤ r → atom_relation (atom_number r p q) ≡ record { 0 = r }
  unfolding atom_relation atom_number
  number_relation some =
      let e : (16 * (r - 1) + 4 * (p - 1) + (q - 1)) / 16 + 1 ≡ r = omega arith in
      λ i. record { 0 = e i }

  pub number_first : 1 ≤ p → atom_first (atom_number r p q) ≡ record { 0 = p }
  unfolding atom_first atom_number
  number_first low =
      let e : (16 * (r - 1) + 4 * (p - 1) + (q - 1)) / 4 % 4 + 1 ≡ p = omega arith in
      λ i. record { 0 = e i }

  pub number_second : 1 ≤ q → atom_second (atom_number r p q) ≡ record { 0 = q }
  unfolding atom_second atom_number
  number_second low =
      let e : (16 * (r - 1) + 4 * (p - 1) + (q - 1)) % 4 + 1 ≡ q = omega arith in
      λ i. record { 0 = e i }

-- ---- parameters in places

-- one of two guarded cases, where the other one's guard fails
case_left : (u x y v w : Bool) → (u && x && y || v && w) ≡ true → v ≡ false → (x ≡ true) × (y ≡ true)
case_left u x y v w e h = go (or_out (u && x && y) (v && w) e)
  where
    go : ((u && x && y) ≡ true) ⊎ ((v && w) ≡ true) → (x ≡ true) × (y ≡ true)
    go (inl k) = let (l, r) = and_out (u && x) y k in ((and_out u x l).1, r)
    go (inr k) = clash v (and_out v w k).0 h

case_right : (u x y v w : Bool) → (u && x && y || v && w) ≡ true → u ≡ false → w ≡ true
case_right u x y v w e h = (and_out v w (rw h at e)).1

module _ (sch : Schema) (m : Move) (r : Relation) (i : ℕ) (p : Param) where
  -- a parameter in a used place is one of the move's, of a kind that suits; in an unused place it is 1
  pub fills_used : parameter_fills sch m r i p ≡ true → leb i (sch.places r) ≡ true
      → (p.0 ≤ sch.params m) × (kind_suits sch (sch.place_kind r i) (sch.param_kind m p) ≡ true)
  unfolding parameter_fills
  fills_used e u =
      let off = le-ltb (sch.places r) i (leb-true i (sch.places r) u) in
      let (own, suits) = case_left (leb i (sch.places r)) (leb p.0 (sch.params m)) (kind_suits sch (sch.place_kind r i) (sch.param_kind m p))
      (ltb (sch.places r) i) (eqb p.0 1) e off
      in
      (leb-true p.0 (sch.params m) own, suits)

  pub fills_unused : parameter_fills sch m r i p ≡ true → leb i (sch.places r) ≡ false → p.0 ≡ 1
  unfolding parameter_fills
  fills_unused e u =
      eqb-true p.0 1
      (case_right (leb i (sch.places r)) (leb p.0 (sch.params m)) (kind_suits sch (sch.place_kind r i) (sch.param_kind m p)) (ltb (sch.places r) i)
      (eqb p.0 1) e u)

  pub fills_in_used : leb i (sch.places r) ≡ true → p.0 ≤ sch.params m → kind_suits sch (sch.place_kind r i) (sch.param_kind m p) ≡ true
      → parameter_fills sch m r i p ≡ true
  unfolding parameter_fills
  fills_in_used u own suits = rw (u, le-leb p.0 (sch.params m) own, suits)

  pub fills_in_unused : leb i (sch.places r) ≡ false → p.0 ≡ 1 → parameter_fills sch m r i p ≡ true
  unfolding parameter_fills
  fills_in_unused u one =
      or_right (leb i (sch.places r) && leb p.0 (sch.params m) && kind_suits sch (sch.place_kind r i) (sch.param_kind m p)) _
      (and_in (ltb (sch.places r) i) (eqb p.0 1) (lt-ltb (sch.places r) i (leb-false i (sch.places r) u)) (eq-eqb p.0 1 one))

-- ---- which numbers are bound facts of a move

-- what the test on a bound fact of a move says
pub record AtomParts (sch : Schema) (a n : ℕ) : Type 0 where
  pub from_1 : 1 ≤ a
  pub known : a ≤ sch.moves
  pub relation : (atom_relation n).0 ≤ sch.relations
  pub first : parameter_fills sch (record { 0 = a }) (atom_relation n) 1 (atom_first n) ≡ true
  pub second : parameter_fills sch (record { 0 = a }) (atom_relation n) 2 (atom_second n) ≡ true

module _ (sch : Schema) (a n : ℕ) where
  pub atom_out : is_atom sch a n ≡ true → AtomParts sch a n
  unfolding is_atom
  atom_out e =
      let r : Bool = leb (atom_relation n).0 sch.relations in
      let x : Bool = parameter_fills sch (record { 0 = a }) (atom_relation n) 1 (atom_first n) in
      let y : Bool = parameter_fills sch (record { 0 = a }) (atom_relation n) 2 (atom_second n) in
      let (four, second) = and_out (leb 1 a && leb a sch.moves && r && x) y e in
      let (three, first) = and_out (leb 1 a && leb a sch.moves && r) x four in
      let (two, relation) = and_out (leb 1 a && leb a sch.moves) r three in
      let (low, high) = and_out (leb 1 a) (leb a sch.moves) two in
      record {
        from_1 = leb-true 1 a low;
        known = leb-true a sch.moves high;
        relation = leb-true (atom_relation n).0 sch.relations relation;
        first = first;
        second = second;
      }

  pub atom_in : AtomParts sch a n → is_atom sch a n ≡ true
  unfolding is_atom
  atom_in h =
      rw (le-leb 1 a h.from_1, le-leb a sch.moves h.known, le-leb (atom_relation n).0 sch.relations h.relation, h.first, h.second)

  -- bound facts number 16 to a relation
  pub atom_below : is_atom sch a n ≡ true → n < 16 * sch.relations
  unfolding atom_relation
  atom_below atom = omega (arith, (atom_out atom).relation)
