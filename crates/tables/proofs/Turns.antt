-- Laws of the two tables for the functions that make them: the objects below a number are in the one, the relations in the other.
use Prim.Native.Nat.{ℕ, ◌+◌, ◌<◌, ◌≤◌}
use mathlib.Core.Path.{◌≡◌, refl, ◌∙◌}
use mathlib.Core.Bool.{Bool, true, false, cond, ◌&&◌, ◌||◌, not, and-false, or-false}
use mathlib.Core.List.{List}
use native.Mathlib.Decide.{ℕ_discrete}
use native.Mathlib.Omega.{arith}
use borrow.Author.Tests.{ltb-true, ltb-false, lt-ltb, le-ltb, le-leb, lt-leb, eq-eqb, ne_eqb}
use lib.Dec.{eqb, ltb, leb}
use lib.ListN.{length}
use Rattle.mask.specs.Sets.{empty}
use Rattle.mask.proofs.Laws.{length_empty}
use Rattle.mask.proofs.Whole.{ltb_next}
use Rattle.objectset.specs.Sets.{member, entry, stored}
use Rattle.objectset.proofs.Laws.{member_none, entry_empty, stored_same, stored_other, length_stored}
use Rattle.terms.specs.Schema.{Schema, out_of_range, kind_suits}
use Rattle.tables.specs.Tables.{Joined}

-- ---- numbers from 1 to below n
unfoldable pub below : ℕ → ℕ → Bool
below n x = leb 1 x && ltb x n

below_none : (x : ℕ) (b : Bool) → ltb x 1 ≡ b → (leb 1 x && b) ≡ false
below_none x true e = let h = ltb-true x 1 e in rw (lt-leb 1 x h) refl
below_none x false e = and-false (leb 1 x)

below_one : (x : ℕ) → below 1 x ≡ false
unfolding below
below_one x = below_none x (ltb x 1) refl

below_self : (n : ℕ) → below n n ≡ false
unfolding below
below_self n = rw (le-ltb n n (omega arith)) (and-false (leb 1 n))

below_new : (n : ℕ) → 1 ≤ n → below (n + 1) n ≡ true
unfolding below
below_new n h = rw (le-leb 1 n h, lt-ltb n (n + 1) (omega arith)) refl

below_other : (n x : ℕ) → (n ≡ x → ⊥) → below (n + 1) x ≡ below n x
unfolding below
below_other n x d = rw (ltb_next n x d) refl

-- all numbers up to a count: those that are not bad
below_bools : (count n x : ℕ) (a b : Bool)
    → ltb x 1 ≡ a
    → ltb count x ≡ b
    → (x ≤ count → x < n)
    → (count < x → n ≤ x)
    → below n x ≡ not (a || b)
unfolding below
below_bools count n x true b e f g i = let h = ltb-true x 1 e in rw (lt-leb 1 x h) refl
below_bools count n x false true e f g i =
    let h = ltb-true count x f in
    rw (le-ltb x n (i h)) (and-false (leb 1 x))
below_bools count n x false false e f g i =
    let h = ltb-false x 1 e in
    let j = ltb-false count x f in
    rw (le-leb 1 x h, lt-ltb x n (g j)) refl

pub below_all : (count n x : ℕ) → (x ≤ count → x < n) → (count < x → n ≤ x) → below n x ≡ not (out_of_range count x)
unfolding out_of_range
below_all count n x g i = below_bools count n x (ltb x 1) (ltb count x) refl refl g i

-- ---- the table by kind, when the objects below n are in it
unfoldable pub RightByKindTo : Schema → (ℕ → ℕ) → ℕ → List ℕ → Type 0
RightByKindTo sch kind n ks = (length ks ≡ 256) × ((k x : ℕ) → member (entry ks k) x ≡ (below n x && kind_suits sch k (kind x)))

module _ (sch : Schema) (kind : ℕ → ℕ) where
  pub kinds_none : (ks : List ℕ) → ks ≡ empty 256 → RightByKindTo sch kind 1 ks
  unfolding RightByKindTo
  kinds_none ks e = rw e (length_empty 256, λ k x. rw (entry_empty 256 k, below_one x) (member_none x))

  pub kinds_turn : (n j : ℕ) (ks new : List ℕ) → RightByKindTo sch kind n ks → 1 ≤ n → j ≡ kind n → Joined sch j n ks new → RightByKindTo sch kind (n + 1) new
  unfolding RightByKindTo Joined
  kinds_turn n j ks new i h e g = (g.0 ∙ i.0, λ k x. g.1 k x ∙ by k x (ℕ_discrete n x))
    where
      by : (k x : ℕ) → Dec (n ≡ x) → (member (entry ks k) x || eqb n x && kind_suits sch k j) ≡ (below (n + 1) x && kind_suits sch k (kind x))
      by k x (yes q) = rw (← q, i.1 k n, below_self n, below_new n h, eq-eqb n n refl, e) refl
      by k x (no d) = rw (ne_eqb n x d, or-false (member (entry ks k) x), below_other n x d) (i.1 k x)

-- ---- the table by relation, when the relations below n are in it
unfoldable pub RowsTo : (ℕ → ℕ) → (ℕ → ℕ) → ℕ → List ℕ → Type 0
RowsTo first second n t =
    (length t ≡ 512)
    × ((q : ℕ) → q < 256 → (entry t q ≡ cond (below n q) (first q) 0) × (entry t (256 + q) ≡ cond (below n q) (second q) 0))

module _ (first second : ℕ → ℕ) where
  pub rows_none : (t : List ℕ) → t ≡ empty 512 → RowsTo first second 1 t
  unfolding RowsTo
  rows_none t e = rw e (length_empty 512, λ q h. rw (below_one q) (entry_empty 512 q, entry_empty 512 (256 + q)))

  row_at : (n : ℕ) (t : List ℕ) → RowsTo first second n t → 1 ≤ n → n < 256 → (q : ℕ) → q < 256 → Dec (n ≡ q)
      → (entry (stored (stored t n (first n)) (256 + n) (second n)) q ≡ cond (below (n + 1) q) (first q) 0)
      × (entry (stored (stored t n (first n)) (256 + n) (second n)) (256 + q) ≡ cond (below (n + 1) q) (second q) 0)
  unfolding RowsTo
  row_at n t i h l q k (yes e) =
      rw (← e, below_new n h) (
        stored_other (stored t n (first n)) (256 + n) (second n) n (λ (j : 256 + n ≡ n). omega arith) ∙ stored_same t n (first n) (omega arith),
        stored_same (stored t n (first n)) (256 + n) (second n) (omega (arith, length_stored t n (first n))),
      )
  row_at n t i h l q k (no d) =
      rw (below_other n q d) (
        stored_other (stored t n (first n)) (256 + n) (second n) q (λ (j : 256 + n ≡ q). omega arith) ∙ stored_other t n (first n) q d ∙ (i.1 q k).0,
        stored_other (stored t n (first n)) (256 + n) (second n) (256 + q) (λ (j : 256 + n ≡ 256 + q). d (omega arith))
            ∙ stored_other t n (first n) (256 + q) (λ (j : n ≡ 256 + q). omega arith) ∙ (i.1 q k).1,
      )

  pub rows_turn : (n a b : ℕ) (t mid new : List ℕ) → RowsTo first second n t → 1 ≤ n → n < 256
      → a ≡ first n → b ≡ second n → mid ≡ stored t n a → new ≡ stored mid (256 + n) b → RowsTo first second (n + 1) new
  unfolding RowsTo
  rows_turn n a b t mid new i h l e f g j =
      rw (j, g, e, f)
      (length_stored (stored t n (first n)) (256 + n) (second n) ∙ length_stored t n (first n) ∙ i.0, λ q k. row_at n t i h l q k (ℕ_discrete n q))
