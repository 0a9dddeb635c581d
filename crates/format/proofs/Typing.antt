-- What rows 1 to 7 and 15 give of kinds: a book that passes the first five rows has a right schema, and the objects of a record are of its kinds.
use Prim.Native.Nat.{ℕ, ◌+◌, ◌-◌, ◌*◌, ◌≤◌, ◌<◌}
use native.Mathlib.Decide.{dec_lt}
use native.Mathlib.Omega.{arith}
use mathlib.Core.Path.{◌≡◌, refl}
use mathlib.Core.Bool.{true, false}
use mathlib.Core.List.{List}
use lib.Dec.{leb}
use borrow.Author.Tests.{leb-false, ltb-false, le-leb}
use Rattle.truth.specs.Bools.{neither}
use Rattle.answer.specs.Answer.{Good}
use Rattle.answer.specs.Walk.{walk}
use Rattle.answer.proofs.Entries.{entries_right}
use Rattle.input.specs.Bytes.{byte_at}
use Rattle.limits.specs.Limits.{header_size, max_params}
use Rattle.terms.specs.declared.Sections.{Sections}
use Rattle.terms.specs.Schema.{schema, move_at, out_of_range}
use Rattle.terms.specs.Typing.{RightSchema}
use Rattle.terms.proofs.Atoms.{range_out, four, parent_some, parent_none}
use Rattle.format.specs.Header.{parent_bad, kind_bad, move_bad}
use Rattle.format.specs.States.{cut}
use Rattle.format.specs.Records.{object}
use Rattle.format.proofs.Header.{SectionsGood}
use Rattle.format.specs.Order.{order_object}
use Rattle.format.proofs.Records.{object_entry}
use Rattle.format.proofs.Orders.{order_object_entry}

-- row 21: a parent is smaller than its kind
smaller : (s : List ℕ) (i : ℕ) → parent_bad s (header_size + 1 * i) ≡ false → byte_at s (header_size + i) < i + 1
unfolding parent_bad
smaller s i e =
    let w : header_size + 1 * i ≡ header_size + i = omega arith in
    let l = leb-false (header_size + i - header_size + 1) (byte_at s (header_size + i)) (rw w at e) in
    omega arith

-- row 5: a used parameter is of a kind that is there
kind_known : (s : List ℕ) (kinds i : ℕ) → kind_bad s kinds i true ≡ false → (1 ≤ byte_at s i) × (byte_at s i ≤ kinds)
unfolding kind_bad
kind_known s kinds i e = range_out kinds (byte_at s i) (neither (out_of_range kinds (byte_at s i)) _ e).0

param_known : (s : List ℕ) (kinds at : ℕ) → move_bad s kinds at ≡ false → (p : ℕ) → 1 ≤ p → p ≤ byte_at s at
    → (1 ≤ byte_at s (at + p)) × (byte_at s (at + p) ≤ kinds)
unfolding move_bad
param_known s kinds at e p low high =
    let a = neither _ _ e in
    let b = neither _ _ a.0 in
    let c = neither _ _ b.0 in
    let d = neither _ _ c.0 in
    let f = neither _ _ d.0 in
    let most = ltb-false max_params (byte_at s at) f.0 in
    four (λ i. i ≤ byte_at s at → (1 ≤ byte_at s (at + i)) × (byte_at s (at + i) ≤ kinds)) (used 1 f.1) (used 2 d.1) (used 3 c.1) (used 4 b.1)
    p low (omega arith) high
  where
    used : (i : ℕ) → kind_bad s kinds (at + i) (leb i (byte_at s at)) ≡ false → i ≤ byte_at s at → (1 ≤ byte_at s (at + i)) × (byte_at s (at + i) ≤ kinds)
    used i g l = kind_known s kinds (at + i) (rw (le-leb i (byte_at s at) l) at g)

-- Rows 1 to 5 give a right schema.
module _ (h : Sections) (s : List ℕ) (n : ℕ) (good : SectionsGood h s n) where
  falls : (k : ℕ) → 1 ≤ k → k ≤ h.kinds → (schema h s).parent k < k
  falls k low high = go (dec_lt (header_size + (k - 1)) h.relations.at)
    where
      go : Dec (header_size + (k - 1) < h.relations.at) → (schema h s).parent k < k
      go (yes l) = rw (parent_some h s k _ refl l) (omega (arith, smaller s (k - 1) (good.parents (k - 1) (omega arith))))
      go (no l) = rw (parent_none h s k _ refl (omega arith)) (omega arith)

  pub schema_right : RightSchema (schema h s)
  unfolding schema move_at
  schema_right =
      record {
        falling = record { few = good.counts.kinds; smaller = falls };
        params = λ m low high p some own.
            param_known s h.kinds _ (good.moves (m.0 - 1) (omega arith)) p.0 some own;
      }

-- The objects of a record and of an order are of kinds that are there.
pub objects_known : (s : List ℕ) (kinds end n at last : ℕ) → walk (object kinds s end) n at ≡ Good last
    → (x : ℕ) → 1 ≤ x → x ≤ n → (1 ≤ byte_at s (at + (x - 1))) × (byte_at s (at + (x - 1)) ≤ kinds)
objects_known s kinds end n at last e x low high =
    let w : at + 1 * (x - 1) ≡ at + (x - 1) = omega arith in
    let good = entries_right _ _ 7 1 (object_entry kinds s end) n at last e (x - 1) (omega arith) in
    range_out kinds _ (neither (cut end (at + (x - 1)) 1) _ (rw w at good)).1

pub order_objects_known : (o : List ℕ) (kinds n at last : ℕ) → walk (order_object kinds o) n at ≡ Good last
    → (x : ℕ) → 1 ≤ x → x ≤ n → (1 ≤ byte_at o (at + (x - 1))) × (byte_at o (at + (x - 1)) ≤ kinds)
order_objects_known o kinds n at last e x low high =
    let w : at + 1 * (x - 1) ≡ at + (x - 1) = omega arith in
    range_out kinds _ (rw w at (entries_right _ _ 15 1 (order_object_entry kinds o) n at last e (x - 1) (omega arith)))
