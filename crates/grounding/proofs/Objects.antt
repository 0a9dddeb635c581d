-- The groups and columns of a step's objects, and the fact that a relation's bound fact is by them.
use Prim.Native.Nat.{ℕ, zero, suc, ◌+◌, ◌-◌, ◌/◌, ◌%◌, ◌≤◌, ◌<◌}
use native.Mathlib.Decide.{dec_lt}
use native.Mathlib.Omega.{arith}
use mathlib.Core.Path.{◌≡◌, refl, ◌∙◌}
use mathlib.Core.Bool.{Bool, true, false, cond}
use mathlib.Core.List.{List, [], ◌∷◌}
use lib.Dec.{leb}
use lib.ListN.{length, get_or, get_or-eq_default}
use Rattle.terms.specs.declared.Param.{Param}
use Rattle.terms.specs.declared.Relation.{Relation}
use Rattle.terms.specs.declared.Binding.{Binding}
use Rattle.terms.specs.Schema.{Schema}
use Rattle.terms.specs.Steps.{object_of, placed, ground, atom_relation, atom_first, atom_second}
use Rattle.factgroups.specs.declared.Placement.{Placement}
use Rattle.factgroups.specs.Groups.{StartsRelation, Indices, unused, in_place, placement_of, Within, facts}
use Rattle.grounding.specs.Grounding.{Bounded, indices, Placed}
use Rattle.factgroups.proofs.Groups.{unused_at, place_small, group_at, table_place}

four : (xs : List ℕ) → length xs ≡ 4 → xs ≡ (get_or xs 0 0 ∷ get_or xs 1 0 ∷ get_or xs 2 0 ∷ get_or xs 3 0 ∷ [])
four [] e = absurd (omega arith)
four (x ∷ []) e = absurd (omega arith)
four (x ∷ y ∷ []) e = absurd (omega arith)
four (x ∷ y ∷ z ∷ []) e = absurd (omega arith)
four (x ∷ y ∷ z ∷ w ∷ []) e = refl
four (x ∷ y ∷ z ∷ w ∷ v ∷ xs) e = absurd (omega arith)

-- ---- the objects of a binding
module _ (b : Binding) where
  index_at : (p : ℕ) → p < 4 → get_or (indices b) p 0 ≡ (object_of b (record { 0 = p + 1 })).0 - 1
  unfolding indices
  index_at zero h = refl
  index_at (suc zero) h = refl
  index_at (suc (suc zero)) h = refl
  index_at (suc (suc (suc zero))) h = refl
  index_at (suc (suc (suc (suc p)))) h = absurd (omega arith)

  pub indices_small : Bounded b → Indices (indices b)
  unfolding indices
  indices_small bounded q = go (dec_lt q 4)
    where
      go : Dec (q < 4) → get_or (indices b) q 0 < 16
      go (yes h) = let small = bounded (record { 0 = q + 1 }) (omega arith) (omega arith) in omega (arith, index_at q h)
      go (no h) = omega (arith, get_or-eq_default (indices b) 0 {n = q} (omega arith))

  -- four numbers, each by the object that is its parameter's
  pub indices_by : Bounded b → (xs : List ℕ) → length xs ≡ 4 → ((i : ℕ) → i < 4 → get_or xs i 0 ≡ (get_or b.objects i (record { 0 = 0 })).0 - 1)
      → (xs ≡ indices b) × Indices xs
  unfolding indices object_of
  indices_by bounded xs long at =
      let e : xs ≡ indices b = four xs long ∙ rw (at 0 (omega arith), at 1 (omega arith), at 2 (omega arith), at 3 (omega arith)) in
      (e, rw e (indices_small bounded))

  placed_small : (sch : Schema) → Bounded b → (r : Relation) (i : ℕ) (p : Param) → 1 ≤ p.0 → p.0 ≤ 4 → placed sch b r i p < 16
  unfolding placed
  placed_small sch bounded r i p low high = go (leb i (sch.places r)) (bounded p low high)
    where
      go : (used : Bool) → (object_of b p).0 ≤ 16 → cond used ((object_of b p).0 - 1) 0 < 16
      go true h = omega arith
      go false h = omega arith

  module _ (sch : Schema) (r : Relation) where
    placed_at : (i p : ℕ) → p < 4 → get_or (in_place (sch.places r) i (indices b)) p 0 ≡ placed sch b r i (record { 0 = p + 1 })
    unfolding in_place placed
    placed_at i p h = go (leb i (sch.places r))
      where
        go : (used : Bool) → get_or (cond used (indices b) unused) p 0 ≡ cond used ((object_of b (record { 0 = p + 1 })).0 - 1) 0
        go true = index_at p h
        go false = unused_at p

  -- A relation's bound fact is the fact in the group and the column of its two parameters.
  pub fact_ground : (sch : Schema) (n j places : ℕ) → StartsRelation n → j < 16 → places ≡ sch.places (atom_relation n)
      → facts (placement_of places (indices b) n) (in_place places 2 (indices b)) j ≡ ground sch b (n + j)
  unfolding facts placement_of ground atom_relation atom_first atom_second
  fact_ground sch n j places first h e =
      let w = first.whole in
      let r : (n + j) / 16 ≡ n / 16 = omega arith in
      let f : (n + j) / 4 % 4 ≡ j / 4 = omega arith in
      let s : (n + j) % 4 ≡ j % 4 = omega arith in
      rw (group_at n (in_place places 1 (indices b)) (j / 4) (omega arith), r, f, s, e, placed_at sch (record { 0 = n / 16 + 1 }) 1 (j / 4) (omega arith), placed_at sch (record { 0 = n / 16 + 1 }) 2 (j % 4) (omega arith))
      (omega arith)

  pub ground_relation : (sch : Schema) → Bounded b → (n : ℕ) → ground sch b n / 256 ≡ n / 16
  unfolding ground atom_relation atom_first atom_second
  ground_relation sch bounded n =
      let first = placed_small sch bounded (record { 0 = n / 16 + 1 }) 1 (record { 0 = n / 4 % 4 + 1 }) (omega arith) (omega arith) in
      let second = placed_small sch bounded (record { 0 = n / 16 + 1 }) 2 (record { 0 = n % 4 + 1 }) (omega arith) (omega arith) in
      omega arith

pub indices_inside : (b : Binding) (xs : List ℕ) → Bounded b → xs ≡ indices b → Indices xs
indices_inside b xs bounded e = rw e (indices_small b bounded)

-- a relation's bound facts are where its places say
pub placed_by_lem : (sch : Schema) (places : ℕ) (xs : List ℕ) (n : ℕ) (p : Placement) → StartsRelation n → places ≡ sch.places (atom_relation n)
    → p ≡ placement_of places xs n → Within p → Placed sch xs n p
unfolding placement_of
placed_by_lem sch places xs n p first e f within =
    record {
      within = within;
      grounds = λ b bounded own. (
        in_place places 2 xs,
        record {
          small = rw own (place_small places 2 (indices b) (indices_small b bounded));
          right = λ t tables. rw f (table_place places t xs tables);
          is = λ j h. rw (f, own) (fact_ground b sch n j places first h e);
        },
      );
    }
