-- A fact's test as the code meets it: the cursor's answer is that of the definition, where the fact is not cut.
use Prim.Native.Nat.{ℕ, ◌+◌, ◌-◌, ◌≤◌, ◌<◌}
use mathlib.Core.Path.{◌≡◌, refl}
use mathlib.Core.Bool.{Bool, true, ◌||◌, not}
use mathlib.Core.List.{List}
use native.Mathlib.Omega.{arith}
use borrow.Author.Tests.{lt-ltb, le-ltb}
use Rattle.terms.specs.declared.Fact.{Fact}
use Rattle.terms.specs.Schema.{Schema, TypedObjects}
use Rattle.terms.specs.Facts.{fact_at, precedes}
use Rattle.terms.specs.Told.{suits}
use Rattle.limits.specs.Limits.{fact_size}
use Rattle.format.specs.Filed.{as_written}
use Rattle.format.specs.States.{cut, fact_refused}
use Rattle.tables.specs.Tables.{RightByPlace}
use Rattle.states.specs.declared.FactCursor.{FactCursor}
use Rattle.states.specs.Cursor.{fact_of, misplaced}

module _ (sch : Schema) (ob : TypedObjects) (s : List ℕ) where
  -- the fact of an item, by where it stands
  pub fact_of_lem : (c : FactCursor) (at : ℕ) → c.at + (c.size - fact_size) ≡ at → fact_of s c ≡ fact_at s at
  unfolding fact_of
  fact_of_lem c at e = rw e refl

  pub misplaced_by : (table : List ℕ) → RightByPlace sch ob table
      → (c : FactCursor) (f : Fact) (a b : Bool)
      → f.relation.0 < 256
      → f ≡ fact_of s c
      → a ≡ suits table f
      → b ≡ precedes c.last f
      → (not a || not b) ≡ misplaced sch ob s c
  unfolding misplaced RightByPlace
  misplaced_by table right c f a b l p q r = rw (q, right f l, r, p) refl

  module _ (end : ℕ) where
    pub fact_cut : (last : Fact) (at : ℕ) → end < at + fact_size → true ≡ fact_refused as_written sch ob s end last at
    unfolding fact_refused cut
    fact_cut last at h = rw (lt-ltb end (at + fact_size) h) refl

    pub fact_whole : (c : FactCursor) (b : Bool) → c.size ≡ fact_size → c.at + fact_size ≤ end → b ≡ misplaced sch ob s c → b ≡ fact_refused as_written sch ob s end c.last c.at
    unfolding misplaced fact_refused cut
    fact_whole c b e h p = rw (p, fact_of_lem c c.at (omega arith), le-ltb end (c.at + fact_size) h) refl
