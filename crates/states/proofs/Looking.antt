-- A list looked over fact by fact while it is read for something else: at its first fact, one fact on, and at its end. For callers that hold the cursor.
use Prim.Native.Nat.{ℕ, ◌+◌, ◌-◌, ◌*◌, ◌≤◌, ◌<◌}
use mathlib.Core.Path.{◌≡◌, refl, sym, ◌∙◌}
use mathlib.Core.Bool.{Bool, true, false, not}
use mathlib.Core.List.{List}
use lib.Dec.{leb}
use native.Mathlib.Omega.{arith}
use borrow.Author.Tests.{leb-true, le-leb, le-ltb, not-true}
use Rattle.truth.specs.Bools.{and_out}
use Rattle.answer.specs.Answer.{Answer, Good, Refused}
use Rattle.terms.specs.declared.Fact.{Fact}
use Rattle.terms.specs.Schema.{Schema, TypedObjects}
use Rattle.terms.specs.Facts.{no_fact}
use Rattle.terms.specs.Told.{fact_key}
use Rattle.limits.specs.Limits.{fact_size}
use Rattle.format.specs.Filed.{as_written}
use Rattle.format.specs.Lists.{list_end}
use Rattle.format.specs.States.{count_bad, facts, list}
use Rattle.format.proofs.Chains.{chain_same, chain_none, chain_refused, chain_good}
use Rattle.format.proofs.States.{facts_chain, list_ends, list_good}
use Rattle.tables.specs.Tables.{ForRightByPlace}
use Rattle.states.specs.declared.FactCursor.{FactCursor}
use Rattle.states.specs.Cursor.{fact_of, misplaced}
use Rattle.states.specs.Looked.{whole_list, Looked, ListLooked}
use Rattle.states.proofs.Cursors.{fact_of_lem, fact_whole}
use Rattle.states.proofs.Laws.{count_whole, list_facts}

-- ---- whether a list is whole

module _ (most : ℕ) (s : List ℕ) (end at : ℕ) where
  -- what it says
  pub whole_parts : whole_list most s end at ≡ true → (count_bad most s end at ≡ false) × (list_end s at ≤ end)
  unfolding whole_list
  whole_parts e =
      let (x, y) = and_out (not (count_bad most s end at)) (leb (list_end s at) end) e in
      (not-true _ x, leb-true _ _ y)

-- ---- fact by fact

module _ (number : ℕ) (s table : List ℕ) (end n from : ℕ) where
  pub looked_first : (c : FactCursor) → c.at ≡ from → c.left ≡ n → c.last ≡ no_fact → c.size ≡ fact_size → c.key ≡ fact_key c.last → from + fact_size * n ≤ end
      → Looked number s table end n from c
  unfolding ForRightByPlace
  looked_first c p q r size key l =
      record { size = size; key = key; whole = rw (p, q) l; answers = λ sch ob right. chain_same (facts_chain as_written _ sch ob _ _) p q r }

  module _ (c : FactCursor) (looked : Looked number s table end n from c) where
    module _ (some : 0 < c.left) (b : Bool) (told : ForRightByPlace table (λ sch ob. b ≡ misplaced sch ob s c)) where
      pub looked_next : b ≡ false → (c' : FactCursor)
          → (c'.at ≡ c.at + c.size) × (c'.left ≡ c.left - 1) × (c'.last ≡ fact_of s c) × (c'.size ≡ c.size) × (c'.key ≡ fact_key c'.last)
          → Looked number s table end n from c'
      unfolding ForRightByPlace
      looked_next e c' g =
          let size = looked.size in
          record {
            size = g.3 ∙ size;
            key = g.4;
            whole = omega (arith, looked.whole, g.0, g.1, size);
            answers =
                λ sch ob right.
                chain_same (facts_chain as_written _ sch ob _ _) (omega (arith, g.0, size)) (omega (arith, g.1)) (g.2 ∙ fact_of_lem sch ob s c c.at (omega (arith, size)))
                ∙ chain_good (facts_chain as_written _ sch ob _ _) (looked.answers sch ob right) some
                (fact_whole sch ob s end c b size (omega (arith, looked.whole)) (told sch ob right)) e;
          }

      pub looked_bad : b ≡ true → ForRightByPlace table (λ sch ob. Refused number c.at ≡ facts as_written number sch ob s end n no_fact from)
      unfolding ForRightByPlace
      looked_bad e sch ob right =
          chain_refused (facts_chain as_written _ sch ob _ _) (looked.answers sch ob right) some
          (fact_whole sch ob s end c b looked.size (omega (arith, looked.whole)) (told sch ob right)) e

    pub looked_all : c.left ≡ 0 → ForRightByPlace table (λ sch ob. Good c.at ≡ facts as_written number sch ob s end n no_fact from)
    unfolding ForRightByPlace
    looked_all e sch ob right = chain_none (facts_chain as_written _ sch ob _ _) (looked.answers sch ob right) e

-- ---- the list

-- a whole list that was looked over answers as row 8 does
pub list_looked : (most : ℕ) (s table : List ℕ) (end at : ℕ) (a : Answer) → whole_list most s end at ≡ true → ListLooked s table at a
    → ForRightByPlace table (λ sch ob. a ≡ list as_written 8 most sch ob s end at)
unfolding ForRightByPlace
list_looked most s table end at a e looked sch ob right =
    let (count, reach) = whole_parts most s end at e in
    looked end reach sch ob right ∙ sym (list_facts 8 most sch ob s end at _ count refl)

-- a list that is good is whole
pub good_whole : (read : Fact → Fact) (most number : ℕ) (sch : Schema) (ob : TypedObjects) (s : List ℕ) (end at next : ℕ) → list read number most sch ob s end at ≡ Good next → whole_list most s end at ≡ true
unfolding whole_list
good_whole read most number sch ob s end at next e =
    let g = list_good read most number sch ob s end at next e in
    rw (← count_whole most s end at _ g.0 refl, le-ltb _ _ g.1, le-leb _ _ (list_ends read most number sch ob s end at next e).1)
