-- The facts of a list that are looked over as they are read: the cursor of states in the words of this crate, and what one fact says of the list.
-- For `listed`, `look_rest`, `mark_next`, `mark_step` and `mark_turned` of src/lib.rt. Uses the laws of states, Facts for what comes next.
use Prim.Native.Nat.{ℕ, ◌+◌, ◌-◌, ◌<◌, ◌≤◌}
use mathlib.Core.Path.{◌≡◌, refl, sym, ap, ◌∙◌}
use mathlib.Core.Bool.{Bool, true, false, ◌&&◌, not}
use mathlib.Core.List.{List, ◌∷◌}
use native.Mathlib.Omega.{arith}
use lib.Dec.{eqb}
use lib.ListN.{length}
use borrow.Author.Tests.{eqb-true, eq-eqb}
use Rattle.truth.specs.Bools.{clash, and_out, neither}
use Rattle.input.specs.Bytes.{two}
use Rattle.limits.specs.Limits.{count_size, fact_size, near_ceiling, max_fact_numbers}
use Rattle.terms.specs.declared.Fact.{Fact}
use Rattle.terms.specs.Facts.{fact_at, fact_bad, fact_number, precedes, no_fact}
use Rattle.terms.specs.Told.{suits, fact_key}
use Rattle.answer.specs.Answer.{Refused}
use Rattle.format.specs.Filed.{as_written}
use Rattle.format.specs.Lists.{list_end}
use Rattle.format.specs.States.{facts}
use Rattle.quantify.specs.Quantify.{here, there}
use Rattle.terms.proofs.Atoms.{fact_path}
use Rattle.factsets.proofs.Numbers.{number_below}
use Rattle.tables.specs.Tables.{ForRightByPlace}
use Rattle.states.specs.declared.FactCursor.{FactCursor}
use Rattle.states.specs.Cursor as states
use Rattle.states.specs.Cursor.{fact_of, misplaced}
use Rattle.states.specs.Looked.{Looked}
use Rattle.states.proofs.Cursors.{misplaced_by}
use Rattle.states.proofs.Looking.{looked_first, looked_next, looked_bad}
use Rattle.factlist.specs.declared.ListCursor.{ListCursor}
use Rattle.factlist.specs.Rest.{rest, next, FactsWithin, Comes}
use Rattle.stepmasks.specs.Marks.{plain, RightForFew, Suited, ListAhead}
use Rattle.factlist.proofs.Rest.{of_list_by, comes_by}

-- the cursor c' is past the fact at c
abbrev pub Moves : List ℕ → FactCursor → FactCursor → Type 0
Moves s c c' =
    (c'.at ≡ c.at + c.size) × (c'.left ≡ c.left - 1) × (c'.last ≡ fact_of s c) × (c'.size ≡ c.size) × (c'.key ≡ fact_key c'.last)

-- ---- the cursor of states in the words of this crate

module _ (s : List ℕ) (c : FactCursor) (size : c.size ≡ fact_size) where
  pub plain_next : (c' : FactCursor) → Moves s c c' → plain c' ≡ next (plain c)
  unfolding plain next
  plain_next c' g =
      let p : c'.at ≡ c.at + fact_size = omega (arith, g.0, size) in
      λ i. record { at = p i; left = g.1 i }

  module _ (ahead : FactsWithin s (plain c)) (some : 0 < c.left) where
    pub item_ahead : c.key ≡ fact_key c.last → states.ItemWithin s c
    unfolding plain
    item_ahead key = record { whole = omega arith; within = omega (arith, ahead.within); near = omega (arith, ahead.near); key = key }

    pub comes_plain : (f : Fact) → f ≡ fact_of s c → Comes s (plain c) f
    unfolding plain fact_of
    comes_plain f e =
        let p : c.at + (c.size - fact_size) ≡ c.at = omega arith in
        comes_by s (plain c) f some ahead (e ∙ ap (fact_at s) p)

-- the first fact of a list, by what `FactCursor::new` says
pub listed_by : (s : List ℕ) (at n : ℕ) (c : FactCursor) → n ≡ two s at → n < 65536 → at ≤ near_ceiling → list_end s at ≤ length s
    → (c.at ≡ at + count_size) × (c.left ≡ n) × (c.last ≡ no_fact) × (c.size ≡ fact_size) × (c.key ≡ fact_key c.last)
    → ListAhead s at c
unfolding plain list_end
listed_by s at n c e h k l g =
    let (facts, ahead) = of_list_by s at n e h k l in
    let p : plain c ≡ record { at = at + 2; left = n } = λ i. record { at = g.0 i; left = g.1 i } in
    record {
      facts = ap (rest s) p ∙ facts;
      ahead = rw p ahead;
      looked = λ table end reach. looked_first 8 s table end (two s at) (at + 2) c g.0 (g.1 ∙ e) g.2 g.3 g.4 reach;
    }

-- where the loop stands: the facts of the list at an offset that come before the cursor are right and in order
abbrev pub Looking : List ℕ → List ℕ → ℕ → FactCursor → Type 0
Looking s table at c = (end : ℕ) → list_end s at ≤ end → Looked 8 s table end (two s at) (at + count_size) c

pub looking_known : (s table : List ℕ) (at : ℕ) (c : FactCursor) → Looking s table at c → (c.size ≡ fact_size) × (c.key ≡ fact_key c.last)
looking_known s table at c l =
    let k = l (list_end s at) (omega arith) in
    (k.size, k.key)

-- ---- one fact

-- what `==` says of two facts
abbrev Compared : Fact → Fact → Bool → Type 0
Compared f g t = t ≡ (eqb f.relation.0 g.relation.0 && (eqb f.first.0 g.first.0 && eqb f.second.0 g.second.0))

pub facts_equal : (f g : Fact) (t : Bool) → Compared f g t → t ≡ true → f ≡ g
facts_equal f g t e h =
    let (r, both) = and_out (eqb f.relation.0 g.relation.0) _ (sym e ∙ h) in
    let (x, y) = and_out (eqb f.first.0 g.first.0) _ both in
    fact_path f g (eqb-true _ _ r) (eqb-true _ _ x) (eqb-true _ _ y)

pub facts_differ : (f g : Fact) (t : Bool) → Compared f g t → t ≡ false → f ≡ g → ⊥
facts_differ f g t e h d =
    clash t (e ∙ rw (← d, eq-eqb f.relation.0 _ refl, eq-eqb f.first.0 _ refl, eq-eqb f.second.0 _ refl)) h

-- of facts that suit, those after the first do
pub suited_next : (table : List ℕ) (f : Fact) (fs gs : List Fact) → gs ≡ f ∷ fs → Suited table gs → Suited table fs
suited_next table f fs gs e all g m = all g (rw e (there m))

module _ (s table : List ℕ) (c : FactCursor) where
  -- a fact that suits is wrong here only out of order
  pub suited_told : (f : Fact) (b : Bool) → f.relation.0 < 256 → f ≡ fact_of s c → suits table f ≡ true → b ≡ precedes c.last f
      → ForRightByPlace table (λ sch ob. not b ≡ misplaced sch ob s c)
  unfolding ForRightByPlace
  suited_told f b l p q r sch ob right = misplaced_by sch ob s table right c f true b l p (sym q) r

  -- so is a fact that comes next before the step too, where all that come there suit
  pub same_told : (d : ListCursor) (f g : Fact) (b : Bool)
      → Comes s d f
      → Suited table (rest s d)
      → f ≡ g
      → g.relation.0 < 256
      → g ≡ fact_of s c
      → b ≡ precedes c.last g
      → ForRightByPlace table (λ sch ob. not b ≡ misplaced sch ob s c)
  same_told d f g b next-f all h l p r = suited_told g b l p (rw (← h) (all f (rw next-f.first here))) r

  module _ (b : Bool) (told : ForRightByPlace table (λ sch ob. b ≡ misplaced sch ob s c)) where
    module _ (some : 0 < c.left) where
      pub looks_next : b ≡ false → (c' : FactCursor) → Moves s c c' → (end n from : ℕ) → Looked 8 s table end n from c → Looked 8 s table end n from c'
      looks_next e c' g end n from looked = looked_next 8 s table end n from c looked some b told e c' g

      pub looks_wrong : b ≡ true → (end n from : ℕ) → Looked 8 s table end n from c
          → ForRightByPlace table (λ sch ob. Refused 8 c.at ≡ facts as_written 8 sch ob s end n no_fact from)
      looks_wrong e end n from looked = looked_bad 8 s table end n from c looked some b told e

    -- the number of a fact that is right
    pub number_known : RightForFew table → b ≡ false → (f : Fact) → f ≡ fact_of s c → fact_number f < max_fact_numbers
    unfolding ForRightByPlace misplaced
    number_known right e f p =
        let bad = fact_bad right.sch right.ob (fact_of s c) in
        let (good, _) = neither bad (not (precedes c.last (fact_of s c))) (sym (told right.sch right.ob right.right) ∙ e) in
        omega (arith, number_below right.sch right.ob right.few f (rw p good), right.known)
