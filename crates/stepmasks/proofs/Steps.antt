-- The facts of a step's two states walked together: after each turn of the loop the facts that are left still give the sets and the answer of the two
-- whole states. For `mark_next` and `mark_step` of src/lib.rt. Uses Unbound for row 11, Facts and Looks for each state.
use Prim.Native.Nat.{ℕ, ◌<◌, ◌≤◌}
use mathlib.Core.Path.{◌≡◌, refl, sym, ap, ap₂, ◌∙◌}
use mathlib.Core.Bool.{Bool, true, false, ◌&&◌, ◌||◌, not, or_assoc, or-false}
use mathlib.Core.List.{List, []}
use Rattle.std.proofs.Common.{Option, is_some}
use native.Mathlib.Omega.{arith}
use borrow.Author.Tests.{ltb-false}
use lib.Dec.{ltb}
use Rattle.truth.specs.Bools.{clash, or_right}
use Rattle.mask.specs.Sets.{empty}
use Rattle.terms.specs.declared.Binding.{Binding}
use Rattle.terms.specs.declared.Fact.{Fact}
use Rattle.terms.specs.Facts.{precedes}
use Rattle.format.specs.Lists.{list_at}
use Rattle.observed.specs.Inverse.{marks, atoms_in, unbound, in_one_alone, some_fact, unbound_changed}
use Rattle.states.specs.declared.FactCursor.{FactCursor}
use Rattle.factlist.specs.declared.ListCursor.{ListCursor}
use Rattle.stepmasks.specs.declared.Walk.{Walk}
use Rattle.lifting.specs.Pairs.{lifted}
use Rattle.factlist.specs.Rest.{rest, FactsWithin, Comes}
use Rattle.stepmasks.specs.Marks.{plain, says, NextMarked, ListAhead, StepMarked}
use Rattle.lifting.proofs.Pairs.{atom_bound, atom_unbound, atom_test}
use Rattle.stepmasks.proofs.Unbound.{none_after, both_more, before_more, first_more, second_more}
use Rattle.factlist.proofs.Rest.{rest_none}
use Rattle.stepmasks.proofs.Facts.{Passes, passed_by}
use Rattle.stepmasks.proofs.Looks.{suited_next}

-- the walk that goes on from two cursors
abbrev pub going_on : ListCursor → FactCursor → Bool → Walk
going_on p q changed = record { pre = p; post = q; changed = changed }

module _ (s atoms : List ℕ) (b : Binding) where
  -- ---- one fact more: f comes next before
  module _ (w : Walk) (f : Fact) (m n : List ℕ) (now-f : Comes s w.pre f) where
    -- a bound fact that does not come next after
    pub marked_before : FactsWithin s (plain w.post) → (x : Option ℕ) → x ≡ lifted atoms b f → is_some x ≡ true → (p : ListCursor) (m' : List ℕ) → Passes x w.pre m p m'
        → NextMarked s atoms b w m n (going_on p w.post w.changed) m' n
    unfolding says
    marked_before a x is u p m' d =
        let i = passed_by s atoms b is now-f d in
        record {
          ahead = i.ahead;
          ahead_after = a;
          suited = λ table. suited_next table f (rest s p) (rest s w.pre) i.first;
          before = i.marked;
          after = refl;
          same = ap (λ (y : Bool). w.changed || y) (rw i.first (sym (before_more atoms b f (rest s p) (rest s (plain w.post)) (atom_bound b f atoms x is u))));
          less = omega (arith, i.less);
        }

    -- g comes next after
    module _ (g : Fact) (now-g : Comes s (plain w.post) g) where
      pub marked_both : (x : Option ℕ) → x ≡ lifted atoms b f → f ≡ g
          → (p : ListCursor) (q : FactCursor) (m' n' : List ℕ)
          → Passes x w.pre m p m'
          → Passes x (plain w.post) n (plain q) n'
          → NextMarked s atoms b w m n (going_on p q w.changed) m' n'
      unfolding says plain
      marked_both x is h p q m' n' d e =
          let i = passed_by s atoms b is now-f d in
          let j = passed_by s atoms b is (rw h now-g) e in
          record {
            ahead = i.ahead;
            ahead_after = j.ahead;
            suited = λ table. suited_next table f (rest s p) (rest s w.pre) i.first;
            before = i.marked;
            after = j.marked;
            same = ap (λ (y : Bool). w.changed || y) (rw (i.first, j.first) (sym (both_more atoms b f (rest s p) (rest s (plain q)))));
            less = omega (arith, i.less, j.less);
          }

      -- f is no bound fact and differs; `none` says whether g is none either, and r whether f precedes g
      module _ (apart : f ≡ g → ⊥) (x y : Option ℕ) (is : x ≡ lifted atoms b f) (v : is_some x ≡ false) (is' : y ≡ lifted atoms b g) (none r : Bool) (told : is_some y ≡ not none) (order : r ≡ precedes f g) where
        -- nor is g a bound fact, and f comes first
        pub marked_first : FactsWithin s (plain w.post) → (none && r) ≡ true
            → (p : ListCursor) (m' : List ℕ)
            → Passes x w.pre m p m'
            → NextMarked s atoms b w m n (going_on p w.post true) m' n
        unfolding says
        marked_first a both p m' e =
            let i = passed_by s atoms b is now-f e in
            let h = atom_unbound b f atoms x is v in
            record {
              ahead = i.ahead;
              ahead_after = a;
              suited = λ table. suited_next table f (rest s p) (rest s w.pre) i.first;
              before = i.marked;
              after = refl;
              same =
                  sym (or_right w.changed _
                  (rw (i.first, now-g.first) (sym (first_more atoms b f (rest s p) g _ r h order none (atom_test b g atoms y is' none told) both))));
              less = omega (arith, i.less);
            }

        -- g is a bound fact, or comes first
        pub marked_after : FactsWithin s w.pre → (none && r) ≡ false
            → (q : FactCursor) (n' : List ℕ)
            → Passes y (plain w.post) n (plain q) n'
            → NextMarked s atoms b w m n (going_on w.pre q (w.changed || none)) m n'
        unfolding says plain
        marked_after a either q n' e =
            let j = passed_by s atoms b is' now-g e in
            let h = atom_unbound b f atoms x is v in
            record {
              ahead = a;
              ahead_after = j.ahead;
              suited = λ table all. all;
              before = refl;
              after = j.marked;
              same =
                  or_assoc w.changed none (unbound_changed atoms b (rest s w.pre) (rest s (plain q)))
                  ∙ ap (λ (z : Bool). w.changed || z)
                  (rw (now-f.first, j.first)
                  (second_more atoms b f _ g (rest s (plain q)) r h order none (atom_test b g atoms y is' none told) either apart));
              less = omega (arith, j.less);
            }

  -- ---- all turns

  -- at the end of one state, what is left of the other decides
  end_says : (p q : ListCursor) → (ltb 0 p.left && ltb 0 q.left) ≡ false
      → (unbound_changed atoms b [] (rest s p) || unbound_changed atoms b [] (rest s q)) ≡ unbound_changed atoms b (rest s p) (rest s q)
  unfolding unbound_changed unbound in_one_alone some_fact
  end_says p q u = go (ltb 0 p.left) (ltb 0 q.left) refl refl u
    where
      go : (x y : Bool) → ltb 0 p.left ≡ x → ltb 0 q.left ≡ y → (x && y) ≡ false
          → (unbound_changed atoms b [] (rest s p) || unbound_changed atoms b [] (rest s q)) ≡ unbound_changed atoms b (rest s p) (rest s q)
      go true true d e v = clash true refl v
      go true false d e v =
          let k : q.left ≡ 0 = omega (arith, ltb-false 0 q.left e) in
          rw (rest_none s q k) (or-false (unbound_changed atoms b [] (rest s p)) ∙ none_after atoms b (rest s p))
      go false y d e v =
          let k : p.left ≡ 0 = omega (arith, ltb-false 0 p.left d) in
          rw (rest_none s p k)

  -- The loop's invariant: marking the facts that are left gives the sets and the answer of the two whole states.
  pub record Stands (pre post : List Fact) (w : Walk) (m n : List ℕ) : Type 0 where
    pub ahead : FactsWithin s w.pre
    pub ahead_after : FactsWithin s (plain w.post)
    pub before : marks atoms b m (rest s w.pre) ≡ atoms_in atoms b pre
    pub after : marks atoms b n (rest s (plain w.post)) ≡ atoms_in atoms b post
    pub same : says s atoms b w ≡ unbound_changed atoms b pre post

  pub stands_first : (pre : List Fact) (post : ℕ) (p : ListCursor) (q : FactCursor) (m n : List ℕ)
      → (rest s p ≡ pre) × FactsWithin s p
      → ListAhead s post q
      → m ≡ empty 32
      → n ≡ empty 32
      → Stands pre (list_at s post) (going_on p q false) m n
  unfolding atoms_in says
  stands_first pre post p q m n d e i j =
      record { ahead = d.1; ahead_after = e.ahead; before = rw (i, d.0); after = rw (j, e.facts); same = rw (d.0, e.facts) }

  module _ {pre post : List Fact} {w : Walk} {m n : List ℕ} (i : Stands pre post w m n) where
    pub stands_next : {v : Walk} {m' n' : List ℕ} → NextMarked s atoms b w m n v m' n' → Stands pre post v m' n'
    stands_next t =
        record {
          ahead = t.ahead;
          ahead_after = t.ahead_after;
          before = t.before ∙ i.before;
          after = t.after ∙ i.after;
          same = t.same ∙ i.same;
        }

    pub stands_end : (ltb 0 w.pre.left && ltb 0 w.post.left) ≡ false
        → (m' n' : List ℕ) (only-before only-after : Bool)
        → (m' ≡ marks atoms b m (rest s w.pre)) × (only-before ≡ unbound_changed atoms b [] (rest s w.pre))
        → (n' ≡ marks atoms b n (rest s (plain w.post))) × (only-after ≡ unbound_changed atoms b [] (rest s (plain w.post)))
        → StepMarked atoms b pre post m' n' (w.changed || only-before || only-after)
    unfolding says plain
    stands_end u m' n' only-before only-after d e =
        record {
          before = d.0 ∙ i.before;
          after = e.0 ∙ i.after;
          unbound =
              or_assoc w.changed only-before only-after
              ∙ ap (λ (y : Bool). w.changed || y) (ap₂ (λ (x y : Bool). x || y) d.1 e.1 ∙ end_says w.pre (plain w.post) u)
              ∙ i.same;
        }
