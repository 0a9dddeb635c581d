-- Two lists of facts walked together: each way on of `merge_next`, and what its loop leaves.
use Prim.Native.Nat.{ℕ, zero, suc, ◌+◌, ◌<◌, ◌≤◌}
use native.Mathlib.Omega.{arith}
use mathlib.Core.Path.{◌≡◌, refl, sym, ap, ap₂, ◌∙◌}
use mathlib.Core.Logic.{◌⊎◌, inl, inr}
use mathlib.Core.Bool.{true, false, ◌&&◌}
use mathlib.Core.List.{List, [], ◌∷◌, ◌++◌, append-nil}
use lib.Dec.{ltb}
use lib.ListN.{length}
use Rattle.std.specs.Prelude.{Result}
use borrow.Author.Tests.{lt-ltb}
use Rattle.terms.specs.declared.Fact.{Fact}
use Rattle.truth.specs.Bools.{clash, and_in}
use Rattle.terms.specs.Facts.{precedes, no_fact}
use Rattle.limits.specs.Limits.{max_length, fact_size, near_ceiling}
use Rattle.format.specs.Lists.{list_at, list_end}
use Rattle.format.specs.Toggled.{toggled}
use Rattle.jobs.specs.Convert.{facts_bytes}
use Rattle.factsets.specs.Right.{Increasing}
use Rattle.factsets.proofs.Sorted.{precedes_neither}
use Rattle.factsets.proofs.Toggled.{merge_before, merge_after, merge_both, toggled_none, toggled_nothing}
use Rattle.factlist.specs.declared.ListCursor.{ListCursor}
use Rattle.factlist.specs.Rest.{rest, FactsWithin, next, Comes}
use Rattle.factlist.proofs.Rest.{rest_none}
use Rattle.rendering.specs.declared.Walk.{Walk}
use Rattle.appending.specs.Appended.{Appended, AllBut}
use Rattle.rendering.specs.Merge.{to_come, Merging, TurnMerged, TurnOver}
use Rattle.rendering.specs.Good.{GoodList}
use Rattle.appending.proofs.Appended.{part_none, part_next, part_then, part_over, part_last}

-- a list of the book begins at an offset that can be added to
pub list_near : {s : List ℕ} {at : ℕ} → GoodList s at → at ≤ near_ceiling
unfolding list_end
list_near good = omega (arith, good.within, good.near)

-- ---- one fact more

first_fact : (f : Fact) (fs gs : List Fact) → gs ≡ f ∷ fs → facts_bytes (f ∷ []) ++ facts_bytes fs ≡ facts_bytes gs
unfolding facts_bytes
first_fact f fs gs e = rw e

one_fact : (f : Fact) → length (facts_bytes (f ∷ [])) ≤ fact_size
unfolding facts_bytes
one_fact f = omega arith

module _ (state s : List ℕ) (v : Walk) (m : Merging state s v) (f g : Fact) (a : Comes state v.held f) (b : Comes s v.turns g) where
  both : to_come state s v ≡ toggled (f ∷ rest state (next v.held)) (g ∷ rest s (next v.turns))
  both = ap₂ toggled a.first b.first

  later : Increasing g (rest s (next v.turns))
  later = (rw b.first at m.order).1

  -- a fact that holds, and does not turn
  module _ (e : precedes f g ≡ true) where
    held_first : facts_bytes (f ∷ []) ++ facts_bytes (to_come state s (record { held = next v.held; turns = v.turns })) ≡ facts_bytes (to_come state s v)
    held_first = first_fact f _ _ (both ∙ merge_before f g _ _ e later ∙ rw b.first)

    held_merging : Merging state s (record { held = next v.held; turns = v.turns })
    held_merging = record { held = a.ahead; turns = m.turns; last = m.last; order = m.order }

    pub held_over : (old : List ℕ) → max_length < length old + length (facts_bytes (f ∷ [])) → TurnOver state s v old
    held_over old h =
        let l = a.less in
        record { w = record { held = next v.held; turns = v.turns }; merging = held_merging; less = omega arith; front = facts_bytes (f ∷ []); split = held_first; one = one_fact f; over = h }

    pub merged_held : (h : ListCursor) → h ≡ next v.held → (old new : List ℕ) → new ≡ old ++ facts_bytes (f ∷ [])
        → TurnMerged state s v old new (record { held = h; turns = v.turns })
    merged_held h d old new p =
        let l = a.less in
        let part = part_next (part_none _ old) (facts_bytes (f ∷ [])) held_first p in
        record { merging = rw d held_merging; less = rw d (omega arith); appended = rw d part }

  -- one that turns, and did not hold
  module _ (e : precedes g f ≡ true) where
    turn_first : facts_bytes (g ∷ []) ++ facts_bytes (to_come state s (record { held = v.held; turns = next v.turns })) ≡ facts_bytes (to_come state s v)
    turn_first = first_fact g _ _ (both ∙ merge_after f g _ _ e later ∙ rw a.first)

    turn_merging : Merging state s (record { held = v.held; turns = next v.turns })
    turn_merging = record { held = m.held; turns = b.ahead; last = g; order = later }

    pub turn_over : (old : List ℕ) → max_length < length old + length (facts_bytes (g ∷ [])) → TurnOver state s v old
    turn_over old h =
        let l = b.less in
        record { w = record { held = v.held; turns = next v.turns }; merging = turn_merging; less = omega arith; front = facts_bytes (g ∷ []); split = turn_first; one = one_fact g; over = h }

    pub merged_turn : (h : ListCursor) → h ≡ next v.turns → (old new : List ℕ) → new ≡ old ++ facts_bytes (g ∷ [])
        → TurnMerged state s v old new (record { held = v.held; turns = h })
    merged_turn h d old new p =
        let l = b.less in
        let part = part_next (part_none _ old) (facts_bytes (g ∷ [])) turn_first p in
        record { merging = rw d turn_merging; less = rw d (omega arith); appended = rw d part }

  -- one that held, and turns
  pub merged_both : precedes f g ≡ false → precedes g f ≡ false → (h k : ListCursor) → h ≡ next v.held → k ≡ next v.turns → (old : List ℕ)
      → TurnMerged state s v old old (record { held = h; turns = k })
  merged_both e e' h k d d' old =
      let w : Walk = record { held = h; turns = k } in
      let l = a.less in
      let l' = b.less in
      let z : f ≡ g = precedes_neither f g e e' in
      let x : List Fact = rest state (next v.held) in
      let y : List Fact = rest s (next v.turns) in
      let gone : to_come state s v ≡ toggled x y = both ∙ ap (λ (t : Fact). toggled (t ∷ x) (g ∷ y)) z ∙ merge_both g x y in
      let same : to_come state s w ≡ to_come state s v = rw (d, d') (sym gone) in
      record {
        merging = record { held = rw d a.ahead; turns = rw d' b.ahead; last = g; order = rw d' later };
        less = rw (d, d') (omega arith);
        appended = record { front = []; split = ap facts_bytes same; appended = sym (append-nil old) };
      }

-- ---- all turns

not_both : (a b : ℕ) → (ltb 0 a && ltb 0 b) ≡ false → (a ≡ 0) ⊎ (b ≡ 0)
not_both zero b e = inl refl
not_both (suc a) zero e = inr refl
not_both (suc a) (suc b) e = clash (ltb 0 (suc a) && ltb 0 (suc b)) (and_in _ _ (lt-ltb 0 (suc a) (omega arith)) (lt-ltb 0 (suc b) (omega arith))) e

-- where the loop stands: of the bytes of all facts that hold afterwards, those of the facts to come are yet to be appended
pub record Merged (state s whole old : List ℕ) (v : Walk) (new : List ℕ) : Type 0 where
  pub merging : Merging state s v
  pub appended : AllBut (facts_bytes (to_come state s v)) whole old new

only_turns : (fs ts : List Fact) → fs ≡ [] → (last : Fact) → Increasing last ts → facts_bytes fs ++ facts_bytes ts ≡ facts_bytes (toggled fs ts)
unfolding facts_bytes
only_turns fs ts e last h = rw (e, toggled_none last ts h)

only_held : (fs ts : List Fact) → ts ≡ [] → facts_bytes fs ++ facts_bytes ts ≡ facts_bytes (toggled fs ts)
unfolding facts_bytes
only_held fs ts e = rw (e, toggled_nothing fs) (append-nil (facts_bytes fs))

module _ (state s : List ℕ) (at : ℕ) (old : List ℕ) where
  pub merged_first : (p q : ListCursor) → (rest state p ≡ list_at state 0) × FactsWithin state p → (rest s q ≡ list_at s at) × FactsWithin s q → GoodList s at
      → Merged state s (facts_bytes (toggled (list_at state 0) (list_at s at))) old (record { held = p; turns = q }) old
  merged_first p q (e, a) (d, b) good =
      record {
        merging = record { held = a; turns = b; last = no_fact; order = rw d good.order };
        appended = rw (e, d) (part_none (facts_bytes (toggled (list_at state 0) (list_at s at))) old);
      }

module _ {state s whole old : List ℕ} {v : Walk} {mid : List ℕ} (m : Merged state s whole old v mid) where
  pub merged_next : {u : Walk} {new : List ℕ} → TurnMerged state s v mid new u → Merged state s whole old u new
  merged_next t = record { merging = t.merging; appended = part_then m.appended t.appended }

  pub merged_over : TurnOver state s v mid → max_length < length old + length whole
  merged_over t = part_over m.appended t.front (facts_bytes (to_come state s t.w)) t.split t.over

  -- one of the lists is at its end
  module _ (e : (ltb 0 v.held.left && ltb 0 v.turns.left) ≡ false) where
    rests : facts_bytes (rest state v.held) ++ facts_bytes (rest s v.turns) ≡ facts_bytes (to_come state s v)
    rests = tail (not_both _ _ e)
      where
        tail : (v.held.left ≡ 0) ⊎ (v.turns.left ≡ 0) → facts_bytes (rest state v.held) ++ facts_bytes (rest s v.turns) ≡ facts_bytes (to_come state s v)
        tail (inl z) = only_turns (rest state v.held) (rest s v.turns) (rest_none state v.held z) m.merging.last m.merging.order
        tail (inr z) = only_held (rest state v.held) (rest s v.turns) (rest_none s v.turns z)

    pub merged_end_over : max_length < length mid + length (facts_bytes (rest state v.held)) → max_length < length old + length whole
    merged_end_over h = part_over m.appended (facts_bytes (rest state v.held)) _ rests h

    pub merged_end : {A E : Type 0} {new : List ℕ} (new' : List ℕ) (r : Result A E) → new ≡ mid ++ facts_bytes (rest state v.held)
        → Appended (facts_bytes (rest s v.turns)) new new' r → Appended whole old new' r
    merged_end new' r p q = part_last (part_next m.appended (facts_bytes (rest state v.held)) rests p) new' r q
