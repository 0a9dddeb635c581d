-- Schemas that say the same and are right: they have the same bound facts and ground them alike, and a fact or a step that is right for the
-- one is right for the other. Books whose relations and moves have the same bytes, and whose kinds the same parents, have such schemas.
use Prim.Native.Nat.{ℕ, ◌+◌, ◌-◌, ◌*◌, ◌≤◌, ◌<◌}
use mathlib.Core.Path.{◌≡◌, refl, sym, ◌∙◌}
use mathlib.Core.Bool.{Bool, true, false}
use mathlib.Core.List.{List}
use native.Mathlib.Omega.{arith}
use lib.Dec.{leb}
use Rattle.truth.specs.Bools.{bool_eq, neither, neither_in}
use Rattle.input.specs.Bytes.{byte_at}
use Rattle.limits.specs.Limits.{relation_size, move_size, max_places, max_params}
use Rattle.terms.specs.declared.Param.{Param}
use Rattle.terms.specs.declared.Object.{Object}
use Rattle.terms.specs.declared.Relation.{Relation}
use Rattle.terms.specs.declared.Move.{Move}
use Rattle.terms.specs.declared.Binding.{Binding}
use Rattle.terms.specs.declared.Fact.{Fact}
use Rattle.terms.specs.declared.Step.{Step}
use Rattle.terms.specs.declared.Sections.{Sections}
use Rattle.terms.specs.Schema.{Schema, TypedObjects, out_of_range, relation_at, move_at, schema, object_bad}
use Rattle.terms.specs.Facts.{fact_bad}
use Rattle.terms.specs.Steps.{argument_bad, step_bad, atom_relation, atom_first, atom_second, parameter_fills, is_atom, placed, ground}
use Rattle.terms.specs.Typing.{Falling, RightSchema}
use Rattle.terms.specs.Agree.{SameSchema}
use Rattle.terms.proofs.Suits.{suits_same}
use Rattle.terms.proofs.Atoms.{range_out, relation_from_1, first_range, second_range, fills_used, fills_unused, fills_in_used, fills_in_unused, atom_out, atom_in}

pub same_sym : (S T : Schema) → SameSchema S T → SameSchema T S
same_sym S T h =
    record {
      parent = λ k low high high'. sym (h.parent k low high' high);
      relations = sym h.relations;
      moves = sym h.moves;
      places = λ r low high. sym (h.places r low (omega arith));
      place_kind = λ r low high i l. sym (h.place_kind r low (omega arith) i l);
      params = λ m low high. sym (h.params m low (omega arith));
      param_kind = λ m low high p l. sym (h.param_kind m low (omega arith) p l);
    }

-- relations and moves with the same bytes, wherever the two books have them
pub same_by_bytes : (h k : Sections) (s t : List ℕ)
    → ((i : ℕ) → 1 ≤ i → i ≤ h.kinds → i ≤ k.kinds → (schema h s).parent i ≡ (schema k t).parent i)
    → h.relations.count ≡ k.relations.count
    → h.moves.count ≡ k.moves.count
    → ((i : ℕ) → i < relation_size * h.relations.count → byte_at s (h.relations.at + i) ≡ byte_at t (k.relations.at + i))
    → ((i : ℕ) → i < move_size * h.moves.count → byte_at s (h.moves.at + i) ≡ byte_at t (k.moves.at + i))
    → SameSchema (schema h s) (schema k t)
unfolding schema relation_at move_at
same_by_bytes h k s t parents relations moves bytes bytes' =
    record {
      parent = parents;
      relations = relations;
      moves = moves;
      places = λ r low high. bytes (relation_size * (r.0 - 1)) (omega arith);
      place_kind = λ r low high i l. further _ _ _ bytes (relation_size * (r.0 - 1)) i (omega arith);
      params = λ m low high. bytes' (move_size * (m.0 - 1)) (omega arith);
      param_kind = λ m low high p l. further _ _ _ bytes' (move_size * (m.0 - 1)) p.0 (omega arith);
    }
  where
    further : (a b n : ℕ) → ((i : ℕ) → i < n → byte_at s (a + i) ≡ byte_at t (b + i)) → (j i : ℕ) → j + i < n → byte_at s (a + j + i) ≡ byte_at t (b + j + i)
    further a b n f j i l =
        let x : a + j + i ≡ a + (j + i) = omega arith in
        let y : b + j + i ≡ b + (j + i) = omega arith in
        rw (x, y) (f (j + i) l)

-- as many objects, of the same kinds, each among the first so many
pub record SameObjects (kinds : ℕ) (H K : TypedObjects) : Type 0 where
  pub count : H.count ≡ K.count
  pub known : (x : Object) → 1 ≤ x.0 → x.0 ≤ H.count → (1 ≤ H.kind x) × (H.kind x ≤ kinds)
  pub kind : (x : Object) → 1 ≤ x.0 → x.0 ≤ H.count → H.kind x ≡ K.kind x

module _ (S T : Schema) (h : SameSchema S T) where
  module _ (right : RightSchema S) (right' : RightSchema T) where
    fills_over : (m : Move) (r : Relation) → 1 ≤ m.0 → m.0 ≤ S.moves → 1 ≤ r.0 → r.0 ≤ S.relations
        → (i : ℕ) → i ≤ max_places → (p : Param) → 1 ≤ p.0 → p.0 ≤ max_params → parameter_fills S m r i p ≡ true → parameter_fills T m r i p ≡ true
    fills_over m r low high low' high' i l p some few fills = go (leb i (S.places r)) refl
      where
        go : (used : Bool) → leb i (S.places r) ≡ used → parameter_fills T m r i p ≡ true
        go true u =
            let (own, suits) = fills_used S m r i p fills u in
            let kind = h.param_kind m low high p few in
            let own' : p.0 ≤ T.params m = omega (arith, own, h.params m low high) in
            let is = right'.params m low (omega (arith, high, h.moves)) p some own' in
            let same = suits_same S T h right.falling (S.place_kind r i) (S.param_kind m p) (right.params m low high p some own) (omega (arith, is.1, kind)) in
            fills_in_used T m r i p (rw (← h.places r low' high') u) own' (rw (← h.place_kind r low' high' i l, ← kind) (sym same ∙ suits))
        go false u = fills_in_unused T m r i p (rw (← h.places r low' high') u) (fills_unused S m r i p fills u)

    pub atom_over : (a n : ℕ) → is_atom S a n ≡ true → is_atom T a n ≡ true
    atom_over a n atom =
        let parts = atom_out S a n atom in
        let fills : (i : ℕ) → i ≤ max_places → (p : Param) → 1 ≤ p.0 → p.0 ≤ max_params → parameter_fills S (record { 0 = a }) (atom_relation n) i p ≡ true → parameter_fills T (record { 0 = a }) (atom_relation n) i p ≡ true =
        fills_over (record { 0 = a }) (atom_relation n) parts.from_1 parts.known (relation_from_1 n) parts.relation in
        let (low, high) = first_range n in
        let (low', high') = second_range n in
        atom_in T a n
        (record {
          from_1 = parts.from_1;
          known = omega (arith, parts.known, h.moves);
          relation = omega (arith, parts.relation, h.relations);
          first = fills 1 (omega arith) (atom_first n) low high parts.first;
          second = fills 2 (omega arith) (atom_second n) low' high' parts.second;
        })

  -- A bound fact is grounded to one number.
  pub ground_same : (b : Binding) (a n : ℕ) → is_atom S a n ≡ true → ground S b n ≡ ground T b n
  unfolding ground placed
  ground_same b a n atom = rw (h.places (atom_relation n) (relation_from_1 n) (atom_out S a n atom).relation)

  -- ---- what is right stays right

  module _ (fall : Falling S) (kinds : ℕ) (all : kinds ≤ S.kinds) (all' : kinds ≤ T.kinds) (H K : TypedObjects) (o : SameObjects kinds H K) where
    object_over : (used : Bool) (named : ℕ) (x : Object) → object_bad S H used named x ≡ false → object_bad T K used named x ≡ false
    unfolding object_bad
    object_over true named x e =
        let w = range_out H.count x.0 (neither (out_of_range H.count x.0) _ (neither _ _ e).0).0 in
        let (low, high) = o.known x w.0 w.1 in
        let same = suits_same S T h fall named (H.kind x) (low, omega arith) (omega arith) in
        rw (← o.count, ← o.kind x w.0 w.1, ← same) e
    object_over false named x e = e

    pub fact_over : (f : Fact) → fact_bad S H f ≡ false → fact_bad T K f ≡ false
    unfolding fact_bad
    fact_over f e =
        let p = neither _ _ e in
        let q = neither _ _ p.0 in
        let w = range_out S.relations f.relation.0 q.0 in
        let place : (i : ℕ) (x : Object) → i ≤ max_places → object_bad S H (leb i (S.places f.relation)) (S.place_kind f.relation i) x ≡ false
        → object_bad T K (leb i (T.places f.relation)) (T.place_kind f.relation i) x ≡ false =
        λ i x l g. rw (← h.places f.relation w.0 w.1, ← h.place_kind f.relation w.0 w.1 i l) (object_over _ _ _ g) in
        let number : out_of_range T.relations f.relation.0 ≡ false = rw (← h.relations) q.0 in
        neither_in _ _ (neither_in _ _ number (place 1 f.first (omega arith) q.1)) (place 2 f.second (omega arith) p.1)

    pub step_over : (st : Step) → step_bad S H st ≡ false → step_bad T K st ≡ false
    unfolding step_bad argument_bad
    step_over st e =
        let a = neither _ _ e in
        let b = neither _ _ a.0 in
        let c = neither _ _ b.0 in
        let d = neither _ _ c.0 in
        let w = range_out S.moves st.action.0 d.0 in
        let argument : (i : ℕ) → i ≤ max_params → argument_bad S H st i ≡ false → argument_bad T K st i ≡ false =
        λ i l g.
        rw (← h.params st.action w.0 w.1, ← h.param_kind st.action w.0 w.1 (record { 0 = i }) l) (object_over _ _ _ g) in
        let number : out_of_range T.moves st.action.0 ≡ false = rw (← h.moves) d.0 in
        neither_in _ _
        (neither_in _ _
        (neither_in _ _ (neither_in _ _ number (argument 1 (omega arith) d.1)) (argument 2 (omega arith) c.1))
        (argument 3 (omega arith) b.1))
        (argument 4 (omega arith) a.1)

-- Right schemas that say the same have the same bound facts.
pub atoms_same : (S T : Schema) → SameSchema S T → RightSchema S → RightSchema T → (a n : ℕ) → is_atom S a n ≡ is_atom T a n
atoms_same S T h right right' a n = bool_eq _ _ (atom_over S T h right right' a n) (atom_over T S (same_sym S T h) right' right a n)
