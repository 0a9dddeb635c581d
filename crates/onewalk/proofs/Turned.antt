-- A right step whose list has the facts that turn: its bound facts before and after it, and row 11, from the mask of the state before it and the list.
use Prim.Native.Nat.{ℕ, ◌≤◌, ◌<◌}
use native.Mathlib.Omega.{arith}
use mathlib.Core.Path.{◌≡◌, refl, sym, ◌∙◌}
use mathlib.Core.Logic.{◌⊎◌, inl, inr, ◌↔◌}
use mathlib.Core.Bool.{Bool, true, false, cond, ◌&&◌, not}
use mathlib.Core.List.{List, [], ◌∷◌}
use lib.Dec.{eqb}
use lib.ListN.{length}
use borrow.Author.Tests.{not-true}
use Rattle.truth.specs.Bools.{bool_eq, not_in}
use Rattle.mask.specs.Bits.{test_bit, flip_bit, Bytes}
use Rattle.mask.specs.Sets.{mask_of}
use Rattle.mask.proofs.Whole.{mask_ext, is_mask_of, test_mask_of}
use Rattle.mask.proofs.Flips.{test_flip, length_flip_bit, bytes_flip_bit}
use Rattle.terms.specs.declared.Binding.{Binding}
use Rattle.terms.specs.declared.Step.{Step}
use Rattle.terms.specs.declared.Fact.{Fact}
use Rattle.terms.specs.Schema.{Schema, TypedObjects}
use Rattle.terms.specs.Facts.{fact_bad, fact_number, no_fact}
use Rattle.terms.specs.Steps.{is_atom, ground}
use Rattle.terms.proofs.Atoms.{atom_below}
use Rattle.limits.specs.Limits.{max_relations, max_objects, set_size, state_size}
use Rattle.format.specs.Toggled.{toggle, toggled}
use Rattle.quantify.specs.Quantify.{Mem, here, there, any}
use Rattle.quantify.proofs.Quantify.{any_in, any_out}
use Rattle.factsets.specs.Holding.{holding}
use Rattle.atoms.specs.Atoms.{atom_set}
use Rattle.observed.specs.Inverse.{fact_bound, atom_of, atoms_in, unbound_changed, turn_mark, turn_marks, some_unbound}
use Rattle.observed.proofs.Observe.{length_atoms_in, bytes_atoms_in}
use Rattle.factsets.specs.Right.{Increasing, RightStep}
use Rattle.wellformed.proofs.Atoms.{ground_below}
use Rattle.factsets.proofs.Sorted.{mem_decide}
use Rattle.factsets.proofs.Toggled.{increasing_after, toggle_increasing, toggle_from, toggled_increasing, OneOf, toggled_mem}
use Rattle.factsets.proofs.Turned.{holding_toggle}
use Rattle.onewalk.proofs.Atoms.{found, found_out}
use Rattle.onewalk.proofs.States.{atoms_found}
use Rattle.onewalk.proofs.Unbound.{changed_in, changed_out}

module _ (sch : Schema) (known : sch.relations ≤ max_relations) (ob : TypedObjects) (few : ob.count ≤ max_objects) (st : Step) (right : RightStep sch ob st) where
  abbrev own : List ℕ
  own = atom_set sch st.action.0

  in_set_lem : (n : ℕ) → n < 256 → {a : Bool} → is_atom sch st.action.0 n ≡ a → test_bit own n ≡ a
  unfolding atom_set
  in_set_lem n l e = test_mask_of 32 (is_atom sch st.action.0) n l ∙ e

  -- The bound facts that hold are those whose facts the mask of the state has.
  pub held_found : (fs : List Fact) → ((f : Fact) → Mem f fs → fact_bad sch ob f ≡ false)
      → mask_of set_size (λ n. test_bit own n && test_bit (mask_of state_size (holding fs)) (ground sch st.binding n)) ≡ atoms_in own st.binding fs
  held_found fs suits =
      sym
      (is_mask_of (atoms_in own st.binding fs) 32 _ (length_atoms_in own st.binding fs) (bytes_atoms_in own st.binding fs)
      (λ n l. atoms_found sch ob few st right fs suits n l ∙ same n l (is_atom sch st.action.0 n) refl))
    where
      same : (n : ℕ) → n < 256 → (a : Bool) → is_atom sch st.action.0 n ≡ a
          → (a && holding fs (ground sch st.binding n)) ≡ (test_bit own n && test_bit (mask_of state_size (holding fs)) (ground sch st.binding n))
      same n l true e =
          sym
          (rw (in_set_lem n l e, test_mask_of state_size (holding fs) (ground sch st.binding n) (omega (arith, ground_below sch ob st right few n e, known))) refl)
      same n l false e = sym (rw (in_set_lem n l e) refl)

  -- ---- one fact turned
  flipped_at : (c : Bool) (m : List ℕ) (k n : ℕ) → length m ≡ 32 → (c ≡ true → k < 256)
      → test_bit (cond c (flip_bit m k) m) n ≡ cond (c && eqb k n) (not (test_bit m n)) (test_bit m n)
  flipped_at true m k n e l = test_flip m k n (omega (arith, l refl))
  flipped_at false m k n e l = refl

  length_turned : (c : Bool) (m : List ℕ) (k : ℕ) → length (cond c (flip_bit m k) m) ≡ length m
  length_turned true m k = length_flip_bit m k
  length_turned false m k = refl

  bytes_turned : (c : Bool) (m : List ℕ) (k : ℕ) → Bytes m → Bytes (cond c (flip_bit m k) m)
  bytes_turned true m k h = bytes_flip_bit m k h
  bytes_turned false m k h = h

  turned_atom : (a h e : Bool) → cond (a && e) (not (a && h)) (a && h) ≡ (a && cond e (not h) h)
  turned_atom true h true = refl
  turned_atom true h false = refl
  turned_atom false h true = refl
  turned_atom false h false = refl

  module _ (fs : List Fact) (suits : (f : Fact) → Mem f fs → fact_bad sch ob f ≡ false) (order : Increasing no_fact fs) (t : Fact) (good : fact_bad sch ob t ≡ false) where
    suits_toggle : (f : Fact) → Mem f (toggle t fs) → fact_bad sch ob f ≡ false
    suits_toggle f m = go (toggle_from t fs m)
      where
        go : (f ≡ t) ⊎ Mem f fs → fact_bad sch ob f ≡ false
        go (inl e) = rw e good
        go (inr k) = suits f k

    turn_mark_lem : turn_mark own st.binding (atoms_in own st.binding fs) t ≡ atoms_in own st.binding (toggle t fs)
    unfolding turn_mark
    turn_mark_lem =
        let m : List ℕ = atoms_in own st.binding fs in
        let c : Bool = fact_bound own st.binding t in
        let k : ℕ = atom_of st.binding t in
        let long = length_atoms_in own st.binding fs in
        mask_ext _ _ (length_turned c m k ∙ long ∙ sym (length_atoms_in own st.binding (toggle t fs))) (bytes_turned c m k (bytes_atoms_in own st.binding fs)) (bytes_atoms_in own st.binding (toggle t fs))
        (λ n l.
        let low : n < 256 = omega (arith, length_turned c m k, long) in
        flipped_at c m k n long (λ e. small e)
        ∙ rw (found sch ob st right few t good n low, atoms_found sch ob few st right fs suits n low, atoms_found sch ob few st right (toggle t fs) suits_toggle n low, holding_toggle sch ob few no_fact t fs good suits order (ground sch st.binding n))
        (turned_atom (is_atom sch st.action.0 n) (holding fs (ground sch st.binding n)) (eqb (fact_number t) (ground sch st.binding n))))
      where
        small : fact_bound own st.binding t ≡ true → atom_of st.binding t < 256
        small e = omega (arith, atom_below sch st.action.0 (atom_of st.binding t) (found_out sch ob st right few t good e).0, known)

  -- Those that hold after the list has turned come by turning them one by one.
  pub turn_marks_lem : (fs ts : List Fact) → ((f : Fact) → Mem f fs → fact_bad sch ob f ≡ false) → Increasing no_fact fs
      → ((f : Fact) → Mem f ts → fact_bad sch ob f ≡ false) → Increasing no_fact ts
      → turn_marks own st.binding (atoms_in own st.binding fs) ts ≡ atoms_in own st.binding (toggled fs ts)
  unfolding turn_marks toggled
  turn_marks_lem fs [] suits order suits' order' = refl
  turn_marks_lem fs (t ∷ ts) suits order suits' order' =
      rw (turn_mark_lem fs suits order t (suits' t here))
      (turn_marks_lem (toggle t fs) ts (suits_toggle fs suits order t (suits' t here)) (toggle_increasing no_fact t fs order'.0 order) (λ f m. suits' f (there m))
      (increasing_after no_fact t ts order'.0 order'.1))

-- ---- row 11, for any set of bound facts
module _ (atoms : List ℕ) (b : Binding) (fs ts : List Fact) (order : Increasing no_fact fs) (order' : Increasing no_fact ts) where
  turned_order : Increasing no_fact (toggled fs ts)
  turned_order = toggled_increasing no_fact fs ts order order'

  turned_mem : (f : Fact) → Mem f (toggled fs ts) ↔ OneOf (Mem f fs) (Mem f ts)
  turned_mem = toggled_mem no_fact fs ts order order'

  -- a fact turns exactly if it is in one alone of the two states
  turns_one : (t : Fact) → Mem t ts → OneOf (Mem t fs) (Mem t (toggled fs ts))
  turns_one t m = go (mem_decide t fs)
    where
      never : Mem t fs → OneOf (Mem t fs) (Mem t ts) → ⊥
      never k (inl h) = h.1 m
      never k (inr h) = h.0 k

      go : Dec (Mem t fs) → OneOf (Mem t fs) (Mem t (toggled fs ts))
      go (yes k) = inl (k, λ l. never k ((turned_mem t).0 l))
      go (no k) = inr (k, (turned_mem t).1 (inr (k, m)))

  one_turns : (t : Fact) → OneOf (Mem t fs) (Mem t (toggled fs ts)) → Mem t ts
  one_turns t (inl (k, a)) = go (mem_decide t ts)
    where
      go : Dec (Mem t ts) → Mem t ts
      go (yes m) = m
      go (no c) = absurd (a ((turned_mem t).1 (inl (k, c))))
  one_turns t (inr (a, m)) = go ((turned_mem t).0 m)
    where
      go : OneOf (Mem t fs) (Mem t ts) → Mem t ts
      go (inl h) = absurd (a h.0)
      go (inr h) = h.1

  pub some_unbound_lem : some_unbound atoms b ts ≡ unbound_changed atoms b fs (toggled fs ts)
  unfolding some_unbound
  some_unbound_lem = bool_eq _ _ into out
    where
      into : any (λ f. not (fact_bound atoms b f)) ts ≡ true → unbound_changed atoms b fs (toggled fs ts) ≡ true
      into e =
          let (t, m, h) = any_out (λ f. not (fact_bound atoms b f)) ts e in
          changed_in atoms b fs (toggled fs ts) order turned_order t (not-true _ h) (turns_one t m)

      out : unbound_changed atoms b fs (toggled fs ts) ≡ true → any (λ f. not (fact_bound atoms b f)) ts ≡ true
      out e =
          let (t, h, one) = changed_out atoms b fs (toggled fs ts) order turned_order e in
          any_in (λ f. not (fact_bound atoms b f)) ts (one_turns t one) (not_in _ h)
