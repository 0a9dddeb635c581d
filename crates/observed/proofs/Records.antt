-- Records one by one: what is held after a record comes from what was held before it, its bytes and its offset, and all records give what all their
-- steps give.
use Prim.Native.Nat.{ℕ, zero, suc, ◌+◌, ◌≤◌, ◌<◌}
use native.Mathlib.Omega.{arith}
use mathlib.Core.Path.{◌≡◌, refl, sym, ap, ap₂, ◌∙◌}
use mathlib.Core.List.{List, [], ◌∷◌, ◌++◌, append_assoc}
use Rattle.answer.specs.Answer.{Good}
use Rattle.answer.specs.Walk.{walk}
use Rattle.terms.specs.declared.Sections.{Sections}
use Rattle.format.specs.Form.{Form}
use Rattle.format.specs.Records.{record_at}
use Rattle.format.specs.Decode.{RecordedStep, steps_of_record, steps_of_records}
use Rattle.format.specs.Parts.{record_part, records_at, offset_after}
use Rattle.format.proofs.Records.{record_within}
use Rattle.format.proofs.Parts.{record_length, record_alone}
use Rattle.observed.specs.Observed.{Observed, observe, observe_all, observed_after, observed_after_all}
use Rattle.answer.proofs.Walks.{walk_induction}

observe_append : (fs gs : List RecordedStep) (h : Observed) → observe_all (fs ++ gs) h ≡ observe_all gs (observe_all fs h)
unfolding observe_all
observe_append [] gs h = refl
observe_append (f ∷ fs) gs h = observe_append fs gs (observe f h)

pub held_none : (form : Form) (s : List ℕ) (at : ℕ) (o : Observed) → observed_after_all form (records_at s zero at) at o ≡ o
unfolding records_at observed_after_all
held_none form s at o = refl

module _ (form : Form) (h : Sections) (s : List ℕ) where
  module _ (at next : ℕ) (good : record_at form h s at ≡ Good next) where
    -- The bytes of a good record say its steps.
    pub observed_record : (o : Observed) → observed_after form (record_part s at) at o ≡ observe_all (steps_of_record form s at) o
    unfolding observed_after
    observed_record o = rw (← record_alone form h s at next good)

    -- Holding some records is holding the first, and then the rest.
    pub held_more : (n : ℕ) (o : Observed)
        → observed_after_all form (records_at s (suc n) at) at o ≡ observed_after_all form (records_at s n next) next (observed_after form (record_part s at) at o)
    unfolding records_at observed_after_all
    held_more n o =
        let place = sym (record_within form h s at next good).0 in
        ap₂ (λ (x y : ℕ). observed_after_all form (records_at s n x) y (observed_after form (record_part s at) at o)) place
        (ap (λ (l : ℕ). at + l) (record_length form h s at next good) ∙ place)

  -- Good records in a row give what their steps give.
  pub held_steps : (n from last : ℕ) → walk (record_at form h s) n from ≡ Good last
      → (o : Observed) → observed_after_all form (records_at s n from) from o ≡ observe_all (steps_of_records form s n from) o
  unfolding steps_of_records observe_all
  held_steps =
      walk_induction (record_at form h s) (λ n from last. (o : Observed) → observed_after_all form (records_at s n from) from o ≡ observe_all (steps_of_records form s n from) o)
      (λ from o. held_none form s from o)
      (λ n from next last good rest o.
      held_more from next good n o ∙ rest (observed_after form (record_part s from) from o)
      ∙ rw (observed_record from next good o, (record_within form h s from next good).0)
      (sym (observe_append (steps_of_record form s from) (steps_of_records form s n _) o)))

  -- So do the first of them: their steps come first.
  pub held_first : (n from last : ℕ) → walk (record_at form h s) n from ≡ Good last → (k : ℕ) → k ≤ n
      → (fs gs : List RecordedStep) × (steps_of_records form s n from ≡ fs ++ gs) × ((o : Observed) → observed_after_all form (records_at s k from) from o ≡ observe_all fs o)
  unfolding steps_of_records observe_all
  held_first = walk_induction (record_at form h s) _ (λ from k l. none 0 from k l) (λ n from next last good rest k l. go n from next good rest k l)
    where
      First : ℕ → ℕ → ℕ → Type 0
      First n from k =
          (fs gs : List RecordedStep) × (steps_of_records form s n from ≡ fs ++ gs) × ((o : Observed) → observed_after_all form (records_at s k from) from o ≡ observe_all fs o)

      none : (n from k : ℕ) → k ≤ 0 → First n from k
      none n from k l =
          let e : k ≡ 0 = omega arith in
          ([], steps_of_records form s n from, refl, λ o. rw e (held_none form s from o))

      go : (n from next : ℕ) → record_at form h s from ≡ Good next → ((k : ℕ) → k ≤ n → First n next k) → (k : ℕ) → k ≤ suc n → First (suc n) from k
      go n from next good rest zero l = none (suc n) from 0 (omega arith)
      go n from next good rest (suc k) l =
          let (fs, gs, e, same) = rest k (omega arith) in
          let one : List RecordedStep = steps_of_record form s from in (
            one ++ fs,
            gs,
            ap (λ (x : ℕ). one ++ steps_of_records form s n x) (sym (record_within form h s from next good).0) ∙ ap (λ (l : List RecordedStep). one ++ l) e ∙ sym (append_assoc one fs gs),
            λ o. held_more from next good k o ∙ same _ ∙ ap (observe_all fs) (observed_record from next good o) ∙ sym (observe_append one fs o),
          )

  -- what is held after a number of records from an offset
  abbrev held_at : ℕ → ℕ → Observed → Observed
  held_at n at o = observed_after_all form (records_at s n at) at o

  -- One record more comes after what is held of those before it.
  pub held_next : (n from last : ℕ) → walk (record_at form h s) n from ≡ Good last → (k : ℕ) → k < n → (o : Observed)
      → held_at (suc k) from o ≡ observed_after form (record_part s (offset_after s k from)) (offset_after s k from) (held_at k from o)
  unfolding offset_after
  held_next =
      walk_induction (record_at form h s) _ (λ from k l o. absurd (omega arith))
      (λ n at next last good rest k l o. go n at next good rest k l o)
    where
      go : (n at next : ℕ) → record_at form h s at ≡ Good next
          → ((k : ℕ) → k < n → (o : Observed) → held_at (suc k) next o ≡ observed_after form (record_part s (offset_after s k next)) (offset_after s k next) (held_at k next o))
          → (k : ℕ) → k < suc n → (o : Observed) → held_at (suc k) at o ≡ observed_after form (record_part s (offset_after s k at)) (offset_after s k at) (held_at k at o)
      go n at next good rest zero l o = held_more at next good 0 o ∙ held_none form s next _ ∙ ap (observed_after form (record_part s at) at) (sym (held_none form s at o))
      go n at next good rest (suc k) l o =
          held_more at next good (suc k) o ∙ rest k (omega arith) (observed_after form (record_part s at) at o)
          ∙ ap₂ (λ (x : ℕ) (y : Observed). observed_after form (record_part s (offset_after s k x)) (offset_after s k x) y) (record_within form h s at next good).0
          (sym (held_more at next good k o))
