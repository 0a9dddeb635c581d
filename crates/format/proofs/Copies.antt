-- What is of good form is so wherever its bytes stand, in a book whose schema says the same: facts, states, steps, a record, records in a
-- row. Each test that passes reads only bytes within the record. The steps recorded in it are the same, with their places moved.
use Prim.Native.Nat.{ℕ, zero, suc, ◌+◌, ◌-◌, ◌*◌, ◌≤◌}
use mathlib.Core.Path.{◌≡◌, refl, sym, ap, ◌∙◌}
use mathlib.Core.Bool.{false}
use mathlib.Core.List.{List, [], ◌∷◌, ◌++◌, append-nil, append_assoc}
use native.Mathlib.Omega.{arith}
use borrow.Author.Tests.{ltb-false, le-ltb}
use lib.ListN.{length}
use Rattle.answer.specs.Answer.{Answer, Good}
use Rattle.truth.specs.Bools.{neither}
use Rattle.answer.proofs.Laws.{passed, refuse_unmet, bind_good}
use Rattle.answer.specs.Walk.{walk}
use Rattle.answer.proofs.Entries.{entries_right, entries_all}
use Rattle.input.specs.Bytes.{byte_at, two}
use Rattle.terms.specs.declared.Fact.{Fact}
use Rattle.terms.specs.declared.Sections.{Sections}
use Rattle.terms.specs.Schema.{Schema, TypedObjects, schema, typed_objects, out_of_range}
use Rattle.terms.specs.Facts.{fact_at, no_fact}
use Rattle.terms.specs.Typing.{Falling}
use Rattle.terms.specs.Agree.{SameSchema}
use Rattle.terms.proofs.Agree.{SameObjects, fact_over, step_over}
use Rattle.limits.specs.Limits.{head_size, count_size, fact_size, step_size, max_facts, max_objects, max_steps}
use Rattle.format.specs.Filed.{filed_step_at, filed_fact}
use Rattle.format.specs.Form.{Form, most_listed, state_after}
use Rattle.format.specs.States.{cut, count_bad, fact_refused, facts, list, next_state}
use Rattle.format.specs.Records.{objects_in, steps_in, length_in, head_bad, record_head, object, failed_changes, step, steps, objects_of, record_at, step_refused}
use Rattle.format.specs.LookOver.{step_total}
use Rattle.format.specs.Lists.{list_at, list_end}
use Rattle.format.specs.Decode.{RecordedStep, first_at, recorded_step, recorded_steps_at, steps_of_record, steps_of_records, placed_at, placed_by}
use Rattle.format.proofs.States.{fact_good, count_within, list_ends, next_good, next_in_lem}
use Rattle.format.proofs.Records.{head_in_limits, head_passed, head_limits, object_entry, step_good, step_kept, step_reach, step_ends, steps_parted, steps_within, record_good, record_in_lem, record_within}
use Rattle.format.proofs.Typing.{objects_known}
use Rattle.format.proofs.Reading.{Copied, Facing, facing_on, byte_copied, two_copied, fact_copied, filed_step_copied, went_copied, head_copied, end_copied, list_copied}
use Rattle.answer.proofs.Walks.{walk_induction, walk_beside}

pub placed_same : (fs : List RecordedStep) → placed_by (λ p. p) fs ≡ fs
unfolding placed_by placed_at
placed_same [] = refl
placed_same (f ∷ fs) = ap (λ gs. f ∷ gs) (placed_same fs)

pub placed_append : (to : ℕ → ℕ) (fs gs : List RecordedStep) → placed_by to (fs ++ gs) ≡ placed_by to fs ++ placed_by to gs
unfolding placed_by
placed_append to [] gs = refl
placed_append to (f ∷ fs) gs = rw (placed_append to fs gs)

-- a list does not end before it begins
low_end : (s : List ℕ) (at : ℕ) → at ≤ list_end s at
unfolding list_end
low_end s at = omega arith

-- where it is good, and ends by `most`, it is good facing that too
abbrev Beside : (ℕ → Answer) → (ℕ → Answer) → ℕ → ℕ → ℕ → Type 0
Beside f g at at' most = (a b next : ℕ) → Facing at at' a b → next ≤ most → f a ≡ Good next → (m : ℕ) × Facing at at' next m × (g b ≡ Good m)

module _ {s t : List ℕ} {at at' size : ℕ} (c : Copied s at t at' size) where
  -- ---- within a record that ends at `end`

  module _ (S T : Schema) (same : SameSchema S T) (fall : Falling S) (kinds : S.kinds ≡ T.kinds) (H K : TypedObjects) (typed : SameObjects S.kinds H K) (end end' : ℕ) (ends : Facing at at' end end') (short : end ≤ at + size) where
    facts_beside : (read : Fact → Fact) (n : ℕ) (last : Fact) (a b next : ℕ) → Facing at at' a b → facts read 8 S H s end n last a ≡ Good next
        → (m : ℕ) × Facing at at' next m × (facts read 8 T K t end' n last b ≡ Good m)
    unfolding facts fact_refused cut
    facts_beside read zero last a b next f e = let p : a ≡ next = cc in (b, rw (← p) f, refl)
    facts_beside read (suc n) last a b next f e =
        let (test, rest) = passed _ _ _ _ _ e in
        let (reach, right, order) = fact_good read S H s end last a test in
        let i = fact_copied c a b f (omega arith) in
        let (m, g, good) = facts_beside read n (read (fact_at s a)) (a + fact_size) (b + fact_size) next (facing_on f fact_size) rest in
        (m, g, refuse_unmet _ _ _ _ (rw (i, le-ltb end' (b + fact_size) (omega arith), fact_over S T same fall S.kinds (omega arith) (omega (arith, kinds)) H K typed (read (fact_at s a)) right, order)) ∙ rw i good)

    list_beside : (read : Fact → Fact) (most : ℕ) → Beside (list read 8 most S H s end) (list read 8 most T K t end') at at' end
    unfolding list count_bad cut
    list_beside read most a b next f l e =
        let (test, rest) = passed _ _ _ _ _ e in
        let (reach, few) = count_within most s end a test in
        let i = two_copied c a b f (omega arith) in
        let (m, g, good) = facts_beside read (two s a) no_fact (a + count_size) (b + count_size) next (facing_on f count_size) rest in
        (m, g, refuse_unmet _ _ _ _ (rw (i, le-ltb end' (b + count_size) (omega arith), le-ltb most (two s a) few)) ∙ rw i good)

    module _ (form : Form) where
      -- the facts that hold after a step are the same, by the same facts before it
      after_beside : (before : List Fact) (a b : ℕ) → Facing at at' a b → list_end s a ≤ end → state_after form t before b ≡ state_after form s before a
      unfolding state_after
      after_beside before a b f l = rw (list_copied c a b f (omega arith))

      next_beside : (before : List Fact) → Beside (next_state form S H s end before) (next_state form T K t end' before) at at' end
      next_beside before a b next f l e =
          let (good, few) = next_good form S H s end before a next e in
          let reach = (list_ends _ (most_listed form) 8 S H s end a next good).1 in
          let (m, g, good') = list_beside (filed_fact form) (most_listed form) a b next f l good in
          (m, g, next_in_lem form T K t end' before b m good' (rw (after_beside before a b f reach) few))

      -- row 27 reads the mark and the state after the step
      kept_beside : (before : List Fact) (a b : ℕ) → Facing at at' a b → a + step_size ≤ end → list_end s (a + step_size) ≤ end → failed_changes form t before b ≡ failed_changes form s before a
      unfolding failed_changes
      kept_beside before a b f l reach =
          rw (went_copied c a b f (omega arith), after_beside before (a + step_size) (b + step_size) (facing_on f step_size) reach)

      step_beside : (before : List Fact) → Beside (step form S H s end before) (step form T K t end' before) at at' end
      unfolding step step_refused cut
      step_beside before a b next f l e =
          let (suits, different, behind) = step_good form S H s end before a next e in
          let reach = step_reach form S H s end before a next e in
          let i = filed_step_copied c a b f (omega arith) in
          let kept = kept_beside before a b f reach (step_ends form S H s end before a next e).1 ∙ step_kept form S H s end before a next e in
          let (m, g, good) = next_beside before (a + step_size) (b + step_size) next (facing_on f step_size) l behind in (
            m,
            g,
            refuse_unmet _ _ _ _ (rw (i, le-ltb end' (b + step_size) (omega arith), step_over S T same fall S.kinds (omega arith) (omega (arith, kinds)) H K typed (filed_step_at s a) suits))
                ∙ refuse_unmet _ _ _ _ (rw i different) ∙ bind_good _ _ _ good ∙ refuse_unmet _ _ _ _ kept,
          )

      steps_beside : (n : ℕ) (before : List Fact) → Beside (steps form S H s end n before) (steps form T K t end' n before) at at' end
      unfolding steps
      steps_beside zero before a b last f l e = let p : a ≡ last = cc in (b, rw (← p) f, refl)
      steps_beside (suc n) before a b last f l e =
          let (good, rest) = steps_parted form S H s end n before a last e in
          let (place, within) = step_ends form S H s end before a _ good in
          let (m, g, good') = step_beside before a b _ f within good in
          let (z, g', rest') = steps_beside n (state_after form s before (a + step_size)) _ m last g l rest in
          (z, g', bind_good _ _ _ good' ∙ rw (after_beside before (a + step_size) (b + step_size) (facing_on f step_size) within) rest')

  objects_beside : (kinds end end' : ℕ) → Facing at at' end end' → end ≤ at + size → (n a b last : ℕ) → Facing at at' a b
      → walk (object kinds s end) n a ≡ Good last → walk (object kinds t end') n b ≡ Good (b + n)
  unfolding cut
  objects_beside kinds end end' ends short n a b last f e =
      entries_all _ _ 7 1 (object_entry kinds t end') n b
      (λ i k.
      let (reach, right) = neither (cut end (a + 1 * i) 1) (out_of_range kinds (byte_at s (a + 1 * i))) (entries_right _ _ 7 1 (object_entry kinds s end) n a last e i k) in
      let w = ltb-false end (a + 1 * i + 1) reach in
      rw (byte_copied c (a + 1 * i) (b + 1 * i) (facing_on f (1 * i)) (omega arith), le-ltb end' (b + 1 * i + 1) (omega arith)) right)
      ∙ ap Good (omega arith)

  -- a head that row 6 does not refuse, and one that no row does
  pub head_kept : (a b : ℕ) → Facing at at' a b → a + length_in s a ≤ at + size → head_bad s a ≡ false → head_bad t b ≡ false
  unfolding head_bad cut
  head_kept a b f l e =
      let within = c.within in
      let (objects, few, long, reach) = head_in_limits s a e in
      let (x, y, z) = head_copied c a b f (omega arith) in
      rw (x, y, z, le-ltb (length t) (b + head_size) (omega arith), le-ltb (length t) (b + length_in s a) (omega arith))
      (rw (le-ltb max_objects (objects_in s a) objects, le-ltb max_steps (steps_in s a) few, le-ltb (length_in s a) head_size long))

  head_beside : (a b : ℕ) → Facing at at' a b → a + length_in s a ≤ at + size → {end : ℕ} → record_head s a ≡ Good end → record_head t b ≡ Good (b + length_in t b)
  unfolding record_head
  head_beside a b f l e =
      let (right, some, end) = head_passed s a e in
      let long = (head_limits s a e).1 in
      let (x, y, z) = head_copied c a b f (omega arith) in
      refuse_unmet _ _ _ _ (head_kept a b f l right) ∙ refuse_unmet _ _ _ _ (rw y some)

  typed_beside : (kinds a b : ℕ) → Facing at at' a b → a + head_size + objects_in s a ≤ at + size → objects_in t b ≡ objects_in s a
      → (end last : ℕ) → walk (object kinds s end) (objects_in s a) (a + head_size) ≡ Good last
      → SameObjects kinds (typed_objects (objects_of s a) s) (typed_objects (objects_of t b) t)
  unfolding typed_objects objects_of
  typed_beside kinds a b f l e end last good =
      record {
        count = sym e;
        known = λ x low high. objects_known s kinds end (objects_in s a) (a + head_size) last good x.0 low high;
        kind = λ x low high. sym (byte_copied c (a + head_size + (x.0 - 1)) (b + head_size + (x.0 - 1)) (facing_on (facing_on f head_size) (x.0 - 1)) (omega arith));
      }

  -- ---- records, in a book whose schema says the same

  module _ (form : Form) (h k : Sections) (kinds : h.kinds ≡ k.kinds) (same : SameSchema (schema h s) (schema k t)) (fall : Falling (schema h s)) where
    record_beside : Beside (record_at form h s) (record_at form k t) at at' (at + size)
    unfolding schema
    record_beside a b next f l e =
        let g = record_good form h s a next e in
        let place = g.end in
        let limits = head_limits s a g.head in
        let (x, y, z) = head_copied c a b f (omega arith) in
        let end : ℕ = a + length_in s a in
        let end' : ℕ = b + length_in t b in
        let short : end ≤ at + size = omega arith in
        let ends : Facing at at' end end' = record { low = omega arith; level = omega arith } in
        let within = (list_ends _ max_facts 8 _ _ s end _ _ g.start).1 in
        let low = low_end s (first_at s a) in
        let first : Facing at at' (first_at s a) (first_at t b) = record { low = omega arith; level = omega arith } in
        let typed = typed_beside h.kinds a b f (omega arith) x end _ g.objects in
        let objects = objects_beside h.kinds end end' ends short (objects_in s a) (a + head_size) (b + head_size) _ (facing_on f head_size) g.objects in
        let (m₂, f₂, start) = list_beside _ _ same fall kinds _ _ typed end end' ends short (filed_fact form) max_facts _ _ _ first within g.start in
        let after : m₂ ≡ list_end t (first_at t b) = (list_ends _ max_facts 8 _ _ t end' _ m₂ start).0 in
        let reach = (steps_within form _ _ s end (steps_in s a) _ _ g.last within g.steps).1 in
        let (m₃, f₃, steps) = steps_beside _ _ same fall kinds _ _ typed end end' ends short form (steps_in s a) (list_at s (first_at s a)) _ m₂ g.last f₂ reach g.steps in
        let full : end ≤ g.last = ltb-false g.last end g.full in (
          end',
          rw g.end ends,
          record_in_lem form k t b end'
              (record {
                last = m₃;
                head = head_beside a b f short g.head;
                objects = rw (x, ← kinds) objects;
                start = start ∙ ap Good after;
                steps = rw (y, list_copied c (first_at s a) (first_at t b) first (omega arith), ← after) steps;
                full = le-ltb m₃ end' (omega arith);
                end = refl;
              }),
        )

    -- A record of good form, and records in a row, are of good form where their bytes stand.
    pub record_copied : (next : ℕ) → record_at form h s at ≡ Good next → next ≤ at + size → record_at form k t at' ≡ Good (at' + length_in s at)
    record_copied next e l =
        let (m, f, good) = record_beside at at' next (record { low = omega arith; level = omega arith }) l e in
        let place = record_within form h s at next e in
        good ∙ ap Good (omega arith)

    pub records_copied : (n last last' : ℕ) → last ≡ at + size → last' ≡ at' + size → walk (record_at form h s) n at ≡ Good last → walk (record_at form k t) n at' ≡ Good last'
    records_copied n last last' p q e =
        let (m, f, good) = walk_beside (record_at form h s) (record_at form k t) (Facing at at') (at + size) (λ a next e. omega (arith, record_within form h s a next e)) record_beside n at at' last (record { low = omega arith; level = omega arith }) (omega arith) e in
        good ∙ ap Good (omega arith)

  -- ---- the steps recorded in them, by places that are called the same

  module _ (f g : ℕ → ℕ) (named : (i : ℕ) → f (at + i) ≡ g (at' + i)) where
    place_same : (a b : ℕ) → Facing at at' a b → f a ≡ g b
    place_same a b face = go (a - at) a b (omega arith) (omega arith)
      where
        go : (j x y : ℕ) → x ≡ at + j → y ≡ at' + j → f x ≡ g y
        go j x y p q = rw (p, q) (named j)

    module _ (form : Form) (S : Schema) (H : TypedObjects) (end : ℕ) (short : end ≤ at + size) where
      steps_recorded : (n : ℕ) (before : List Fact) (a b last : ℕ) → Facing at at' a b → steps form S H s end n before a ≡ Good last
          → placed_by f (recorded_steps_at form s n before a) ≡ placed_by g (recorded_steps_at form t n before b)
      unfolding recorded_steps_at recorded_step placed_by placed_at state_after
      steps_recorded zero before a b last face e = refl
      steps_recorded (suc n) before a b last face e =
          let (good, rest) = steps_parted form S H s end n before a last e in
          let within = (step_ends form S H s end before a _ good).1 in
          let reach = step_reach form S H s end before a _ good in
          let face' = facing_on face step_size in
          rw (
            place_same a b face,
            filed_step_copied c a b face (omega arith),
            went_copied c a b face (omega arith),
            list_copied c (a + step_size) (b + step_size) face' (omega arith),
            steps_recorded n (state_after form s before (a + step_size)) (list_end s (a + step_size)) (list_end t (b + step_size)) last (end_copied c (a + step_size) (b + step_size) face' (omega arith)) rest,
          )

    module _ (form : Form) (h : Sections) where
      record_recorded : (a b next : ℕ) → Facing at at' a b → next ≤ at + size → record_at form h s a ≡ Good next
          → placed_by f (steps_of_record form s a) ≡ placed_by g (steps_of_record form t b)
      unfolding steps_of_record
      record_recorded a b next face l e =
          let r = record_good form h s a next e in
          let place = r.end in
          let limits = head_limits s a r.head in
          let within = (list_ends _ max_facts 8 _ _ s (a + length_in s a) _ _ r.start).1 in
          let low = low_end s (first_at s a) in
          let (x, y, z) = head_copied c a b face (omega arith) in
          let first : Facing at at' (first_at s a) (first_at t b) = record { low = omega arith; level = omega arith } in
          rw (y, list_copied c (first_at s a) (first_at t b) first (omega arith))
          (steps_recorded form _ _ (a + length_in s a) (omega arith) (steps_in s a) (list_at s (first_at s a)) _ _ r.last (end_copied c (first_at s a) (first_at t b) first (omega arith)) r.steps)

      -- records in a row have as many steps, and the same
      records_recorded : (n a last : ℕ) → walk (record_at form h s) n a ≡ Good last
          → (a ≤ last) × (last ≤ at + size → (b : ℕ) → Facing at at' a b → (step_total t n b ≡ step_total s n a) × (placed_by f (steps_of_records form s n a) ≡ placed_by g (steps_of_records form t n b)))
      unfolding step_total steps_of_records placed_by
      records_recorded =
          walk_induction (record_at form h s) _ (λ a. (omega arith, λ l b face. (refl, refl)))
          (λ n a next last good rest.
          let (place, within) = record_within form h s a next good in
          let long = head_limits s a (record_good form h s a next good).head in (
            omega arith,
            λ l b face.
                let (x, y, z) = head_copied c a b face (omega arith) in
                let (total, same) = rest.1 l (b + length_in s a) (record { low = omega arith; level = omega arith }) in (
                  rw (y, z, total, place),
                  rw (z, ← place, placed_append f (steps_of_record form s a) (steps_of_records form s n next), placed_append g (steps_of_record form t b) (steps_of_records form t n (b + length_in s a)), record_recorded a b next face (omega arith) good, same),
                ),
          ))

      -- What is recorded in a record of good form, and in records in a row, is recorded where their bytes stand, and the count of steps is the same.
      pub recorded_copied : (next : ℕ) → record_at form h s at ≡ Good next → next ≤ at + size → placed_by f (steps_of_record form s at) ≡ placed_by g (steps_of_record form t at')
      recorded_copied next e l = record_recorded at at' next (record { low = omega arith; level = omega arith }) l e

      pub all_recorded_copied : (n last : ℕ) → walk (record_at form h s) n at ≡ Good last → last ≤ at + size
          → (step_total t n at' ≡ step_total s n at) × (placed_by f (steps_of_records form s n at) ≡ placed_by g (steps_of_records form t n at'))
      all_recorded_copied n last e l = (records_recorded n at last e).1 l at' (record { low = omega arith; level = omega arith })

-- one record after records in a row: its steps come last
module _ (form : Form) (h : Sections) (s : List ℕ) where
  pub recorded_last : (n at last : ℕ) → walk (record_at form h s) n at ≡ Good last
      → (step_total s (suc n) at ≡ step_total s n at + steps_in s last) × (steps_of_records form s (suc n) at ≡ steps_of_records form s n at ++ steps_of_record form s last)
  unfolding step_total steps_of_records
  recorded_last =
      walk_induction (record_at form h s) _ (λ at. (omega arith, append-nil (steps_of_record form s at)))
      (λ n at next last good rest.
      let place = (record_within form h s at next good).0 in (
        rw (← place) (omega (arith, rest.0)),
        rw (← place, rest.1) (sym (append_assoc (steps_of_record form s at) (steps_of_records form s n next) (steps_of_record form s last))),
      ))
