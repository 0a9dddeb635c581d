-- Rows 1 to 13, 27 and 28 among them, one after the other, by what the calls return, and what the lent sheet holds.
use Prim.Native.Nat.{ℕ, ◌*◌}
use mathlib.Core.Path.{◌≡◌, refl, sym, ap, ◌∙◌}
use mathlib.Core.Bool.{Bool, false}
use mathlib.Core.List.{List, [], ◌∷◌}
use lib.ListN.{length}
use borrow.Author.Tests.{eq-eqb, ne_eqb}
use Rattle.std.proofs.Common.{Result, Ok, Err, IfOk}
use Rattle.answer.specs.Answer.{Answer, Good, Refused, ◌>>=◌, refuse, first_refused, is_refused, kept}
use Rattle.answer.specs.declared.Refusal.{Refusal}
use Rattle.answer.specs.Refusal.{refused_by}
use Rattle.answer.proofs.Laws.{good_refused, passed, refuse_unmet, bind_good, bind_refused, bind_assoc, parted, refused_kept}
use Rattle.terms.specs.declared.Sections.{Sections}
use Rattle.terms.specs.Sections.{sections_of}
use Rattle.terms.specs.Schema.{schema}
use Rattle.format.specs.Form.{Form}
use Rattle.format.specs.Header.{sections}
use Rattle.format.specs.LookOver.{look_over, all_records, look_over_by}
use Rattle.jobs.specs.Planning.{failed_steps, schema_of, steps_of_book, transitions_of}
use Rattle.jobs.specs.Learn.{unbound_effects, conflicting_move, inconsistency, refutation, learnable, learn, learn_bytes, rule_sheet, rules_from}
use Rattle.observed.specs.Observed.{nothing_seen, held_after, observed_of}
use Rattle.observed.specs.Rules.{unbound_answer, conflict_among, sheet_observed, refuted_observed}
use Rattle.observed.specs.Begun.{Begun}
use Rattle.onewalk.proofs.Sections.{nothing_alone}
use Rattle.onewalk.proofs.OneWalk.{observed_taught, observed_seen, refuted_held, unrefuted_held}
use Rattle.observerecords.specs.declared.noticed.Walked.{Walked}
use Rattle.observerecords.specs.Observing.{held_with, IsHeld, RecordsObserved}
use Rattle.learner.specs.Learner.{FormObserved, BookObserved, LearnOutcome}

-- a refusal is all that is said
pub refused_book : (form : Form) (s bytes : List ℕ) (e : Refusal) → refused_by e ≡ learnable form s → BookObserved form s bytes (refused_by e)
refused_book form s bytes e p = record { says = p; observes = λ m f. good_refused m _ _ (sym f) }

module _ (s : List ℕ) (h : Sections) (own : h ≡ sections_of s) where
  pub schema_own : schema h s ≡ schema_of s
  unfolding schema_of
  schema_own = rw own

  pub moves_own : h.moves.count ≡ (schema_of s).moves
  unfolding schema_of schema
  moves_own = rw own

module _ (form : Form) (s : List ℕ) (h : Sections) (own : h ≡ sections_of s) where
  parts : look_over form s ≡ (sections h s >>= λ _. all_records form h s h.records.count h.records.at)
  unfolding look_over look_over_by
  parts = rw own

  -- rows 1 to 5
  pub at_sections : (bytes : List ℕ) (e : Refusal) → refused_by e ≡ sections h s → FormObserved form s bytes (Err e)
  at_sections bytes e p = record { says = sym (parts ∙ bind_refused _ _ _ _ (sym p)); observes = tt }

  -- what is observed after all records of a book
  all_observed : (first bytes : List ℕ) (w : Result Walked Refusal) (k : ℕ)
      → sections h s ≡ Good k
      → first ≡ (nothing_seen (schema h s)).masks
      → RecordsObserved form h s h.records.count h.records.at (held_with first (record { named = 0; failed = false })) bytes w
      → IfOk w (λ x. IsHeld (observed_of form s) bytes x.noticed)
  unfolding observed_of held_after schema_of nothing_seen held_with
  all_observed first bytes w k good e r = rw (nothing_alone s k (rw own at good)) (rw (e, own) at r.observes)

  -- rows 6 to 10 and 27
  pub at_records : (first bytes : List ℕ) (w : Result Walked Refusal) (k : ℕ)
      → Good k ≡ sections h s
      → first ≡ (nothing_seen (schema h s)).masks
      → RecordsObserved form h s h.records.count h.records.at (held_with first (record { named = 0; failed = false })) bytes w
      → FormObserved form s bytes w
  at_records first bytes w k good e n = record { says = n.says ∙ sym (parts ∙ bind_good _ _ k (sym good)); observes = all_observed first bytes w k (sym good) e n }

-- a row over a list is good with the number 0 alone
row_zero : {A : Type 0} (bad : A → Bool) (num : ℕ) (placed : A → ℕ) (xs : List A) (n : ℕ) → Good n ≡ first_refused bad num placed xs → Good 0 ≡ first_refused bad num placed xs
unfolding first_refused
row_zero bad num placed [] n e = refl
row_zero bad num placed (x ∷ xs) n e =
    let p = passed (bad x) num (placed x) n (λ _. first_refused bad num placed xs) (sym e) in
    row_zero bad num placed xs n (sym p.1) ∙ sym (refuse_unmet (bad x) num (placed x) (λ _. first_refused bad num placed xs) p.0)

-- row 28 of a book of good form, by what is held
module _ (form : Form) (s : List ℕ) (n : ℕ) (good : look_over form s ≡ Good n) where
  pub begun_held : (bytes : List ℕ) → bytes ≡ (observed_of form s).masks → Begun (schema_of s) bytes
  begun_held bytes e = let seen = observed_seen form s n good in rw e (record { sized = seen.sized; atoms = seen.atoms })

  pub refuted_by : (bytes : List ℕ) → bytes ≡ (observed_of form s).masks → (r : Answer) → r ≡ refuted_observed bytes (steps_of_book form s) → r ≡ refutation form s
  refuted_by bytes e r told = told ∙ rw e (sym (refuted_held form s n good))

  pub refuted_ok : (bytes : List ℕ) → bytes ≡ (observed_of form s).masks → (k : ℕ) → Good k ≡ refuted_observed bytes (steps_of_book form s) → Good 0 ≡ refutation form s
  unfolding refuted_observed
  refuted_ok bytes is k told = refuted_by bytes is _ (row_zero _ 28 _ (failed_steps (steps_of_book form s)) k told)

  pub unrefuted_by : (observed_of form s).failed ≡ false → Good 0 ≡ refutation form s
  unrefuted_by e = sym (refuted_held form s n good ∙ unrefuted_held form s n good e)

-- a book whose form is refused
pub at_form : (form : Form) (s bytes : List ℕ) (e : Refusal) → FormObserved form s bytes (Err e) → BookObserved form s bytes (refused_by e)
unfolding learnable
at_form form s bytes e o = refused_book form s bytes e (sym (bind_refused _ _ _ _ (sym o.says)))

-- rows 11, 12 and 28 from what is held, after rows 1 to 10 and 27
module _ (form : Form) (s bytes : List ℕ) (w : Walked) (looked : FormObserved form s bytes (Ok w)) where
  pub formed : look_over form s ≡ Good w.value
  formed = sym looked.says

  conflicting : ℕ → Answer
  conflicting _ = conflicting_move (schema_of s) (transitions_of form s) >>= λ _. refutation form s >>= λ _. Good w.value

  rest : learnable form s ≡ (unbound_effects (schema_of s) (steps_of_book form s) >>= conflicting)
  unfolding learnable inconsistency conflicting
  rest = bind_good _ _ _ formed ∙ bind_assoc (unbound_effects (schema_of s) (steps_of_book form s)) _ _

  row11 : (c : Answer) → c ≡ unbound_answer w.noticed.named → c ≡ unbound_effects (schema_of s) (steps_of_book form s)
  row11 c e = e ∙ ap unbound_answer looked.observes.named ∙ (observed_taught form s _ formed).row11

  pub at_unbound : (e : Refusal) → refused_by e ≡ unbound_answer w.noticed.named → BookObserved form s bytes (refused_by e)
  at_unbound e p = refused_book form s bytes e (sym (bind_refused _ conflicting _ _ (sym (row11 _ p))) ∙ sym rest)

  module _ (bound : Good 0 ≡ unbound_answer w.noticed.named) (h : Sections) (own : h ≡ sections_of s) where
    row12 : (c : Answer) → c ≡ conflict_among bytes h.moves.count → c ≡ conflicting_move (schema_of s) (transitions_of form s)
    unfolding transitions_of
    row12 c e = e ∙ rw (moves_own s h own, looked.observes.masks) (observed_taught form s _ formed).row12

    behind : (conflicting_move (schema_of s) (transitions_of form s) >>= λ _. refutation form s >>= λ _. Good w.value) ≡ learnable form s
    unfolding conflicting
    behind = sym (bind_good _ conflicting 0 (sym (row11 _ bound))) ∙ sym rest

    pub at_conflict : (e : Refusal) → refused_by e ≡ conflict_among bytes h.moves.count → BookObserved form s bytes (refused_by e)
    at_conflict e p = refused_book form s bytes e (sym (bind_refused _ _ _ _ (sym (row12 _ p))) ∙ behind)

    module _ (free : Good 0 ≡ conflict_among bytes h.moves.count) where
      last : (refutation form s >>= λ _. Good w.value) ≡ learnable form s
      last = sym (bind_good _ (λ _. refutation form s >>= λ _. Good w.value) 0 (sym (row12 _ free))) ∙ behind

      pub at_refuted : (e : Refusal) → refused_by e ≡ refutation form s → BookObserved form s bytes (refused_by e)
      at_refuted e p = refused_book form s bytes e (sym (bind_refused _ _ _ _ (sym p)) ∙ last)

      pub at_end : Good 0 ≡ refutation form s → BookObserved form s bytes (Good w.value)
      at_end p = record { says = sym (bind_good _ (λ _. Good w.value) 0 (sym p)) ∙ last; observes = λ m f. looked.observes.masks }

-- learning, by what observing the book returned
pub learn_refused : (form : Form) (s old : List ℕ) (e : Refusal) → refused_by e ≡ learnable form s → LearnOutcome form s old old (refused_by e)
unfolding learn learn_bytes is_refused
learn_refused form s old e p =
    let l : refused_by e ≡ learn form s (length old) = sym (bind_refused (learnable form s) _ _ _ (sym p)) in
    record { says = l; bytes = refused_kept _ (refused_by e) _ old l refl }

module _ (form : Form) (s old : List ℕ) (m : ℕ) (good : learnable form s ≡ Good m) where
  -- row 13
  pub learn_size : (length old ≡ 128 * (schema_of s).moves → ⊥) → LearnOutcome form s old old (Refused 13 0)
  unfolding learn learn_bytes kept refuse ◌>>=◌
  learn_size h =
      let l : learn form s (length old) ≡ Refused 13 0 = rw (good, ne_eqb (length old) (128 * (schema_of s).moves) h) in
      record { says = sym l; bytes = rw l }

  pub learn_done : (new : List ℕ) → length old ≡ 128 * (schema_of s).moves → new ≡ rule_sheet form s → LearnOutcome form s old new (Good m)
  unfolding learn learn_bytes kept refuse ◌>>=◌
  learn_done new h e =
      let l : learn form s (length old) ≡ Good m = rw (good, eq-eqb (length old) (128 * (schema_of s).moves) h) in
      record { says = sym l; bytes = rw (l, e) }

-- the sheet from what is observed
pub sheet_by : (form : Form) (s : List ℕ) (m : ℕ) (h : Sections) (bytes new : List ℕ) → h ≡ sections_of s → learnable form s ≡ Good m → bytes ≡ (observed_of form s).masks
    → new ≡ sheet_observed bytes h.moves.count 1 → new ≡ rule_sheet form s
unfolding learnable transitions_of rules_from rule_sheet
sheet_by form s m h bytes new own good e f =
    let p = parted (look_over form s) m _ good in
    f ∙ rw (moves_own s h own, e) (observed_taught form s p.0 p.1).sheet

-- a book that learns is of good form
pub form_good : (form : Form) (s : List ℕ) (m : ℕ) → learnable form s ≡ Good m → (n : ℕ) × (look_over form s ≡ Good n)
unfolding learnable
form_good form s m good = let p = parted (look_over form s) m _ good in (p.0, p.1)
