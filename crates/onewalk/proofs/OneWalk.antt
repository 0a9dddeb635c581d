-- A book of good form is learned in one walk over its records.
use Prim.Native.Nat.{ℕ, zero, suc, ◌+◌, ◌-◌, ◌≤◌, ◌<◌}
use native.Mathlib.Decide.{dec_lt}
use native.Mathlib.Omega.{arith}
use mathlib.Core.Path.{◌≡◌, refl, sym, ap, ap₂, ◌∙◌}
use mathlib.Core.Logic.{◌⊎◌, inl, inr}
use mathlib.Core.Bool.{Bool, true, false, cond}
use mathlib.Core.List.{List, [], ◌∷◌, ◌++◌}
use lib.Dec.{eqb}
use lib.ListN.{length, get_or, length-append, get_or-append}
use lib.Seq.{take_at, get_or-append-add}
use Rattle.answer.specs.Answer.{Answer, Good, ◌>>=◌}
use Rattle.truth.specs.Bools.{decide}
use Rattle.answer.proofs.Laws.{parted}
use Rattle.input.specs.Bytes.{byte_at, two}
use Rattle.output.specs.Written.{two_bytes}
use Rattle.limits.specs.Limits.{max_length, observed_size}
use Rattle.mask.specs.Bits.{Bytes}
use Rattle.terms.specs.Sections.{sections_of}
use Rattle.format.specs.Form.{Form}
use Rattle.format.specs.Header.{sections}
use Rattle.format.specs.LookOver.{look_over, look_over_by}
use Rattle.format.specs.Decode.{RecordedStep, steps_of_records, recorded_steps}
use Rattle.format.specs.Parts.{record_part, sections_part, records_of}
use Rattle.format.proofs.LookOver.{LookedOver, look_over_good}
use Rattle.format.proofs.Parts.{parts_joined}
use Rattle.quantify.specs.Quantify.{Mem, here, there}
use Rattle.quantify.proofs.Members.{mem_left}
use Rattle.jobs.specs.Planning.{schema_of, steps_of_book, transitions_of}
use Rattle.jobs.specs.Learn.{conflicting_move, inconsistency, rule_sheet, rules_from, learned_from, refutation, learnable}
use Rattle.observed.specs.Observed.{Observed, observe, observe_by, failure_seen, first_named, observe_all, observed_after, nothing_seen, held_after, observed_of}
use Rattle.observed.specs.Rules.{conflict_among, refuted_observed}
use Rattle.observed.specs.Seen.{Seen}
use Rattle.observed.specs.Taught.{Taught}
use Rattle.observed.proofs.Observe.{observe_went, observe_failed, seen_observed}
use Rattle.observed.proofs.Refuted.{refuted_none}
use Rattle.observed.proofs.Records.{held_none, held_steps, held_first, held_next}
use Rattle.wellformed.proofs.Headers.{moves_few}
use Rattle.wellformed.proofs.Records.{recorded_placed}
use Rattle.onewalk.specs.OneWalk.{held_bytes, Small, held_rows, held_sheet, held_refutation, record_offset, LearnsInOneWalk, SameRecordSameHeld}
use Rattle.onewalk.proofs.ObservedRight.{recorded_faithful, observed_right}
use Rattle.onewalk.proofs.Second.{second_steps}
use Rattle.onewalk.proofs.Sections.{moves_alone, nothing_alone}

-- ---- what is held, as bytes

-- a number below 65,536 is held in two bytes
module _ (h : Observed) (sized : length h.masks ≡ observed_size) (bytes : Bytes h.masks) (near : h.named < 65536) where
  -- the bytes behind the masks
  abbrev beside : List ℕ
  beside = two_bytes h.named ++ (cond h.failed 1 0 ∷ [])

  behind : (i : ℕ) → byte_at (held_bytes h) (observed_size + i) ≡ get_or beside i 0
  unfolding held_bytes byte_at
  behind i = rw (← sized) (get_or-append-add h.masks beside i 0)

  bit : (b : Bool) → cond b 1 0 < 256
  bit true = omega arith
  bit false = omega arith

  bit_read : (b : Bool) → eqb (cond b 1 0) 1 ≡ b
  bit_read true = refl
  bit_read false = refl

  byte_beside : (i : ℕ) → get_or beside i 0 < 256
  unfolding two_bytes
  byte_beside zero = omega arith
  byte_beside (suc zero) = omega arith
  byte_beside (suc (suc zero)) = bit h.failed
  byte_beside (suc (suc (suc i))) = omega arith

  byte_held : (i : ℕ) → Dec (i < observed_size) → get_or (held_bytes h) i 0 < 256
  unfolding held_bytes byte_at
  byte_held i (yes l) = rw (get_or-append h.masks beside 0 i (omega arith)) (bytes i)
  byte_held i (no l) =
      let e : i ≡ observed_size + (i - observed_size) = omega arith in
      omega (arith, ap (λ (j : ℕ). get_or (held_bytes h) j 0) e ∙ behind (i - observed_size), byte_beside (i - observed_size))

  small_by : Small h
  unfolding held_bytes two_bytes two
  small_by =
      let size = length-append h.masks beside in
      record {
        size = omega arith;
        limit = omega arith;
        bytes = λ i. byte_held i (dec_lt i observed_size);
        masks = take_at h.masks beside observed_size sized;
        named = omega (arith, behind 0, behind 1);
        failed = ap (λ (x : ℕ). eqb x 1) (behind 2) ∙ bit_read h.failed;
      }

-- ---- the offset that is held is that of a step, or 0

module _ (most : ℕ) where
  named_one : (named at : ℕ) (unbound : Bool) → at ≤ most → named ≤ most → first_named named unbound at ≤ most
  unfolding first_named
  named_one named at unbound place l = go (eqb named 0) unbound
    where
      go : (a b : Bool) → cond a (cond b at 0) named ≤ most
      go true true = place
      go true false = omega arith
      go false b = l

  named_within : (fs : List RecordedStep) → ((f : RecordedStep) → Mem f fs → f.place ≤ most) → (h : Observed) → h.named ≤ most → (observe_all fs h).named ≤ most
  unfolding observe_all observe_by failure_seen
  named_within [] places h l = l
  named_within (f ∷ fs) places h l = named_within fs (λ g m. places g (there m)) (observe f h) (go (decide f.went))
    where
      go : (f.went ≡ true) ⊎ (f.went ≡ false) → (observe f h).named ≤ most
      go (inl e) = rw (observe_went f h e) (named_one _ _ _ (places f here) l)
      go (inr e) = rw (observe_failed f h e) l

-- ---- a book of good form
module _ (form : Form) (s : List ℕ) (n : ℕ) (good : look_over form s ≡ Good n) where
  looked : LookedOver form s n
  looked = look_over_good form s n good

  sections_passed : (k : ℕ) × (sections (sections_of s) s ≡ Good k)
  unfolding look_over look_over_by
  sections_passed = let p = parted _ _ _ good in (p.0, p.1)

  -- What is held after the records is what is observed after their steps: after all of them,
  pub observed_book : observed_of form s ≡ observe_all (steps_of_book form s) (nothing_seen (schema_of s))
  unfolding observed_of held_after steps_of_book recorded_steps
  observed_book =
      held_steps form (sections_of s) s _ _ _ looked.records _
      ∙ ap (observe_all (steps_of_records form s (sections_of s).records.count (sections_of s).records.at)) (nothing_alone s _ sections_passed.1)

  -- and after the first k.
  held_book : (k : ℕ) → k ≤ (sections_of s).records.count
      → (fs gs : List RecordedStep) × (steps_of_book form s ≡ fs ++ gs) × (held_after form k s ≡ observe_all fs (nothing_seen (schema_of s)))
  unfolding held_after steps_of_book recorded_steps
  held_book k l =
      let (fs, gs, e, held) = held_first form (sections_of s) s _ _ _ looked.records k l in
      (fs, gs, e, held _ ∙ ap (observe_all fs) (nothing_alone s _ sections_passed.1))

  -- What is held after all gives exactly the sheet, row 11 and row 12,
  pub observed_taught : Taught (schema_of s) (steps_of_book form s) (observed_of form s)
  observed_taught = rw observed_book (observed_right form s n good)

  -- and its sets are those of the transitions.
  pub observed_seen : Seen (schema_of s) (transitions_of form s) (observed_of form s).masks
  unfolding transitions_of
  observed_seen = rw observed_book (seen_observed (schema_of s) (moves_few form s n good) (steps_of_book form s) (recorded_faithful form s n good))

  -- After each record it is small.
  small : (k : ℕ) → k ≤ (sections_of s).records.count → Small (held_after form k s)
  unfolding nothing_seen
  small k l =
      let (fs, gs, e, held) = held_book k l in
      let all : (f : RecordedStep) → Mem f fs → Mem f (steps_of_book form s) = λ f m. rw e (mem_left gs m) in
      let seen = seen_observed (schema_of s) (moves_few form s n good) fs (λ f m. recorded_faithful form s n good f (all f m)) in
      let near = named_within max_length fs (λ f m. recorded_placed form s n good f (all f m)) (nothing_seen (schema_of s)) (omega arith) in
      rw held (small_by (observe_all fs (nothing_seen (schema_of s))) seen.sized seen.bytes (omega arith))

  rows : inconsistency form s ≡ held_rows (sections_part s) (observed_of form s)
  unfolding inconsistency held_rows transitions_of
  rows =
      let taught = observed_taught in
      let row12 : conflict_among (observed_of form s).masks (schema_of (sections_part s)).moves ≡ conflicting_move (schema_of s) (transitions_of form s) =
      rw (moves_alone s _ sections_passed.1) taught.row12 in
      ap₂ (λ (a b : Answer). a >>= λ _. b) (sym taught.row11) (sym row12)

  sheet : rule_sheet form s ≡ held_sheet (sections_part s) (observed_of form s)
  unfolding rule_sheet held_sheet rules_from transitions_of
  sheet = rw (moves_alone s _ sections_passed.1) (sym observed_taught.sheet)

  -- Row 28 by what is held and the steps,
  pub refuted_held : refutation form s ≡ refuted_observed (observed_of form s).masks (steps_of_book form s)
  unfolding refutation learned_from transitions_of
  refuted_held = sym observed_taught.row28

  -- which is not met where all steps went.
  pub unrefuted_held : (observed_of form s).failed ≡ false → refuted_observed (observed_of form s).masks (steps_of_book form s) ≡ Good 0
  unrefuted_held e = refuted_none _ (steps_of_book form s) (sym observed_taught.failed ∙ e)

  second : refutation form s ≡ held_refutation form (records_of s) (sections_of s).records.at (observed_of form s)
  unfolding steps_of_book recorded_steps records_of
  second = refuted_held ∙ second_steps form (sections_of s) s (observed_of form s) _ _ _ looked.records

-- The records are walked once, what is held is small, and sheet, row 11 and row 12 come of the sections and what is held at the end.
pub learns_in_one_walk : LearnsInOneWalk
unfolding held_after
learns_in_one_walk form s n good =
    record {
      parts = parts_joined form s n (look_over_good form s n good);
      first = held_none form s _ _;
      next = λ k l. held_next form (sections_of s) s _ _ _ (look_over_good form s n good).records k l _;
      small = small form s n good;
      rows = rows form s n good;
      sheet = sheet form s n good;
      failures = (observed_taught form s n good).failed;
      unrefuted = λ e. refuted_held form s n good ∙ unrefuted_held form s n good e;
      second = second form s n good;
    }

-- So learning answers what looking over answers, then rows 11 and 12 as they come of the sections and what is held at the end, then row 28 as it comes of
-- this and the steps.
pub learnable_held : (form : Form) (s : List ℕ) (n : ℕ) → look_over form s ≡ Good n
    → learnable form s
    ≡ (look_over form s >>= λ total. held_rows (sections_part s) (observed_of form s) >>= λ _. refuted_observed (observed_of form s).masks (steps_of_book form s) >>= λ _. Good total)
unfolding learnable
learnable_held form s n good =
    ap₂ (λ (a b : Answer). look_over form s >>= λ total. a >>= λ _. b >>= λ _. Good total) (learns_in_one_walk form s n good).rows (refuted_held form s n good)

-- What is held after a record is a function of what was held before it, its bytes and its offset.
pub same_record_same_held : SameRecordSameHeld
same_record_same_held form s t m n k j good good' l l' at bytes held =
    (learns_in_one_walk form s m good).next k l
    ∙ ap (observed_after form (record_part s (record_offset s k)) (record_offset s k)) held
    ∙ ap₂ (λ (r : List ℕ) (a : ℕ). observed_after form r a (held_after form j t)) bytes at
    ∙ sym ((learns_in_one_walk form t n good').next j l')
