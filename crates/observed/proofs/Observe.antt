-- The sets that are observed say what the transitions so far show: before any step those of no transition, and after each step those of one more.
use Prim.Native.Nat.{ℕ, zero, suc, ◌+◌, ◌*◌, ◌/◌, ◌%◌, ◌≤◌, ◌<◌}
use native.Mathlib.Decide.{ℕ_discrete}
use native.Mathlib.Omega.{arith}
use mathlib.Core.Path.{◌≡◌, refl, sym, ap, ap₂, ◌∙◌, subst}
use mathlib.Core.Logic.{◌⊎◌, inl, inr}
use mathlib.Core.Bool.{Bool, true, false, cond, ◌&&◌, ◌||◌, and-true}
use mathlib.Core.List.{List, [], ◌∷◌, ◌++◌, map, append-nil, append_assoc}
use lib.Dec.{eqb}
use lib.ListN.{length, get_or}
use Rattle.truth.specs.Bools.{decide}
use Rattle.limits.specs.Limits.{observed_size}
use Rattle.mask.specs.Bits.{bit_of, test_bit, set_bit, Bytes}
use Rattle.mask.specs.Sets.{empty}
use Rattle.mask.proofs.Laws.{length_empty, bytes_empty, length_set_bit, bytes_set_bit}
use Rattle.mask.proofs.Whole.{length_mask_of, bytes_mask_of, test_mask_of, is_mask_of}
use Rattle.terms.specs.declared.Binding.{Binding}
use Rattle.terms.specs.declared.Fact.{Fact}
use Rattle.terms.specs.Schema.{Schema}
use Rattle.terms.specs.Steps.{is_atom}
use Rattle.format.specs.Decode.{RecordedStep}
use Rattle.quantify.specs.Quantify.{any, Mem, here, there, chosen}
use Rattle.model.specs.Domain.{Transition}
use Rattle.model.specs.Learned.{saw, before, after, turned}
use Rattle.jobs.specs.Planning.{ground_action, transition, went_steps}
use Rattle.jobs.proofs.Parted.{went_take, went_skip}
use Rattle.observed.specs.Inverse.{fact_bound, atom_of, mark, marks, atoms_in}
use Rattle.atoms.specs.Atoms.{atom_set}
use Rattle.observed.specs.Observed.{bound, Observed, set_at, observed_set, noted, observe_by, failure_seen, observe, observe_all, at_first, nothing_seen}
use Rattle.observed.specs.Faithful.{Faithful}
use Rattle.observed.specs.Seen.{in_set, Seen}
use Rattle.observed.proofs.Parts.{part_byte, part_bytes}
use Rattle.observed.proofs.Noted.{changed_within, length_observed_set, length_noted, bytes_noted, noted_own, noted_other, noted_bound}
use Rattle.observed.proofs.InSet.{shown_own, shown_other}

-- ---- the bound facts of a step are a mask of 32 bytes
pub length_mark : (c : Bool) (m : List ℕ) (n : ℕ) → length (cond c (set_bit m n) m) ≡ length m
length_mark true m n = length_set_bit m n
length_mark false m n = refl

bytes_mark : (c : Bool) (m : List ℕ) (n : ℕ) → Bytes m → Bytes (cond c (set_bit m n) m)
bytes_mark true m n h = bytes_set_bit m n h
bytes_mark false m n h = h

module _ (atoms : List ℕ) (b : Binding) where
  length_marks : (m : List ℕ) (fs : List Fact) → length (marks atoms b m fs) ≡ length m
  unfolding marks mark
  length_marks m [] = refl
  length_marks m (f ∷ fs) = length_marks (mark atoms b m f) fs ∙ length_mark (fact_bound atoms b f) m (atom_of b f)

  bytes_marks : (m : List ℕ) (fs : List Fact) → Bytes m → Bytes (marks atoms b m fs)
  unfolding marks mark
  bytes_marks m [] h = h
  bytes_marks m (f ∷ fs) h = bytes_marks (mark atoms b m f) fs (bytes_mark (fact_bound atoms b f) m (atom_of b f) h)

  pub length_atoms_in : (fs : List Fact) → length (atoms_in atoms b fs) ≡ 32
  unfolding atoms_in
  length_atoms_in fs = length_marks (empty 32) fs ∙ length_empty 32

  pub bytes_atoms_in : (fs : List Fact) → Bytes (atoms_in atoms b fs)
  unfolding atoms_in
  bytes_atoms_in fs = bytes_marks (empty 32) fs (bytes_empty 32)

-- ---- before any step
pub test_observed_set : (l : List ℕ) (a k n : ℕ) → n < 256 → test_bit (observed_set l a k) n ≡ test_bit l (8 * set_at a k + n)
unfolding observed_set test_bit
test_observed_set l a k n h =
    let d : set_at a k + n / 8 ≡ (8 * set_at a k + n) / 8 = omega arith in
    let r : n % 8 ≡ (8 * set_at a k + n) % 8 = omega arith in
    ap (λ (x : ℕ). bit_of x (n % 8)) (part_byte l (set_at a k) (n / 8) (omega arith)) ∙ ap₂ (λ (i j : ℕ). bit_of (get_or l i 0) j) d r

-- every bound fact, or none
first_shown : (k a n : ℕ) → k < 6 → (eqb k 0 || eqb k 2 || eqb k 6) ≡ in_set [] k a n
unfolding in_set before after turned saw any
first_shown zero a n h = refl
first_shown (suc zero) a n h = refl
first_shown (suc (suc zero)) a n h = refl
first_shown (suc (suc (suc zero))) a n h = refl
first_shown (suc (suc (suc (suc zero)))) a n h = refl
first_shown (suc (suc (suc (suc (suc zero))))) a n h = refl
first_shown (suc (suc (suc (suc (suc (suc k)))))) a n h = absurd (omega arith)

module _ (sch : Schema) where
  test_start : (a k n : ℕ) → 1 ≤ a → a ≤ 32 → k < 7 → n < 256 → test_bit (observed_set (nothing_seen sch).masks a k) n ≡ at_first sch a k n
  unfolding nothing_seen set_at
  test_start a k n h h' hk hn =
      let i : ℕ = 8 * set_at a k + n in
      let move : i / 256 / 7 + 1 ≡ a = omega arith in
      let set : i / 256 % 7 ≡ k = omega arith in
      let atom : i % 256 ≡ n = omega arith in
      test_observed_set (nothing_seen sch).masks a k n hn
      ∙ test_mask_of observed_size (λ i. at_first sch (i / 256 / 7 + 1) (i / 256 % 7) (i % 256)) i (omega arith)
      ∙ rw (move, set, atom)

  sized_start : length (nothing_seen sch).masks ≡ observed_size
  unfolding nothing_seen
  sized_start = length_mask_of observed_size _

  bytes_start : Bytes (nothing_seen sch).masks
  unfolding nothing_seen
  bytes_start = bytes_mask_of observed_size _

  -- The last set of a move has its bound facts,
  atoms_start : (a : ℕ) → 1 ≤ a → a ≤ 32 → observed_set (nothing_seen sch).masks a bound ≡ atom_set sch a
  unfolding atom_set at_first observed_set
  atoms_start a h h' =
      is_mask_of _ 32 (is_atom sch a) (length_observed_set (nothing_seen sch).masks a bound sized_start h h' (omega arith))
      (part_bytes (nothing_seen sch).masks (set_at a bound) bytes_start)
      (λ n hn. test_start a bound n h h' (omega arith) hn ∙ and-true (is_atom sch a n))

  -- and the others what no transition shows.
  pub seen_nothing : Seen sch [] (nothing_seen sch).masks
  unfolding at_first
  seen_nothing =
      record {
        sized = sized_start;
        bytes = bytes_start;
        atoms = atoms_start;
        says = λ k hk a h h' n hn. test_start a k n h h' (omega arith) hn ∙ ap (λ (b : Bool). is_atom sch a n && b) (first_shown k a n hk);
      }

-- ---- one step more, which went or did not
module _ (f : RecordedStep) (h : Observed) where
  abbrev either : Bool → Observed
  either went = elim went as (λ b. Observed) [ true ↦ observe_by (observed_set h.masks f.step.action.0 bound) f h | false ↦ failure_seen h ]

  pub observe_went : f.went ≡ true → observe f h ≡ observe_by (observed_set h.masks f.step.action.0 bound) f h
  unfolding observe
  observe_went e = ap either e

  pub observe_failed : f.went ≡ false → observe f h ≡ failure_seen h
  unfolding observe
  observe_failed e = ap either e

  -- one that did not go leaves the masks as they are
  pub passed_masks : f.went ≡ false → h.masks ≡ (observe f h).masks
  unfolding failure_seen
  passed_masks e = sym (ap (λ (x : Observed). x.masks) (observe_failed e))

module _ (sch : Schema) (few : sch.moves ≤ 32) where
  module _ (ts : List Transition) (h : Observed) (f : RecordedStep) (went : f.went ≡ true) (faithful : Faithful sch f) (seen : Seen sch ts h.masks) where
    known : f.step.action.0 ≤ 32
    known = omega (arith, faithful.known)

    abbrev atoms : List ℕ
    atoms = atom_set sch f.step.action.0

    -- the bound facts that were made before any record are the move's
    pub by_atoms : observe f h ≡ observe_by atoms f h
    by_atoms = observe_went f h went ∙ ap (λ (m : List ℕ). observe_by m f h) (seen.atoms f.step.action.0 faithful.counted known)

    says_more : (k : ℕ) → k < 6 → (a : ℕ) → 1 ≤ a → a ≤ 32 → (n : ℕ) → n < 256
        → test_bit (observed_set (observe_by atoms f h).masks a k) n ≡ (is_atom sch a n && in_set (ts ++ transition sch f ∷ []) k a n)
    unfolding observe_by transition ground_action
    says_more k hk a ha ha' n hn = go (ℕ_discrete f.step.action.0 a)
      where
        x : List ℕ
        x = atoms_in atoms f.step.binding f.pre

        y : List ℕ
        y = atoms_in atoms f.step.binding f.post

        go : Dec (f.step.action.0 ≡ a) → test_bit (observed_set (noted f.step.action.0 x y h.masks) a k) n ≡ (is_atom sch a n && in_set (ts ++ transition sch f ∷ []) k a n)
        go (no d) =
            let other : a ≡ f.step.action.0 → ⊥ = λ e. d (sym e) in
            ap (λ (m : List ℕ). test_bit m n) (noted_other _ faithful.counted known x y h.masks seen.sized a k ha ha' (omega arith) other)
            ∙ seen.says k hk a ha ha' n hn
            ∙ ap (λ (b : Bool). is_atom sch a n && b) (sym (shown_other ts (transition sch f) k a n d))
        go (yes e) =
            let now = noted_own _ faithful.counted known x y h.masks seen.sized (length_atoms_in _ _ f.pre) (length_atoms_in _ _ f.post) k n hk in
            ap (λ (b : ℕ). test_bit (observed_set (noted f.step.action.0 x y h.masks) b k) n) (sym e)
            ∙ now
            ∙ rw (faithful.was n hn, faithful.got n hn, seen.says k hk _ faithful.counted known n hn)
            (changed_within k (is_atom sch f.step.action.0 n) _ _ _ ∙ ap (λ (b : Bool). is_atom sch f.step.action.0 n && b) (sym (shown_own ts (transition sch f) k _ n refl)))
            ∙ ap (λ (b : ℕ). is_atom sch b n && in_set (ts ++ transition sch f ∷ []) k b n) e

    -- A step that went and is faithful adds to what is observed what its transition shows.
    pub seen_observe : Seen sch (ts ++ transition sch f ∷ []) (observe f h).masks
    unfolding observe_by
    seen_observe =
        rw by_atoms
        (record {
          sized = length_noted _ faithful.counted known _ _ h.masks seen.sized;
          bytes = bytes_noted _ faithful.counted known _ _ h.masks seen.sized (bytes_atoms_in _ _ f.pre) (bytes_atoms_in _ _ f.post) seen.bytes;
          atoms = λ a ha ha'. noted_bound _ faithful.counted known _ _ h.masks seen.sized a ha ha' ∙ seen.atoms a ha ha';
          says = says_more;
        })

  pub seen_all : (fs : List RecordedStep) → ((f : RecordedStep) → Mem f fs → Faithful sch f) → (ts : List Transition) (h : Observed) → Seen sch ts h.masks
      → Seen sch (ts ++ map (transition sch) (went_steps fs)) (observe_all fs h).masks
  unfolding observe_all went_steps chosen
  seen_all [] all ts h seen = rw append-nil seen
  seen_all (f ∷ fs) all ts h seen = go (decide f.went) (λ us seen'. seen_all fs (λ g m. all g (there m)) us (observe f h) seen')
    where
      go : (f.went ≡ true) ⊎ (f.went ≡ false)
          → ((us : List Transition) → Seen sch us (observe f h).masks → Seen sch (us ++ map (transition sch) (went_steps fs)) (observe_all fs (observe f h)).masks)
          → Seen sch (ts ++ map (transition sch) (went_steps (f ∷ fs))) (observe_all fs (observe f h)).masks
      go (inl e) rest = rw (went_take f fs e) (rw append_assoc at (rest (ts ++ transition sch f ∷ []) (seen_observe ts h f e (all f here) seen)))
      go (inr e) rest = rw (went_skip f fs e) (rest ts (subst (λ (m : List ℕ). Seen sch ts m) (passed_masks f h e) seen))

  -- What is observed after all steps is what the transitions of those that went show.
  pub seen_observed : (fs : List RecordedStep) → ((f : RecordedStep) → Mem f fs → Faithful sch f) → Seen sch (map (transition sch) (went_steps fs)) (observe_all fs (nothing_seen sch)).masks
  seen_observed fs all = seen_all fs all [] (nothing_seen sch) (seen_nothing sch)
