-- Objects, steps and the trajectory of a record, as the code meets them: each row met or not. Where the good parts end, format/proofs/Records says,
-- here for this crate's callers.
use Prim.Native.Nat.{ℕ, zero, suc, ◌+◌, ◌-◌, ◌≤◌, ◌<◌}
use native.Mathlib.Numerals.{sub-one}
use native.Mathlib.Omega.{arith}
use mathlib.Core.Path.{◌≡◌, refl, sym, ap, ◌∙◌}
use mathlib.Core.Bool.{Bool, true, false}
use mathlib.Core.List.{List}
use lib.Dec.{ltb}
use lib.ListN.{length}
use borrow.Author.Tests.{ltb-false, lt-ltb, le-ltb}
use Rattle.answer.specs.Answer.{Answer, Good, Refused, ◌>>=◌, refuse, is_refused, value_of}
use Rattle.truth.specs.Bools.{neither}
use Rattle.answer.proofs.Laws.{refuse_met, refuse_unmet, bind_good, bind_refused, passed, parted}
use Rattle.terms.specs.declared.Fact.{Fact}
use Rattle.terms.specs.declared.Step.{Step}
use Rattle.terms.specs.Schema.{Schema, TypedObjects}
use Rattle.terms.specs.Steps.{step_bad, repeats}
use Rattle.limits.specs.Limits.{step_size, max_facts}
use Rattle.format.specs.Lists.{list_at}
use Rattle.format.specs.Filed.{filed_step_at, as_written, filed_fact}
use Rattle.format.specs.Form.{Form, most_listed, state_after}
use Rattle.format.specs.States.{cut, list, state, next_state}
use Rattle.format.specs.Records.{step_refused, failed_changes, step, steps, trajectory}
use Rattle.records.specs.Readable.{step_alone, step_listed}
use Rattle.records.specs.Rows.{step_after}
use Rattle.answer.proofs.Turns.{is_good, part_stays, part_follows}

-- a step after its list, as the code meets it
module _ (at held : ℕ) (changes : Bool) (next : ℕ) where
  pub after_many : max_facts < held → Refused 8 (at + step_size) ≡ step_after at held changes next
  unfolding step_after
  after_many l = sym (refuse_met _ _ _ _ (lt-ltb _ _ l))

  pub after_changed : (b : Bool) → held ≤ max_facts → b ≡ changes → b ≡ true → Refused 27 at ≡ step_after at held changes next
  unfolding step_after
  after_changed b l told e = sym (refuse_unmet _ _ _ _ (le-ltb _ _ l) ∙ refuse_met _ _ _ _ (sym told ∙ e))

  pub after_kept : (b : Bool) → held ≤ max_facts → b ≡ changes → b ≡ false → Good next ≡ step_after at held changes next
  unfolding step_after
  after_kept b l told e = sym (refuse_unmet _ _ _ _ (le-ltb _ _ l) ∙ refuse_unmet _ _ _ _ (sym told ∙ e))

  -- where it is good
  pub after_good : (r : Answer) (b : Bool) → r ≡ step_after at held changes next → b ≡ is_refused r → b ≡ false → (held ≤ max_facts) × (r ≡ Good next) × (changes ≡ false)
  unfolding step_after
  after_good r b told refused e =
      let good = is_good r (sym refused ∙ e) in
      let (few, rest) = passed _ 8 (at + step_size) (value_of r) _ (sym told ∙ good) in
      let (kept, end) = passed _ 27 at (value_of r) _ rest in
      (ltb-false _ _ few, good ∙ sym end, kept)

-- row 8 of a state's size, and then row 27, behind a list
rows_after : (a : Answer) (many : Bool) (at : ℕ) (changes : Bool)
    → (a >>= (λ next. refuse many 8 (at + step_size) >>= λ _. Good next) >>= λ next. refuse changes 27 at >>= λ _. Good next)
    ≡ (a >>= λ next. refuse many 8 (at + step_size) >>= λ _. refuse changes 27 at >>= λ _. Good next)
unfolding ◌>>=◌ refuse
rows_after (Good n) true at changes = refl
rows_after (Good n) false at changes = refl
rows_after (Refused k p) many at changes = refl

module _ (sch : Schema) (ob : TypedObjects) (s : List ℕ) (end : ℕ) where
  -- row 9, as the code meets it
  pub step_cut : (at : ℕ) → end < at + step_size → true ≡ step_refused sch ob s end at
  unfolding step_refused cut
  step_cut at h = rw (lt-ltb end (at + step_size) h) refl

  pub step_whole : (at : ℕ) (st : Step) (b : Bool) → at + step_size ≤ end → st ≡ filed_step_at s at → b ≡ step_bad sch ob st → b ≡ step_refused sch ob s end at
  unfolding step_refused cut
  step_whole at st b h p q = rw (q, p, le-ltb end (at + step_size) h) refl

  pub step_fits : (at : ℕ) (b : Bool) → b ≡ step_refused sch ob s end at → b ≡ false → at + step_size ≤ end
  unfolding step_refused cut
  step_fits at b p e = ltb-false _ _ (neither _ _ (sym p ∙ e)).0

  -- rows 9 and 10
  pub alone_nine : (at : ℕ) (b : Bool) → b ≡ step_refused sch ob s end at → b ≡ true → Refused 9 at ≡ step_alone sch ob s end at
  unfolding step_alone
  alone_nine at b p e = sym (refuse_met _ _ _ _ (sym p ∙ e))

  module _ (at : ℕ) (st : Step) (b : Bool) (told : b ≡ step_refused sch ob s end at) (right : b ≡ false) (read : st ≡ filed_step_at s at) where
    behind_nine : step_alone sch ob s end at ≡ (refuse (repeats st) 10 at >>= λ _. Good (at + step_size))
    unfolding step_alone
    behind_nine = rw read (refuse_unmet _ _ _ _ (sym told ∙ right))

    pub alone_ten : (c : Bool) → c ≡ repeats st → c ≡ true → Refused 10 at ≡ step_alone sch ob s end at
    alone_ten c p e = sym (behind_nine ∙ refuse_met _ _ _ _ (sym p ∙ e))

    pub alone_good : (c : Bool) → c ≡ repeats st → c ≡ false → Good (at + step_size) ≡ step_alone sch ob s end at
    alone_good c p e = sym (behind_nine ∙ refuse_unmet _ _ _ _ (sym p ∙ e))

  -- where the step is good, the list stands behind it
  pub alone_behind : (at next : ℕ) → step_alone sch ob s end at ≡ Good next → (at + step_size ≤ end) × (step_bad sch ob (filed_step_at s at) ≡ false) × (repeats (filed_step_at s at) ≡ false) × (next ≡ at + step_size)
  unfolding step_alone step_refused cut
  alone_behind at next e =
      let (first, rest) = passed _ 9 at next _ e in
      let (different, behind) = passed _ 10 at next _ rest in
      let (fits, right) = neither (ltb end (at + step_size)) (step_bad sch ob (filed_step_at s at)) first in
      (ltb-false end (at + step_size) fits, right, different, let p : at + step_size ≡ next = cc in sym p)

  -- the same, by what a call returned
  pub alone_found : (at : ℕ) (a : Answer) (b : Bool) → a ≡ step_alone sch ob s end at → b ≡ is_refused a → b ≡ false
      → (at + step_size ≤ end) × (step_alone sch ob s end at ≡ Good (at + step_size)) × (at + step_size ≡ value_of a)
  alone_found at a b p q r =
      let good = sym p ∙ is_good a (sym q ∙ r) in
      let (fits, right, different, place) = alone_behind at (value_of a) good in
      (fits, good ∙ ap Good place, sym place)

module _ (form : Form) (sch : Schema) (ob : TypedObjects) (s : List ℕ) (end : ℕ) where
  pub step_stays : (at : ℕ) (a : Answer) (b : Bool) → a ≡ step_alone sch ob s end at → b ≡ is_refused a → b ≡ true → a ≡ step_listed form sch ob s end at
  unfolding step_listed
  step_stays at a b p q r = part_stays _ _ a b p q r

  pub step_follows : (at : ℕ) (a : Answer) (b : Bool) (v : ℕ) → a ≡ step_alone sch ob s end at → b ≡ is_refused a → b ≡ false → v ≡ value_of a
      → list as_written 8 (most_listed form) sch ob s end v ≡ step_listed form sch ob s end at
  unfolding step_listed filed_fact
  step_follows at a b v p q r u = part_follows _ (list (filed_fact form) 8 (most_listed form) sch ob s end) a b v p q r u

  -- a step is its list, and then the rows behind it
  step_parts : (before : List Fact) (at : ℕ)
      → step form sch ob s end before at
      ≡ (step_listed form sch ob s end at >>= λ next. step_after at (length (state_after form s before (at + step_size))) (failed_changes form s before at) next)
  unfolding step step_listed step_alone next_state step_after ◌>>=◌ refuse
  step_parts before at = go (step_refused sch ob s end at) (repeats (filed_step_at s at))
    where
      go : (x y : Bool)
          → (refuse x 9 at >>= λ _. refuse y 10 at >>= λ _. next_state form sch ob s end before (at + step_size) >>= λ next. refuse (failed_changes form s before at) 27 at >>= λ _. Good next)
          ≡ ((refuse x 9 at >>= λ _. refuse y 10 at >>= λ _. Good (at + step_size)) >>= list (filed_fact form) 8 (most_listed form) sch ob s end
          >>= λ next. step_after at (length (state_after form s before (at + step_size))) (failed_changes form s before at) next)
      go true y = refl
      go false true = refl
      go false false = rows_after (list (filed_fact form) 8 (most_listed form) sch ob s end (at + step_size)) (ltb max_facts (length (state_after form s before (at + step_size)))) at (failed_changes form s before at)

  -- a good list behind a step
  pub listed_good : (at next : ℕ) → step_listed form sch ob s end at ≡ Good next → (at + step_size ≤ end) × (list (filed_fact form) 8 (most_listed form) sch ob s end (at + step_size) ≡ Good next)
  unfolding step_listed
  listed_good at next e =
      let (listed, alone, good) = parted (step_alone sch ob s end at) next _ e in
      let (fits, right, different, place) = alone_behind sch ob s end at listed alone in
      (fits, rw place at good)

  -- A turn of the loop over steps: what is left answers as the whole, by what the calls returned.
  module _ (whole : Answer) (n at : ℕ) (before : List Fact) (left : steps form sch ob s end n before at ≡ whole) where
    pub steps_none : n ≡ 0 → Good at ≡ whole
    unfolding steps
    steps_none e = go n e left
      where
        go : (k : ℕ) → k ≡ 0 → steps form sch ob s end k before at ≡ whole → Good at ≡ whole
        go zero e l = l
        go (suc k) e l = absurd (omega arith)

    module _ (some : 0 < n) (a : Answer) (listed : a ≡ step_listed form sch ob s end at) where
      one_more_lem : (step form sch ob s end before at >>= λ next. steps form sch ob s end (n - 1) (state_after form s before (at + step_size)) next) ≡ whole
      unfolding steps
      one_more_lem = go n some left
        where
          go : (k : ℕ) → 0 < k → steps form sch ob s end k before at ≡ whole
              → (step form sch ob s end before at >>= λ next. steps form sch ob s end (k - 1) (state_after form s before (at + step_size)) next) ≡ whole
          go zero h l = absurd (omega arith)
          go (suc k) h l = rw sub-one l

      pub steps_refused : (k p : ℕ) → a ≡ Refused k p → Refused k p ≡ whole
      steps_refused k p e =
          sym (bind_refused _ _ k p (step_parts before at ∙ bind_refused _ _ k p (sym listed ∙ e))) ∙ one_more_lem

      module _ (next : ℕ) (good : a ≡ Good next) (r : Answer) (told : r ≡ step_after at (length (state_after form s before (at + step_size))) (failed_changes form s before at) next) (b : Bool) (refused : b ≡ is_refused r) where
        behind_list : r ≡ step form sch ob s end before at
        behind_list = sym (step_parts before at ∙ bind_good _ _ next (sym listed ∙ good) ∙ sym told)

        pub steps_stop : b ≡ true → r ≡ whole
        steps_stop e = part_stays _ _ r b behind_list refused e ∙ one_more_lem

        pub steps_on : b ≡ false → steps form sch ob s end (n - 1) (state_after form s before (at + step_size)) next ≡ whole
        steps_on e = sym (bind_good _ _ next (sym behind_list ∙ (after_good at _ _ next r b told refused e).1)) ∙ one_more_lem

  pub trajectory_stays : (n at : ℕ) (a : Answer) (b : Bool) → a ≡ state as_written 8 sch ob s end at → b ≡ is_refused a → b ≡ true → a ≡ trajectory form sch ob s end n at
  unfolding trajectory filed_fact
  trajectory_stays n at a b p q r = part_stays _ _ a b p q r

  pub trajectory_steps : (n at : ℕ) (a : Answer) (b : Bool) (v : ℕ) (w : Answer)
      → a ≡ state as_written 8 sch ob s end at
      → b ≡ is_refused a
      → b ≡ false
      → v ≡ value_of a
      → w ≡ steps form sch ob s end n (list_at s at) v
      → w ≡ trajectory form sch ob s end n at
  unfolding trajectory filed_fact
  trajectory_steps n at a b v w p q r t u = u ∙ part_follows _ (steps form sch ob s end n (list_at s at)) a b v p q r t
