-- Facts in order, a list of them and a state after a step (row 8): what good ones say, where they end, and bounds of their answers.
use Prim.Native.Nat.{ℕ, zero, suc, ◌+◌, ◌*◌, ◌≤◌}
use mathlib.Core.Path.{◌≡◌, refl, ap, ◌∙◌}
use mathlib.Core.Bool.{true, false, ◌||◌, not}
use mathlib.Core.List.{List}
use native.Mathlib.Omega.{arith}
use lib.ListN.{length}
use borrow.Author.Tests.{ltb-false, le-ltb, not-false}
use Rattle.answer.specs.Answer.{Good, Refused, max_number}
use Rattle.truth.specs.Bools.{neither}
use Rattle.answer.proofs.Laws.{passed, parted, bind_good, refuse_unmet}
use Rattle.answer.proofs.Refusals.{row_cases}
use Rattle.answer.proofs.Bounds.{Bounded, bounded_good, bounded_row, bounded_then}
use Rattle.input.specs.Bytes.{two}
use Rattle.terms.specs.declared.Fact.{Fact}
use Rattle.terms.specs.Schema.{Schema, TypedObjects}
use Rattle.terms.specs.Facts.{fact_at, fact_bad, precedes, no_fact}
use Rattle.limits.specs.Limits.{count_size, fact_size, max_facts}
use Rattle.format.specs.Filed.{filed_fact}
use Rattle.format.specs.Form.{Form, most_listed, state_after}
use Rattle.format.specs.States.{cut, count_bad, fact_refused, facts, list, state, next_state}
use Rattle.format.specs.Lists.{list_end}
use Rattle.format.proofs.Chains.{Chain, chain_parted, chain_end, chain_place}

module _ (read : Fact → Fact) (sch : Schema) (ob : TypedObjects) (s : List ℕ) (end : ℕ) where
  -- a fact that is not refused ends within, suits, and comes after the one before it
  pub fact_good : (last : Fact) (at : ℕ)
      → fact_refused read sch ob s end last at ≡ false
      → (at + fact_size ≤ end) × (fact_bad sch ob (read (fact_at s at)) ≡ false) × (precedes last (read (fact_at s at)) ≡ true)
  unfolding fact_refused cut
  fact_good last at e =
      let (wrong, order) = neither (cut end at fact_size || fact_bad sch ob (read (fact_at s at))) (not (precedes last (read (fact_at s at)))) e in
      let (reach, bad) = neither (cut end at fact_size) (fact_bad sch ob (read (fact_at s at))) wrong in
      (ltb-false _ _ reach, bad, not-false _ order)

module _ (read : Fact → Fact) (num : ℕ) (sch : Schema) (ob : TypedObjects) (s : List ℕ) (end : ℕ) where
  -- facts are entries in order: Chains has their laws
  pub facts_chain : Chain (facts read num sch ob s end) (fact_refused read sch ob s end) (λ at. read (fact_at s at)) num fact_size
  unfolding facts
  facts_chain = record { none = λ last at. refl; more = λ n last at. refl }

  pub fact_within : (last : Fact) (at : ℕ) → fact_refused read sch ob s end last at ≡ false → at + fact_size ≤ end
  fact_within last at e = (fact_good read sch ob s end last at e).0

  -- answers of facts within the record stay within it
  pub facts_bounded : num ≤ max_number → (n : ℕ) (last : Fact) (at : ℕ) → at ≤ end → Bounded end (facts read num sch ob s end n last at)
  unfolding facts
  facts_bounded m zero last at h = bounded_good end at h
  facts_bounded m (suc n) last at h =
      bounded_row end _ _ _ _ m h (λ e. facts_bounded m n _ _ (fact_within last at e))

  -- good facts end within, if they begin there
  pub facts_within : (n : ℕ) (last : Fact) (at next : ℕ) → at ≤ end → facts read num sch ob s end n last at ≡ Good next → next ≤ end
  unfolding facts
  facts_within zero last at next h e = let p : at ≡ next = cc in omega arith
  facts_within (suc n) last at next h e =
      let (good, rest) = chain_parted facts_chain n last at next e in
      facts_within n _ _ next (fact_within last at good) rest

pub count_within : (most : ℕ) (s : List ℕ) (end at : ℕ) → count_bad most s end at ≡ false → (at + count_size ≤ end) × (two s at ≤ most)
unfolding count_bad cut
count_within most s end at e = let p = neither _ _ e in (ltb-false _ _ p.0, ltb-false _ _ p.1)

module _ (read : Fact → Fact) (most num : ℕ) (sch : Schema) (ob : TypedObjects) (s : List ℕ) (end : ℕ) where
  -- a good list has a count within its limit, and good facts
  pub list_good : (at next : ℕ) → list read num most sch ob s end at ≡ Good next
      → (at + count_size ≤ end) × (two s at ≤ most) × (facts read num sch ob s end (two s at) no_fact (at + count_size) ≡ Good next)
  unfolding list
  list_good at next e =
      let p = passed _ _ _ _ _ e in
      let w = count_within most s end at p.0 in
      (w.0, w.1, p.1)

  -- and ends after its last fact,
  pub list_end_lem : (at next : ℕ) → list read num most sch ob s end at ≡ Good next → next ≡ at + count_size + fact_size * two s at
  list_end_lem at next e = chain_end (facts_chain read num sch ob s end) _ _ _ _ (list_good at next e).2

  -- where the record ends, or before
  pub list_within : (at next : ℕ) → list read num most sch ob s end at ≡ Good next → next ≤ end
  list_within at next e = let g = list_good at next e in facts_within read num sch ob s end (two s at) no_fact (at + count_size) next g.0 g.2

  pub list_ends : (at next : ℕ) → list read num most sch ob s end at ≡ Good next → (next ≡ list_end s at) × (list_end s at ≤ end)
  unfolding list_end
  list_ends at next e = (list_end_lem at next e, omega (arith, list_end_lem at next e, list_within at next e))

  pub list_bounded : num ≤ max_number → (at : ℕ) → at ≤ end → Bounded end (list read num most sch ob s end at)
  unfolding list
  list_bounded m at h =
      bounded_row end _ _ _ _ m h (λ e. facts_bounded read num sch ob s end m _ _ _ (count_within most s end at e).0)

-- the longest state: a count and 256 facts
abbrev pub longest_state : ℕ
longest_state = 770

module _ (read : Fact → Fact) (num : ℕ) (sch : Schema) (ob : TypedObjects) (s : List ℕ) (end : ℕ) where
  -- a state is no longer than the longest, and a refusal has the number given and stands within it
  pub state_reach : (at next : ℕ) → state read num sch ob s end at ≡ Good next → next ≤ at + longest_state
  state_reach at next e = omega (arith, list_end_lem read max_facts num sch ob s end at next e, (list_good read max_facts num sch ob s end at next e).1)

  pub state_place : (at k p : ℕ) → state read num sch ob s end at ≡ Refused k p → (k ≡ num) × (p ≤ at + longest_state)
  unfolding list
  state_place at k p e =
      row_cases (count_bad max_facts s end at) num at _ k p e (λ x y. (x, omega arith))
      (λ unmet f.
      let w = chain_place (facts_chain read num sch ob s end) _ _ _ k p f in
      (w.0, omega (arith, w.1, (count_within max_facts s end at unmet).1)))

module _ (form : Form) (sch : Schema) (ob : TypedObjects) (s : List ℕ) (end : ℕ) (before : List Fact) where
  -- a good state after a step has a good list, and leaves no more facts than a state may have
  pub next_good : (at next : ℕ) → next_state form sch ob s end before at ≡ Good next
      → (list (filed_fact form) 8 (most_listed form) sch ob s end at ≡ Good next) × (length (state_after form s before at) ≤ max_facts)
  unfolding next_state
  next_good at next e =
      let (last, good, rest) = parted _ next _ e in
      let (few, same) = passed _ 8 at next _ rest in
      let z : last ≡ next = cc in
      (good ∙ ap Good z, ltb-false _ _ few)

  -- and the other way round
  pub next_in_lem : (at next : ℕ) → list (filed_fact form) 8 (most_listed form) sch ob s end at ≡ Good next → length (state_after form s before at) ≤ max_facts
      → next_state form sch ob s end before at ≡ Good next
  unfolding next_state
  next_in_lem at next e l = bind_good _ _ _ e ∙ refuse_unmet _ _ _ _ (le-ltb _ _ l)

  pub next_bounded : (at : ℕ) → at ≤ end → Bounded end (next_state form sch ob s end before at)
  unfolding next_state
  next_bounded at h =
      bounded_then end _ _ (list_bounded (filed_fact form) (most_listed form) 8 sch ob s end (omega arith) at h)
      (λ next e i. bounded_row end _ _ _ _ (omega arith) h (λ f. bounded_good end next i))

  pub next_ends : (at next : ℕ) → next_state form sch ob s end before at ≡ Good next → (next ≡ list_end s at) × (list_end s at ≤ end)
  next_ends at next e = list_ends (filed_fact form) (most_listed form) 8 sch ob s end at next (next_good at next e).0
