-- Facts and states of good form: each fact suits, and they strictly increase.
use Prim.Native.Nat.{ℕ, zero, suc, ◌+◌, ◌≤◌}
use mathlib.Core.Path.{◌≡◌, refl, ap}
use mathlib.Core.Bool.{true, false, cond}
use mathlib.Core.List.{List, []}
use native.Mathlib.Omega.{arith}
use lib.ListN.{length}
use Rattle.answer.specs.Answer.{Good}
use Rattle.input.specs.Bytes.{two}
use Rattle.terms.specs.declared.Fact.{Fact}
use Rattle.terms.specs.Schema.{Schema, TypedObjects}
use Rattle.terms.specs.Facts.{fact_at, fact_bad, precedes, no_fact}
use Rattle.limits.specs.Limits.{fact_size, max_facts}
use Rattle.format.specs.Filed.{as_written, filed_fact}
use Rattle.format.specs.Toggled.{toggled}
use Rattle.format.specs.Form.{Form, most_listed, state_after}
use Rattle.format.specs.States.{facts, list, state, next_state}
use Rattle.format.specs.Lists.{facts_at, list_at}
use Rattle.format.proofs.Chains.{chain_parted}
use Rattle.format.proofs.States.{fact_good, facts_chain, list_good, next_good}
use Rattle.quantify.specs.Quantify.{Mem, here, there}
use Rattle.factsets.specs.Right.{Increasing, RightState}
use Rattle.factsets.proofs.Toggled.{toggled_right, toggled_none}

pub length_facts : (s : List ℕ) (n at : ℕ) → length (facts_at s n at) ≡ n
unfolding facts_at
length_facts s zero at = refl
length_facts s (suc n) at = ap suc (length_facts s n (at + fact_size))

module _ (num : ℕ) (sch : Schema) (ob : TypedObjects) (s : List ℕ) (end : ℕ) where
  -- what the first of a number of good facts says
  facts_parted : (n : ℕ) (last : Fact) (at next : ℕ) → facts as_written num sch ob s end (suc n) last at ≡ Good next
      → (fact_bad sch ob (fact_at s at) ≡ false) × (precedes last (fact_at s at) ≡ true) × (facts as_written num sch ob s end n (fact_at s at) (at + fact_size) ≡ Good next)
  facts_parted n last at next e =
      let (test, rest) = chain_parted (facts_chain as_written num sch ob s end) n last at next e in
      let (reach, bad, order) = fact_good as_written sch ob s end last at test in
      (bad, order, rest)

  -- Facts of good form suit,
  pub facts_suit : (n : ℕ) (last : Fact) (at next : ℕ) → facts as_written num sch ob s end n last at ≡ Good next
      → (f : Fact) → Mem f (facts_at s n at) → fact_bad sch ob f ≡ false
  unfolding facts_at
  facts_suit zero last at next e f x'' = elim x'' [ ]
  facts_suit (suc n) last at next e f here = (facts_parted n last at next e).0
  facts_suit (suc n) last at next e f (there m) = facts_suit n (fact_at s at) (at + fact_size) next (facts_parted n last at next e).2 f m

  -- and they strictly increase.
  pub facts_increase : (n : ℕ) (last : Fact) (at next : ℕ) → facts as_written num sch ob s end n last at ≡ Good next → Increasing last (facts_at s n at)
  unfolding facts_at
  facts_increase zero last at next e = tt
  facts_increase (suc n) last at next e =
      let (bad, order, rest) = facts_parted n last at next e in
      (order, facts_increase n (fact_at s at) (at + fact_size) next rest)

-- A list of good form has facts that suit, strictly increasing,
module _ (most num : ℕ) (sch : Schema) (ob : TypedObjects) (s : List ℕ) (end at next : ℕ) (good : list as_written num most sch ob s end at ≡ Good next) where
  pub list_suits : (f : Fact) → Mem f (list_at s at) → fact_bad sch ob f ≡ false
  unfolding list_at
  list_suits = facts_suit num sch ob s end (two s at) no_fact (at + 2) next (list_good as_written most num sch ob s end at next good).2

  pub list_increasing : Increasing no_fact (list_at s at)
  unfolding list_at
  list_increasing = facts_increase num sch ob s end (two s at) no_fact (at + 2) next (list_good as_written most num sch ob s end at next good).2

  pub list_few : length (list_at s at) ≤ most
  unfolding list_at
  list_few = omega (arith, (list_good as_written most num sch ob s end at next good).1, length_facts s (two s at) (at + 2))

-- and a state of good form is right.
pub state_right : (num : ℕ) (sch : Schema) (ob : TypedObjects) (s : List ℕ) (end at next : ℕ) → state as_written num sch ob s end at ≡ Good next → RightState sch ob (list_at s at)
state_right num sch ob s end at next good =
    record {
      suits = list_suits max_facts num sch ob s end at next good;
      increasing = list_increasing max_facts num sch ob s end at next good;
      few = list_few max_facts num sch ob s end at next good;
    }

-- So is a state after a step, in either form, if the state before it is.
pub next_right : (form : Form) (sch : Schema) (ob : TypedObjects) (s : List ℕ) (end : ℕ) (before : List Fact) (at next : ℕ)
    → RightState sch ob before → next_state form sch ob s end before at ≡ Good next → RightState sch ob (state_after form s before at)
unfolding state_after filed_fact
next_right form sch ob s end before at next right good =
    let (list, few) = next_good form sch ob s end before at next good in
    go form (list_suits (most_listed form) 8 sch ob s end at next list) (list_increasing (most_listed form) 8 sch ob s end at next list) few
  where
    go : (form : Form) → ((f : Fact) → Mem f (list_at s at) → fact_bad sch ob f ≡ false) → Increasing no_fact (list_at s at)
        → length (cond form (toggled before (list_at s at)) (list_at s at)) ≤ max_facts → RightState sch ob (cond form (toggled before (list_at s at)) (list_at s at))
    go false suits order few = record { suits = suits; increasing = order; few = few }
    go true suits order few = toggled_right sch ob before (list_at s at) right suits order few

-- After no facts, either form leaves the list.
pub after_none : (form : Form) (s : List ℕ) (at : ℕ) → Increasing no_fact (list_at s at) → state_after form s [] at ≡ list_at s at
unfolding state_after
after_none form s at order = go form
  where
    go : (form : Form) → cond form (toggled [] (list_at s at)) (list_at s at) ≡ list_at s at
    go true = toggled_none no_fact (list_at s at) order
    go false = refl
