-- A rendered list of facts that suit and stand in order is of good form where it stands (row 8 is not met), if it is not too long and ends within the
-- record.
use Prim.Native.Nat.{ℕ, ◌+◌, ◌*◌, ◌≤◌, ◌<◌}
use mathlib.Core.Path.{◌≡◌, ap, ◌∙◌}
use mathlib.Core.Bool.{false}
use mathlib.Core.List.{List, [], ◌∷◌}
use native.Mathlib.Omega.{arith}
use borrow.Author.Tests.{le-ltb}
use lib.ListN.{length}
use Rattle.answer.specs.Answer.{Good}
use Rattle.answer.proofs.Laws.{refuse_unmet}
use Rattle.terms.specs.declared.Fact.{Fact}
use Rattle.terms.specs.Schema.{Schema, TypedObjects}
use Rattle.terms.specs.Facts.{fact_bad, no_fact}
use Rattle.limits.specs.Limits.{count_size, fact_size}
use Rattle.format.specs.Filed.{as_written}
use Rattle.format.specs.States.{cut, count_bad, fact_refused, facts, list}
use Rattle.jobs.specs.Convert.{facts_bytes, list_bytes}
use Rattle.quantify.specs.Quantify.{Mem, here, there}
use Rattle.factsets.specs.Right.{Increasing}
use Rattle.converted.proofs.Stands.{Stands}
use Rattle.converted.proofs.Rendered.{fact_read, facts_behind, length_list_bytes, count_read, facts_stand}

module _ (num : ℕ) (sch : Schema) (ob : TypedObjects) (t : List ℕ) (end : ℕ) where
  facts_in : (fs : List Fact) (last : Fact) (at : ℕ) → Stands (facts_bytes fs) t at → ((f : Fact) → Mem f fs → fact_bad sch ob f ≡ false) → Increasing last fs
      → at + fact_size * length fs ≤ end → facts as_written num sch ob t end (length fs) last at ≡ Good (at + fact_size * length fs)
  unfolding facts fact_refused cut
  facts_in [] last at h suits order l = ap Good (omega arith)
  facts_in (f ∷ fs) last at h suits order l =
      refuse_unmet _ _ _ _ (rw (fact_read f fs t at h, le-ltb end (at + fact_size) (omega arith), suits f here, order.0))
      ∙ rw (fact_read f fs t at h) (facts_in fs f (at + fact_size) (facts_behind f fs t at h) (λ g m. suits g (there m)) order.1 (omega arith) ∙ ap Good (omega arith))

  -- A rendered list is of good form.
  pub list_in : (most : ℕ) (fs : List Fact) (at : ℕ) → Stands (list_bytes fs) t at → ((f : Fact) → Mem f fs → fact_bad sch ob f ≡ false) → Increasing no_fact fs
      → length fs ≤ most → most < 65536 → at + length (list_bytes fs) ≤ end → list as_written num most sch ob t end at ≡ Good (at + length (list_bytes fs))
  unfolding list count_bad cut
  list_in most fs at h suits order few small l =
      let n = length_list_bytes fs in
      let e = count_read fs t at (omega arith) h in
      refuse_unmet _ _ _ _ (rw (e, le-ltb end (at + count_size) (omega arith), le-ltb most (length fs) few))
      ∙ rw e (facts_in fs no_fact (at + count_size) (facts_stand fs t at (omega arith) h) suits order (omega arith) ∙ ap Good (omega arith))
