-- The whole: from faithful steps, what is observed teaches sheet, row 11 and row 12 as learning is defined, and with the steps row 28.
use Prim.Native.Nat.{◌≤◌}
use native.Mathlib.Omega.{arith}
use mathlib.Core.Path.{◌≡◌, refl, sym, ◌∙◌}
use mathlib.Core.Logic.{◌⊎◌, inl, inr}
use mathlib.Core.Bool.{true, false, ◌||◌, not, or-false, or-true}
use mathlib.Core.List.{List, [], ◌∷◌, map}
use Rattle.truth.specs.Bools.{decide}
use Rattle.terms.specs.Schema.{Schema}
use Rattle.format.specs.Decode.{RecordedStep}
use Rattle.quantify.specs.Quantify.{any, Mem}
use Rattle.jobs.specs.Planning.{transition, went_steps}
use Rattle.observed.specs.Observed.{Observed, observe_by, failure_seen, observe, observe_all, nothing_seen}
use Rattle.observed.specs.Faithful.{Faithful}
use Rattle.observed.specs.Taught.{Taught}
use Rattle.observed.proofs.Observe.{observe_went, observe_failed, seen_nothing, seen_observed}
use Rattle.observed.proofs.Sheet.{sheet_blocks}
use Rattle.observed.proofs.Conflicts.{conflicting_same}
use Rattle.observed.proofs.Refuted.{refuted_same}
use Rattle.observed.proofs.Unbound.{unbound_observed}

none_named : (sch : Schema) → (nothing_seen sch).named ≡ 0
unfolding nothing_seen
none_named sch = refl

-- some step did not go exactly if it is held
fail_observed : (fs : List RecordedStep) (h : Observed) → (observe_all fs h).failed ≡ (h.failed || any (λ x. not x.went) fs)
unfolding observe_all any observe_by failure_seen
fail_observed [] h = sym (or-false h.failed)
fail_observed (f ∷ fs) h = fail_observed fs (observe f h) ∙ go (decide f.went)
  where
    go : (f.went ≡ true) ⊎ (f.went ≡ false) → ((observe f h).failed || any (λ x. not x.went) fs) ≡ (h.failed || (not f.went || any (λ x. not x.went) fs))
    go (inl e) = rw (observe_went f h e, e)
    go (inr e) = rw (observe_failed f h e, e) (sym (or-true h.failed))

none_failed : (sch : Schema) → (nothing_seen sch).failed ≡ false
unfolding nothing_seen
none_failed sch = refl

pub taught : (sch : Schema) → sch.relations ≤ 16 → sch.moves ≤ 32 → (fs : List RecordedStep) → ((f : RecordedStep) → Mem f fs → Faithful sch f)
    → Taught sch fs (observe_all fs (nothing_seen sch))
taught sch relations moves fs all =
    let seen = seen_observed sch moves fs all in
    record {
      sized = seen.sized;
      bytes = seen.bytes;
      row11 = unbound_observed sch moves fs all [] (nothing_seen sch) (seen_nothing sch) (none_named sch);
      row12 = conflicting_same sch relations (map (transition sch) (went_steps fs)) (observe_all fs (nothing_seen sch)).masks seen moves;
      sheet = sheet_blocks sch (map (transition sch) (went_steps fs)) (observe_all fs (nothing_seen sch)).masks seen sch.moves 1 (omega arith) (omega arith);
      failed = fail_observed fs (nothing_seen sch) ∙ rw (none_failed sch);
      row28 = refuted_same sch relations moves (map (transition sch) (went_steps fs)) (observe_all fs (nothing_seen sch)).masks seen fs all;
    }
