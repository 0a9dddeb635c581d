-- `walk_entries` meets its contract: no entry before the next one is bad.
use Rattle.std.proofs.Common.{◌≡◌, ◌+◌, ◌*◌, sym, refl, arith}
use Rattle.answer.specs.Walk.{entry}
use Rattle.answer.specs.Refusal.{number_of}
use Rattle.answer.proofs.Entries.{entries_first, entries_all}
use Rattle.answer.proofs.walk_entries.Goals as goal

pub returns-then-bad : goal.returns-then-bad
unfolding entry
returns-then-bad g c test same =
    rw c.at.ensures
    (sym (entries_first (entry test (number_of c.args.reason) c.args.size) test _ _ (λ at. refl) _ _ _ c.loop-i-test.true
    (λ j h. sym (same _ _ (c.loop-i.invariant j h)))
    (sym (same _ _ c.if-bad.ensures))))

pub returns : goal.returns
unfolding entry
returns g c test same =
    sym (entries_all (entry test (number_of c.args.reason) c.args.size) test _ _ (λ at. refl) _ _
    (λ j h. sym (same _ _ (c.loop-i.invariant j (omega arith)))))
