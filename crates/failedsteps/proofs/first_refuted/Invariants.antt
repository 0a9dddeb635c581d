-- `first_refuted` meets its contract: the records still left answer as the whole book does.
use Prim.Native.Nat.{ℕ}
use mathlib.Core.Path.{◌≡◌}
use Rattle.answer.specs.Answer.{Good}
use Rattle.terms.specs.Sections.{sections_of}
use Rattle.format.specs.LookOver.{look_over}
use Rattle.jobs.specs.Planning.{schema_of}
use Rattle.observed.specs.Begun.{Begun}
use Rattle.failedsteps.proofs.Book.{Left}
use Rattle.failedsteps.proofs.first_refuted.Given as goal

abbrev pub invariant-loop : goal.invariant-loop
invariant-loop l =
    (is : l.h ≡ sections_of l.s) × (looked : (n : ℕ) × (look_over l.short l.s ≡ Good n)) × (begun : Begun (schema_of l.s) l.observed)
    × Left l.short l.h l.s l.observed is looked begun l.counter l.at
