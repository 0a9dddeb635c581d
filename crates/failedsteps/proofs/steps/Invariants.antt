-- `steps` meets its contract: the steps still left answer as all of them do, and the state before them is carried or listed.
use mathlib.Core.List.{List}
use Rattle.terms.specs.declared.Fact.{Fact}
use Rattle.failedsteps.specs.Asked.{BookAsked, StepsAsked}
use Rattle.failedsteps.proofs.Going.{Going}
use Rattle.failedsteps.proofs.steps.Given as goal

abbrev pub invariant-loop : goal.invariant-loop
invariant-loop l =
    (book : BookAsked l.h l.s l.observed) × (ask : StepsAsked l.short l.h l.s l.n l.first) × (before : List Fact)
    × Going l.short l.h l.s l.observed l.n l.first book ask before l.state l.held l.counter l.pre l.at
