-- `steps` meets its contract: the steps still left answer as all of them do, and the state before them is carried.
use Prim.Native.Nat.{◌-◌}
use mathlib.Core.List.{List}
use Rattle.terms.specs.declared.Fact.{Fact}
use Rattle.records.proofs.Going.{Going}
use Rattle.records.proofs.steps.Given as goal

abbrev pub invariant-loop : goal.invariant-loop
invariant-loop l = (before : List Fact) × Going l.book l.c l.first l.from before l.state l.count (l.c.steps - l.counter) l.pre l.at
