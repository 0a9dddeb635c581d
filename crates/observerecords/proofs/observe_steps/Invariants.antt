-- `observerecords::observe_steps` meets its contract: the steps that are left answer as all do, and observed after those before come to the whole.
use Prim.Native.Nat.{◌-◌}
use mathlib.Core.Path.{◌≡◌}
use Rattle.format.specs.Lists.{list_at}
use Rattle.format.specs.Decode.{recorded_steps_at}
use Rattle.observed.specs.Observed.{observe_all}
use Rattle.lifting.specs.Pairs.{no_digits}
use Rattle.observerecords.specs.Observing.{held_with}
use Rattle.observerecords.proofs.Steps.{Observing}
use Rattle.observerecords.proofs.observe_steps.Given as goal

abbrev pub invariant-loop : goal.invariant-loop
invariant-loop l =
    Observing l.s l.c l.first l.from l.state l.held (l.c.steps - l.counter) l.pre l.at l.observed l.found (observe_all (recorded_steps_at l.c.short l.s l.c.steps (list_at l.s l.first) l.from) (held_with l.initial.observed l.initial.found))
    × (l.t ≡ no_digits)
