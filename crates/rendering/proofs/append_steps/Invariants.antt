-- `append_steps` meets its contract: a loop of `Stepping` steps.
use Prim.Native.Nat.{◌-◌}
use Rattle.format.specs.Lists.{list_at}
use Rattle.rendering.proofs.Steps.{steps_to_come, Stepping}
use Rattle.rendering.proofs.append_steps.Given as goal

abbrev pub invariant-loop : goal.invariant-loop
invariant-loop l = Stepping l.short l.book (steps_to_come l.short l.book l.n (list_at l.initial.state 0) l.from) l.initial.new (l.n - l.counter) l.at l.state l.new
