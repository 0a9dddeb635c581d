-- `starts` meets its contract: the starts still left answer as all of them do, and each ends before the goal entries.
use Rattle.std.proofs.Common.{◌≡◌, ◌-◌, ◌≤◌}
use Rattle.answer.specs.Walk.{walk}
use Rattle.limits.specs.Limits.{near_ceiling}
use Rattle.format.specs.Filed.{as_written}
use Rattle.format.specs.States.{state}
use Rattle.format.specs.Order.{start_count, start_at, goal_at}
use Rattle.tables.specs.Tables.{ForRightByPlace}
use Rattle.orders.proofs.starts.Given as goal

abbrev pub invariant-loop : goal.invariant-loop
invariant-loop l =
    (l.at ≤ near_ceiling)
    × ForRightByPlace l.table (λ sch ob. walk (state as_written 16 sch ob l.o (goal_at l.o)) (start_count l.o - l.counter) l.at ≡ walk (state as_written 16 sch ob l.o (goal_at l.o)) (start_count l.o) (start_at l.o))
