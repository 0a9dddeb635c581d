-- `stepmasks::mark_step` meets its contract: a loop of turns, then what is left of either state.
use mathlib.Core.Path.{◌≡◌}
use lib.ListN.{length}
use Rattle.format.specs.Lists.{list_at}
use Rattle.factlist.specs.Rest.{rest}
use Rattle.stepmasks.specs.Marks.{Suited, to_come}
use Rattle.stepmasks.proofs.Looks.{Looking}
use Rattle.stepmasks.proofs.Steps.{Stands}
use Rattle.stepmasks.proofs.mark_step.Given as goal

abbrev pub invariant-loop-w : goal.invariant-loop-w
invariant-loop-w l =
    Stands l.s l.atoms l.b (list_at l.s l.pre) (list_at l.s l.post) l.w l.before l.after
    × (length l.before ≡ length l.initial.before)
    × (length l.after ≡ length l.initial.after)
    × Suited l.table (rest l.s l.w.pre)
    × Looking l.s l.table l.post l.w.post

abbrev pub decreases-loop-w : goal.decreases-loop-w
decreases-loop-w l = to_come l.w
