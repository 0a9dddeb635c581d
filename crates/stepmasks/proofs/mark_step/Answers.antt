-- `stepmasks::mark_step` meets its contract: a loop of turns, then what is left of either state.
use mathlib.Core.Path.{refl, sym, ap, ◌∙◌}
use lib.ListN.{length}
use Rattle.std.proofs.lemmas.Result.{err_from_is_err_and}
use Rattle.lifting.proofs.Pairs.{digits_long}
use Rattle.stepmasks.proofs.Looks.{looking_known}
use Rattle.stepmasks.proofs.Steps.{stands_first, stands_next, stands_end}
use Rattle.factlist.proofs.Rest.{both_left}
use Rattle.stepmasks.proofs.mark_step.Goals as goal

pub loop-w-init : goal.loop-w-init
loop-w-init c = let l = c.listed.ensures in
    let f = c.of_list.ensures in
    let p = c.requires in
    (stands_first _ _ _ _ _ _ _ _ _ f l p.fresh.1 p.fresh.2, refl, refl, rw f.0 p.fresh.3, l.looked _)

pub returns : goal.returns
returns c = let i = c.loop-w.invariant in
    let e = c.in_ok-rest.ensures in
    record {
      list_looked = λ end reach. e.answers end _ _ (i.4 end reach);
      good = (c.restore.ensures, stands_end _ _ _ i.0 c.loop-w-test.false _ _ _ _ c.mark_rest-only_before.ensures e.marked);
    }
