-- `met_before` meets its contract: the state before the step is the mask that is carried, or made of the list.
use mathlib.Core.Path.{sym, ap, ◌∙◌}
use Rattle.mask.proofs.Laws.{length_empty}
use Rattle.mask.proofs.Flips.{cardinality_empty}
use Rattle.failedsteps.specs.Met.{met_in}
use Rattle.failedsteps.proofs.State.{book_known, listed_before, mask_full}
use Rattle.failedsteps.proofs.met_before.Goals as goal

pub carry-requires : goal.carry-requires
carry-requires c = let e = c.empty-listed.ensures in
    let p = c.requires in
    (rw e (length_empty _), λ short. ((p.2 c.if-short.false).turnable, rw e (sym (cardinality_empty _))))

pub returns : goal.returns
returns c = let p = c.requires in
    let full = c.if-short.false in
    c.met_in-2.ensures
    ∙ ap (met_in _ _ _) (listed_before _ _ _ (p.2 full) (book_known _ _ _ p.0.book) _ _ _ c.empty-listed.ensures c.carry.ensures.1 ∙ sym (mask_full _ _ _ _ full))
