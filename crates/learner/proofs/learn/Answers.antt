-- `learner::learn` meets its contract: rows 1 to 12 by what was observed, row 13, then the sheet from what is observed.
use Prim.Native.Nat.{◌*◌}
use mathlib.Core.Path.{refl, sym, ap, ◌∙◌}
use Rattle.std.proofs.lemmas.Result.{err_from_is_err_and}
use Rattle.mask.specs.Sets.{empty}
use Rattle.wellformed.proofs.Headers.{moves_few}
use Rattle.learner.proofs.Book.{moves_own, learn_refused, learn_size, learn_done, sheet_by, form_good}
use Rattle.learner.proofs.learn.Goals as goal

pub observe_book-requires : goal.observe_book-requires
unfolding empty
observe_book-requires c = (c.read-h.ensures, refl)

pub returns-in_err-total : goal.returns-in_err-total
returns-in_err-total c = let p = err_from_is_err_and c.from_residual.result c.from_residual.ensures.1 in
    rw (p.1, p.2) (learn_refused _ _ _ c.in_err-total.field-0.0 c.in_err-total.ensures.says)

pub returns-then-sheet-h : goal.returns-then-sheet-h
returns-then-sheet-h c = let g = sym c.in_ok-total.ensures.says in
    rw c.at.ensures (learn_size _ _ _ _ g (λ i. c.if-sheet-h.true (i ∙ ap (λ n. 128 * n) (sym (moves_own _ _ c.read-h.ensures)))))

pub write_sheet-requires : goal.write_sheet-requires
write_sheet-requires c = let g = sym c.in_ok-total.ensures.says in
    (c.if-sheet-h.false, rw (moves_own _ _ c.read-h.ensures) (moves_few _ _ _ (form_good _ _ _ g).1), c.observe_book.auto.observed)

pub returns : goal.returns
returns c = let own = c.read-h.ensures in
    let g = sym c.in_ok-total.ensures.says in
    learn_done _ _ _ _ g _ (c.if-sheet-h.false ∙ ap (λ n. 128 * n) (moves_own _ _ own))
    (sheet_by _ _ _ _ _ _ own g (c.in_ok-total.ensures.observes _ refl) c.write_sheet.ensures)
