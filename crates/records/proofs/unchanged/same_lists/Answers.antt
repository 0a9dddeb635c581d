-- `same_lists` meets its contract: the counts are compared, then the facts' bytes.
use native.Mathlib.Omega.{arith}
use Prim.Native.Nat.{◌+◌, ◌-◌, ◌*◌}
use mathlib.Core.Path.{◌≡◌, sym, ◌∙◌}
use Rattle.limits.specs.Limits.{count_size, fact_size}
use Rattle.format.specs.Lists.{list_end}
use Rattle.records.proofs.Compared.{lists_differ, lists_alike, runs_same}
use Rattle.records.proofs.unchanged.same_lists.Goals as goal

pub returns-then-two_at-count : goal.returns-then-two_at-count
returns-then-two_at-count c = lists_differ _ _ _ _ _ c.two_at.ensures c.requires.4 (λ e. c.if-two_at-count.true (sym e))

pub slice_bounds-eq-end : goal.slice_bounds-eq-end
unfolding list_end
slice_bounds-eq-end c = let e = c.two_at.ensures in
    let g = c.requires.4 in
    omega arith

pub slice_bounds-eq-end-2 : goal.slice_bounds-eq-end-2
unfolding list_end
slice_bounds-eq-end-2 c = let g = c.requires.4 in omega arith

pub returns : goal.returns
unfolding list_end
returns c = let g = c.requires.4 in
    let e = c.two_at.ensures in
    let a = c.args in
    let one : a.p + count_size + fact_size * a.count - (a.p + count_size) ≡ fact_size * a.count = omega arith in
    let two : a.q + count_size + fact_size * a.count - (a.q + count_size) ≡ fact_size * a.count = omega arith in
    lists_alike _ _ _ _ _ e g (sym c.if-two_at-count.false) _ (rw (one, two) at c.eq.ensures ∙ runs_same _ _ _ _ (omega arith) (omega arith))
