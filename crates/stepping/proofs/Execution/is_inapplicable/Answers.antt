-- `stepping::Execution::is_inapplicable` meets its contract: no need of the relations so far is unmet.
use Rattle.std.proofs.Common.{◌≡◌, ◌∙◌, ◌+◌, ◌*◌, sym, arith}
use Rattle.factgroups.proofs.Groups.{starts}
use Rattle.stepping.proofs.Needs.{unmet_first, unmet_more, unmet_here, unmet_last}
use Rattle.stepping.proofs.Execution.is_inapplicable.Goals as goal

pub loop-r-init : goal.loop-r-init
loop-r-init c = unmet_first _ _ _ _

pub relation_unmet-requires : goal.relation_unmet-requires
relation_unmet-requires c = starts _ (omega arith) (omega arith)

pub returns-then-relation_unmet : goal.returns-then-relation_unmet
returns-then-relation_unmet c = unmet_here _ _ _ _ _ (omega arith) (sym c.relation_unmet.ensures ∙ c.if-relation_unmet.true)

pub loop-r-preserved : goal.loop-r-preserved
loop-r-preserved c = let next : 16 * c.loop-r.r + 16 ≡ 16 * (c.loop-r.r + 1) = omega arith in
    rw (← next) (unmet_more _ _ _ _ _ c.loop-r.invariant (sym c.relation_unmet.ensures ∙ c.if-relation_unmet.false))

pub returns : goal.returns
returns c = unmet_last _ _ _ _ _ (omega arith) c.loop-r.invariant
