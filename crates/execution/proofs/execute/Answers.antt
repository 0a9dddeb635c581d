-- `execution::execute` meets its contract: what the rest of the plan comes to from here is what the whole plan comes to.
use Rattle.std.proofs.Common.{sym, ◌∙◌}
use Rattle.execution.proofs.Plan.{execute_begin, execute_end, execute_here, execute_more, executes}
use Rattle.execution.proofs.execute.Goals as goal

pub loop-k-init : goal.loop-k-init
loop-k-init c = execute_begin _ _ _ _ _ _

pub returns-then-execute_step-clause-executed : goal.returns-then-execute_step-clause-executed
returns-then-execute_step-clause-executed c = executes _ _ _ _ _ _
    (sym (execute_here _ _ _ _ _ _ c.loop-k-test.true _ c.read-step.ensures _ _ _ c.execute_step.ensures c.if-execute_step.true) ∙ c.loop-k.invariant)

pub loop-k-preserved : goal.loop-k-preserved
loop-k-preserved c = execute_more _ _ _ _ _ _ c.loop-k-test.true _ c.read-step.ensures _ _ _ c.execute_step.ensures c.if-execute_step.false ∙ c.loop-k.invariant

pub returns-clause-executed : goal.returns-clause-executed
returns-clause-executed c = executes _ _ _ _ _ _ (sym (execute_end _ _ _ _ _ _ _ c.loop-k-test.false) ∙ c.loop-k.invariant)
