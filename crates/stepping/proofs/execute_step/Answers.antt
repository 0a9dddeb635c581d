-- `stepping::execute_step` meets its contract: no effect where a need is unmet.
use mathlib.Core.Path.{refl, sym, ◌∙◌}
use Rattle.stepping.proofs.execute_step.Goals as goal

pub returns-then-is_inapplicable : goal.returns-then-is_inapplicable
returns-then-is_inapplicable c = record { inapplicable = sym c.if-is_inapplicable.true ∙ c.is_inapplicable.ensures; state = refl }

pub returns : goal.returns
returns c = record { inapplicable = sym c.if-is_inapplicable.false ∙ c.is_inapplicable.ensures; state = c.put_effects.ensures }
