-- `terms::Sections::parent` meets its contract: the byte stands before the relations, or there is none.
use mathlib.Core.Path.{sym, ◌∙◌}
use native.Mathlib.Omega.{arith}
use Rattle.terms.proofs.Atoms.{parent_some, parent_none}
use Rattle.terms.proofs.Sections.parent.Goals as goal

pub returns-then-at-self : goal.returns-then-at-self
returns-then-at-self c = c.byte_at.ensures ∙ sym (parent_some _ _ _ _ (omega arith) c.if-at-self.true)

pub returns : goal.returns
returns c = sym (parent_none _ _ _ _ (omega arith) c.if-at-self.false)
