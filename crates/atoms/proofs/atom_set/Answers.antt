-- `atoms::atom_set` meets its contract: the relations below the end, one after the other.
use mathlib.Core.Path.{sym, ◌∙◌}
use Rattle.terms.specs.Schema.{schema}
use Rattle.atoms.proofs.Atoms.{no_atoms, atoms_first, atoms_next, atoms_last}
use Rattle.atoms.proofs.atom_set.Goals as goal

pub returns-then-out_of_range : goal.returns-then-out_of_range
unfolding schema
returns-then-out_of_range c = c.empty-set.ensures ∙ no_atoms _ _ (sym c.out_of_range.ensures ∙ c.if-out_of_range.true)

pub loop-i-init : goal.loop-i-init
loop-i-init c = atoms_first _ _ _ c.empty-set.ensures

pub loop-i-preserved : goal.loop-i-preserved
unfolding schema
loop-i-preserved c = atoms_next _ _ _ _ _ c.loop-i.invariant c.min-i-end.ensures _ _ _ c.loop-i-test.true c.atom_relation.ensures
    c.relation_atoms-bits.ensures c.store_word.ensures

pub returns : goal.returns
unfolding schema
returns c = atoms_last _ _ _ _ _ c.loop-i.invariant c.min-i-end.ensures _ c.loop-i-test.false c.params_by_kind-kinds.ensures
    (sym c.out_of_range.ensures ∙ c.if-out_of_range.false)
