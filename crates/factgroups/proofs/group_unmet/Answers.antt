-- `factgroups::group_unmet` meets its contract: a group of the state is a word.
use native.Mathlib.Omega.{arith}
use Rattle.factgroups.proofs.Needs.{group_unmet_by}
use Rattle.factgroups.proofs.group_unmet.Goals as goal

pub returns : goal.returns
returns c ys small right = rw (← c.columns-to_hold.ensures ys small right, ← c.columns-not_to_hold.ensures ys small right)
    (group_unmet_by _ _ _ _ _ (omega arith) (omega arith) c.group_word-held.ensures)
