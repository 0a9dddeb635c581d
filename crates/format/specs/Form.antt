-- The two forms of a book. In a full book each state lists the facts that hold; in a short one each state after a record's first lists the facts
-- whose value turns.
use Rattle.std.specs.Prelude.{Bool, true, false, cond, List, ℕ}
use Rattle.terms.specs.declared.Fact.{Fact}
use Rattle.limits.specs.Limits.{max_facts, max_turns}
use Rattle.format.specs.Lists.{list_at}
use Rattle.format.specs.Toggled.{toggled}

abbrev pub Form : Type 0
Form = Bool

abbrev pub full : Form
full = false

abbrev pub short : Form
short = true

-- how many facts the list of a state after a step may have
unfoldable pub most_listed : Form → ℕ
most_listed form = cond form max_turns max_facts

-- the facts that hold after a step, by those before it and the list at an offset
unfoldable pub state_after : Form → List ℕ → List Fact → ℕ → List Fact
state_after form s before at = cond form (toggled before (list_at s at)) (list_at s at)
