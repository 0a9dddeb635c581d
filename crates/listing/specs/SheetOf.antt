-- What is known where lines are put: the book is not refused, and the sheet is its own.
use Rattle.std.specs.Prelude.{ℕ, ◌≤◌, ◌≡◌, List}
use Rattle.format.specs.Form.{full}
use Rattle.limits.specs.Limits.{max_moves, max_relations}
use Rattle.terms.specs.declared.Sections.{Sections}
use Rattle.terms.specs.Sections.{sections_of}
use Rattle.jobs.specs.Learn.{rule_sheet}

-- a book that is not refused, with its header and its sheet
pub record SheetOf (s : List ℕ) (h : Sections) (sheet : List ℕ) : Type 0 where
  pub own : h ≡ sections_of s
  pub few_moves : h.moves.count ≤ max_moves
  pub few_relations : h.relations.count ≤ max_relations
  pub bytes : sheet ≡ rule_sheet full s
