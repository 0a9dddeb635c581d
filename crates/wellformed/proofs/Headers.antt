-- A book of good form has at most 16 relations, and 32 moves; its schema is right.
use Prim.Native.Nat.{ℕ, ◌≤◌}
use mathlib.Core.Path.{◌≡◌}
use mathlib.Core.List.{List}
use Rattle.answer.specs.Answer.{Good}
use Rattle.terms.specs.Schema.{schema}
use Rattle.terms.specs.Sections.{sections_of}
use Rattle.terms.specs.Typing.{RightSchema}
use Rattle.limits.specs.Limits.{max_relations, max_moves}
use Rattle.format.specs.Form.{Form}
use Rattle.format.specs.LookOver.{look_over}
use Rattle.format.proofs.LookOver.{look_over_good}
use Rattle.format.proofs.Typing.{schema_right}
use Rattle.jobs.specs.Planning.{schema_of}

pub relations_few : (form : Form) (s : List ℕ) (n : ℕ) → look_over form s ≡ Good n → (schema_of s).relations ≤ max_relations
unfolding schema_of schema
relations_few form s n e = (look_over_good form s n e).sections.counts.relations

pub moves_few : (form : Form) (s : List ℕ) (n : ℕ) → look_over form s ≡ Good n → (schema_of s).moves ≤ max_moves
unfolding schema_of schema
moves_few form s n e = (look_over_good form s n e).sections.counts.moves

pub right_schema : (form : Form) (s : List ℕ) (n : ℕ) → look_over form s ≡ Good n → RightSchema (schema_of s)
unfolding schema_of
right_schema form s n e = schema_right (sections_of s) s _ (look_over_good form s n e).sections
