-- What the functions over one record ask of it, and what one of them computes.
use Rattle.std.specs.Prelude.{ℕ, ◌+◌, ◌≤◌, List, length}
use Rattle.limits.specs.Limits.{max_length, max_objects, max_relations, head_size, step_size}
use Rattle.answer.specs.Answer.{Answer, Good, ◌>>=◌, refuse}
use Rattle.terms.specs.declared.Sections.{Sections}
use Rattle.terms.specs.Schema.{Schema, TypedObjects, schema, typed_objects}
use Rattle.terms.specs.Steps.{repeats}
use Rattle.format.specs.Filed.{filed_step_at, filed_fact}
use Rattle.format.specs.Form.{Form, most_listed}
use Rattle.format.specs.States.{list}
use Rattle.format.specs.Records.{step_refused}
use Rattle.tables.specs.Tables.{RightByKind, RightByPlace}
use Rattle.terms.specs.declared.Head.{Head}
use Rattle.records.specs.declared.Scope.{Scope}

-- what a trajectory is read within, by the record's head
unfoldable pub scope_of : Form → Sections → Head → ℕ → ℕ → Scope
scope_of form h head at end =
    record { short = form; h = h; objects = record { count = head.objects; at = at + head_size }; steps = head.steps; end = end }

-- the schema and the typed objects that it is read by
abbrev pub schema_in : List ℕ → Scope → Schema
schema_in s c = schema c.h s

abbrev pub typed_in : List ℕ → Scope → TypedObjects
typed_in s c = typed_objects c.objects s

-- the record ends within the book, at an offset that can be added to; relations and objects are no more than there may be; and the tables are right
-- for its objects
pub record Readable (s : List ℕ) (c : Scope) (ks t : List ℕ) : Type 0 where
  pub within : c.end ≤ length s
  pub near : c.end ≤ max_length
  pub known : c.h.relations.count ≤ max_relations
  pub few : c.objects.count ≤ max_objects
  pub kinds : RightByKind (schema_in s c) (typed_in s c) ks
  pub table : RightByPlace (schema_in s c) (typed_in s c) t

-- rows 9 and 10 of a step: where the list behind it starts
unfoldable pub step_alone : Schema → TypedObjects → List ℕ → ℕ → ℕ → Answer
step_alone sch ob s end at = do
  _ ← refuse (step_refused sch ob s end at) 9 at
  _ ← refuse (repeats (filed_step_at s at)) 10 at
  Good (at + step_size)

-- then row 8 of that list, before it is asked how many facts it leaves
unfoldable pub step_listed : Form → Schema → TypedObjects → List ℕ → ℕ → ℕ → Answer
step_listed form sch ob s end at = do
  listed ← step_alone sch ob s end at
  list (filed_fact form) 8 (most_listed form) sch ob s end listed
