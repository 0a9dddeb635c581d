-- A step's bound facts and row 11, in the parts that the functions compute: the facts of a list that are left, and two states walked together, the
-- second looked over on the way. `StepMarked`, `StepTurned`, `Suited` and `RightForFew` are for callers.
-- Uses the definitions of observed, format and states.
use Rattle.std.specs.Prelude.{ℕ, ◌+◌, ◌<◌, ◌≤◌, ◌≡◌, Bool, true, ◌||◌, List, [], Result, IfOk, MatchResult}
use Rattle.terms.specs.declared.Binding.{Binding}
use Rattle.terms.specs.declared.Fact.{Fact}
use Rattle.terms.specs.Schema.{Schema, TypedObjects}
use Rattle.terms.specs.Facts.{no_fact}
use Rattle.terms.specs.Told.{suits}
use Rattle.answer.specs.declared.Refusal.{Refusal}
use Rattle.answer.specs.Answer.{Refused}
use Rattle.answer.specs.Refusal.{refused_by, answer_by}
use Rattle.limits.specs.Limits.{count_size, max_objects, max_relations}
use Rattle.input.specs.Bytes.{two}
use Rattle.format.specs.Filed.{as_written}
use Rattle.format.specs.Lists.{list_at, list_end}
use Rattle.format.specs.States.{facts}
use Rattle.quantify.specs.Quantify.{Mem}
use Rattle.tables.specs.Tables.{RightByPlace, ForRightByPlace}
use Rattle.factlist.specs.declared.ListCursor.{ListCursor}
use Rattle.factlist.specs.Rest.{rest, FactsWithin}
use Rattle.states.specs.declared.FactCursor.{FactCursor}
use Rattle.states.specs.Looked.{Looked}
use Rattle.observed.specs.Inverse.{marks, atoms_in, unbound_changed, turn_marks, some_unbound}
use Rattle.turning.specs.Turning.{flipped}
use Rattle.stepmasks.specs.declared.Walk.{Walk}
use Rattle.stepmasks.specs.declared.Marked.{Marked}

-- ---- the facts of a state that are looked over on the way

-- the cursor at the same facts that does not look them over
unfoldable pub plain : FactCursor → ListCursor
plain c = record { at = c.at; left = c.left }

-- the table of a record is right for typed objects and a schema, no more of objects and relations than there may be
pub record RightForFew (table : List ℕ) : Type 0 where
  pub sch : Schema
  pub ob : TypedObjects
  pub right : RightByPlace sch ob table
  pub few : ob.count ≤ max_objects
  pub known : sch.relations ≤ max_relations

-- each of the facts suits by the table
abbrev pub Suited : List ℕ → List Fact → Type 0
Suited table fs = (f : Fact) → Mem f fs → suits table f ≡ true

-- at the first fact of the list at an offset, none of its facts looked over yet
pub record ListAhead (s : List ℕ) (at : ℕ) (c : FactCursor) : Type 0 where
  pub facts : rest s (plain c) ≡ list_at s at
  pub ahead : FactsWithin s (plain c)
  pub looked : (table : List ℕ) (end : ℕ) → list_end s at ≤ end → Looked 8 s table end (two s at) (at + count_size) c

-- One turn from the cursor c to c': a fact that was passed is right and in order, or the list is refused by 8 at the fact at c.
abbrev pub Looks : {A : Type 0} → List ℕ → List ℕ → FactCursor → Result A Refusal → FactCursor → Type 0
Looks s table c r c' =
    MatchResult r (λ _. (end n from : ℕ) → Looked 8 s table end n from c → Looked 8 s table end n from c')
    (λ e. (refused_by e ≡ Refused 8 c.at) × ((end n from : ℕ) → Looked 8 s table end n from c → ForRightByPlace table (λ sch ob. refused_by e ≡ facts as_written 8 sch ob s end n no_fact from)))

-- the facts from a cursor on, looked over and marked
pub record RestMarked (s table atoms : List ℕ) (b : Binding) (c : FactCursor) (m m' : List ℕ) (r : Result Marked Refusal) : Type 0 where
  pub answers : (end n from : ℕ) → Looked 8 s table end n from c → ForRightByPlace table (λ sch ob. answer_by (λ (x : Marked). x.next) r ≡ facts as_written 8 sch ob s end n no_fact from)
  pub marked : IfOk r (λ x. (m' ≡ marks atoms b m (rest s (plain c))) × (x.unbound ≡ unbound_changed atoms b [] (rest s (plain c))))

-- ---- the facts of two states

abbrev pub to_come : Walk → ℕ
to_come w = w.pre.left + w.post.left

-- row 11 of two states, by what was seen and what is yet to come
unfoldable pub says : List ℕ → List ℕ → Binding → Walk → Bool
says s atoms b w = w.changed || unbound_changed atoms b (rest s w.pre) (rest s (plain w.post))

-- One turn of the loop, from v with the sets m and n to w with m' and n': fewer facts are left, and marking those that are left in m' and n' gives the
-- sets and the answer that marking what was left before the turn in m and n gives.
pub record NextMarked (s atoms : List ℕ) (b : Binding) (v : Walk) (m n : List ℕ) (w : Walk) (m' n' : List ℕ) : Type 0 where
  pub ahead : FactsWithin s w.pre
  pub ahead_after : FactsWithin s (plain w.post)
  pub suited : (table : List ℕ) → Suited table (rest s v.pre) → Suited table (rest s w.pre)
  pub before : marks atoms b m' (rest s w.pre) ≡ marks atoms b m (rest s v.pre)
  pub after : marks atoms b n' (rest s (plain w.post)) ≡ marks atoms b n (rest s (plain v.post))
  pub same : says s atoms b w ≡ says s atoms b v
  pub less : to_come w < to_come v

-- the bound facts of two states, and row 11 of them
pub record StepMarked (atoms : List ℕ) (b : Binding) (pre post : List Fact) (m n : List ℕ) (r : Bool) : Type 0 where
  pub before : m ≡ atoms_in atoms b pre
  pub after : n ≡ atoms_in atoms b post
  pub unbound : r ≡ unbound_changed atoms b pre post

-- in a short book: the facts ts of the list turned in the state m, those of them that are bound facts turned in n, which has the bound facts before
-- the step; and row 11 of ts
pub record StepTurned (atoms : List ℕ) (b : Binding) (ts : List Fact) (m m' n n' : List ℕ) (r : Bool) : Type 0 where
  pub state : m' ≡ flipped ts m
  pub after : n' ≡ turn_marks atoms b n ts
  pub unbound : r ≡ some_unbound atoms b ts
