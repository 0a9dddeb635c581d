-- Records of good form, one by one: their parts are good, and their bytes are a head with objects, a state and steps, the length renewed.
use Prim.Native.Nat.{ℕ, zero, suc, ◌+◌, ◌-◌, ◌≤◌, ◌<◌}
use native.Mathlib.Numerals.{sub-one}
use native.Mathlib.Omega.{arith}
use mathlib.Core.Path.{◌≡◌, refl, ◌∙◌, ap}
use mathlib.Core.Bool.{not, not-not}
use mathlib.Core.List.{List, [], ◌∷◌, ◌++◌, append_assoc}
use lib.ListN.{length, take, drop, length-append}
use Rattle.std.specs.Prelude.{Result}
use Rattle.answer.proofs.Walks.{walk_parted}
use Rattle.input.specs.Bytes.{byte_at, two}
use Rattle.output.specs.Written.{written, two_bytes}
use Rattle.terms.specs.declared.Fact.{Fact}
use Rattle.terms.specs.Facts.{no_fact}
use Rattle.terms.specs.Sections.{sections_of}
use Rattle.terms.specs.Schema.{schema, typed_objects}
use Rattle.limits.specs.Limits.{max_length, max_facts, head_size}
use Rattle.format.specs.Filed.{filed_fact}
use Rattle.format.specs.Lists.{list_at, list_end}
use Rattle.format.specs.Toggled.{toggled}
use Rattle.format.specs.Form.{Form, state_after}
use Rattle.format.specs.Records.{objects_in, steps_in, length_in, objects_of, record_at}
use Rattle.format.specs.Decode.{first_at, recorded_steps_at, steps_of_record}
use Rattle.format.proofs.States.{list_ends}
use Rattle.format.proofs.Records.{record_good, record_within, head_limits}
use Rattle.jobs.specs.Convert.{list_bytes, steps_bytes, bytes_at, body_bytes, record_bytes, records_bytes}
use Rattle.jobs.proofs.Bytes.{part_cons, part_three}
use Rattle.factsets.proofs.States.{list_increasing, list_few, after_none}
use Rattle.factsets.proofs.Toggled.{toggled_none}
use Rattle.appending.specs.Appended.{Appended, AllBut}
use Rattle.rendering.specs.Held.{Holds}
use Rattle.rendering.specs.Good.{GoodNext, GoodTrajectory, GoodRecord, GoodRecords}
use Rattle.rendering.specs.Formed.{trajectory_bytes}
use Rattle.appending.proofs.Appended.{append_then, appended_then, append_renewed, over_first, over_then, part_none, part_next, part_over, part_all}

-- ---- from the first state on

module _ (form : Form) (s : List ℕ) (n at : ℕ) (good : GoodTrajectory form s n at) (before : List Fact) (none : before ≡ []) where
  pub first_after : state_after form s before at ≡ list_at s at
  first_after = ap (λ (fs : List Fact). state_after form s fs at) none ∙ after_none form s at good.list.order

  pub first_good : GoodNext form s before at
  first_good = record { list = good.list; few = rw first_after good.few }

  first_bytes : toggled before (list_at s at) ≡ list_at s at
  first_bytes = rw none (toggled_none no_fact (list_at s at) good.list.order)

  -- the end is passed by the first state
  pub trajectory_over : (old : List ℕ) → max_length < length old + length (list_bytes (toggled before (list_at s at))) → max_length < length old + length (trajectory_bytes form s n at)
  unfolding trajectory_bytes
  trajectory_over old h = over_first (list_bytes (list_at s at)) _ old old (rw first_bytes at h)

  module _ (old mid state : List ℕ)
      (p : (mid ≡ old ++ list_bytes (toggled before (list_at s at))) × Holds state × (list_at state 0 ≡ state_after form s before at)) where
    pub first_holds : Holds state × (list_at state 0 ≡ list_at s at)
    first_holds = (p.1, p.2 ∙ first_after)

    pub trajectory_all : {A E : Type 0} (from : ℕ) → from ≡ list_end s at → (new : List ℕ) (r : Result A E)
        → Appended (steps_bytes (not form) (recorded_steps_at form s n (list_at state 0) from)) mid new r
        → Appended (trajectory_bytes form s n at) old new r
    unfolding trajectory_bytes
    trajectory_all from d new r q = appended_then (list_bytes (list_at s at)) _ old mid new r (rw first_bytes at p.0) (rw (first_holds.1, d) at q)

-- ---- a record

module _ (form : Form) (s : List ℕ) (at : ℕ) (g : GoodRecord form s at) where
  -- its parts are good
  parts_good : GoodTrajectory form s (steps_in s at) (first_at s at)
  unfolding filed_fact
  parts_good =
      let h = sections_of s in
      let r = record_good form h s at g.next g.good in
      let end : ℕ = at + length_in s at in
      let reach : end ≤ length s = (head_limits s at r.head).2 in
      let within = (list_ends _ max_facts 8 (schema h s) (typed_objects (objects_of s at) s) s end (first_at s at) _ r.start).1 in
      record {
        list = record { within = omega arith; near = g.near; order = list_increasing max_facts 8 _ _ s end (first_at s at) _ r.start };
        few = list_few max_facts 8 _ _ s end (first_at s at) _ r.start;
        steps = record { sch = schema h s; ob = typed_objects (objects_of s at) s; end = end; last = r.last; good = r.steps; start = within; within = reach; near = g.near };
      }

  pub start_near : at ≤ max_length
  unfolding list_end
  start_near = omega (arith, parts_good.list)

  -- by the counts that are read
  module _ (objects steps : ℕ) (a : objects ≡ byte_at s at) (b : steps ≡ byte_at s (at + 1)) where
    first_is : at + head_size + objects ≡ first_at s at
    unfolding objects_in
    first_is = omega (arith, a)

    steps_is : steps ≡ steps_in s at
    unfolding steps_in
    steps_is = b

    pub record_trajectory : GoodTrajectory form s steps (at + head_size + objects)
    record_trajectory = rw (first_is, steps_is) parts_good

    pub record_reach : at + head_size + objects ≤ length s
    unfolding list_end
    record_reach = omega (arith, record_trajectory.list.within)

    -- the length as the book has it
    abbrev old_length : List ℕ
    old_length = byte_at s (at + 2) ∷ byte_at s (at + 3) ∷ []

    abbrev counts : List ℕ
    counts = objects_in s at ∷ steps_in s at ∷ []

    body : List ℕ
    body = bytes_at s (at + head_size) objects ++ trajectory_bytes form s steps (at + head_size + objects)

    head_part : take (at + head_size + objects - at) (drop at s) ≡ counts ++ old_length ++ bytes_at s (at + head_size) objects
    unfolding objects_in steps_in bytes_at
    head_part =
        let l = record_reach in
        let d : at + head_size + objects - at ≡ suc (suc (suc (suc objects))) = omega arith in
        let e : at + 3 + 1 ≡ at + head_size = omega arith in
        rw (d, part_three s at (suc objects) (omega arith), part_cons s (at + 3) objects (omega arith), e)

    objects_is : objects ≡ objects_in s at
    unfolding objects_in
    objects_is = a

    body_is : body_bytes (not form) s at ≡ body
    unfolding body_bytes body trajectory_bytes steps_of_record
    body_is =
        rw (not-not form, first_is, steps_is, objects_is)
        (append_assoc (bytes_at s (at + head_size) (objects_in s at)) (list_bytes (list_at s (first_at s at))) _)

    record_is : counts ++ two_bytes (head_size + length body) ++ body ≡ record_bytes (not form) s at
    unfolding record_bytes
    record_is = rw body_is

    -- the part that was copied, and what is behind it
    abbrev head : List ℕ
    head = take (at + head_size + objects - at) (drop at s)

    abbrev tail : List ℕ
    tail = trajectory_bytes form s steps (at + head_size + objects)

    drafted_is : head ++ tail ≡ counts ++ old_length ++ body
    unfolding body
    drafted_is = rw head_part (append_assoc (counts ++ old_length) (bytes_at s (at + head_size) objects) tail)

    whole_length : length (head ++ tail) ≡ length (record_bytes (not form) s at)
    unfolding two_bytes
    whole_length = ap length drafted_is ∙ ap length record_is

    pub record_over : (old : List ℕ) → max_length < length old + length head → max_length < length old + length (record_bytes (not form) s at)
    record_over old h = let n = whole_length in let o = over_first head tail old old h in omega arith

    module _ (old mid : List ℕ) (p : mid ≡ old ++ head) where
      pub record_over_then : max_length < length mid + length tail → max_length < length old + length (record_bytes (not form) s at)
      record_over_then h = let n = whole_length in let o = over_then head tail old mid p h in omega arith

      module _ (new : List ℕ) (q : new ≡ mid ++ tail) where
        drafted : new ≡ old ++ (counts ++ old_length ++ body)
        drafted = append_then head tail old mid p q ∙ ap (λ (l : List ℕ). old ++ l) drafted_is

        record_size : length new ≡ length old + (head_size + length body)
        record_size = let n : length new ≡ length old + length (counts ++ old_length ++ body) = ap length drafted ∙ length-append old _ in omega arith

        pub record_room : length old + head_size ≤ length new
        record_room = let n = record_size in omega arith

        pub record_renewed : (new' : List ℕ) → new' ≡ written new (length old + 2) (two_bytes (length new - length old)) → new' ≡ old ++ record_bytes (not form) s at
        unfolding two_bytes
        record_renewed new' e =
            let size = record_size in
            let n : length new - length old ≡ head_size + length body = omega arith in
            append_renewed counts old_length body (two_bytes (head_size + length body)) old (length old + 2) drafted refl refl (rw n at e)
            ∙ ap (λ (l : List ℕ). old ++ l) record_is

-- ---- records

module _ (form : Form) (s : List ℕ) where
  -- the first of some records, and the others
  pub records_next : (n at : ℕ) → 0 < n → GoodRecords form s n at → GoodRecord form s at × GoodRecords form s (n - 1) (at + length_in s at)
  records_next zero at h g = absurd (omega arith)
  records_next (suc n) at h g =
      let (next, first, others) = walk_parted (record_at form (sections_of s) s) n at g.last g.good in
      let (place, within) = record_within form (sections_of s) s at next first in (
        record { next = next; good = first; near = g.near },
        rw (sub-one, ← place) (record { last = g.last; good = others; start = within; near = g.near }),
      )

  records_none : (n at : ℕ) → n ≡ 0 → records_bytes (not form) s n at ≡ []
  unfolding records_bytes
  records_none n at e = rw e

  records_first : (n at : ℕ) → 0 < n → record_bytes (not form) s at ++ records_bytes (not form) s (n - 1) (at + length_in s at) ≡ records_bytes (not form) s n at
  unfolding records_bytes
  records_first zero at h = absurd (omega arith)
  records_first (suc n) at h = rw sub-one

  -- a loop over records: those to come are yet to be appended
  pub record Filing (whole old : List ℕ) (n at : ℕ) (new : List ℕ) : Type 0 where
    pub appended : AllBut (records_bytes (not form) s n at) whole old new
    pub good : GoodRecords form s n at

  pub filing_first : (old : List ℕ) (n at : ℕ) → GoodRecords form s n at → Filing (records_bytes (not form) s n at) old n at old
  filing_first old n at good = record { appended = part_none _ old; good = good }

  module _ {whole old : List ℕ} {n at : ℕ} {mid : List ℕ} (i : Filing whole old n at mid) where
    pub filing_end : n ≡ 0 → mid ≡ old ++ whole
    filing_end e = part_all i.appended (records_none n at e)

    module _ (more : 0 < n) where
      pub filing_over : max_length < length mid + length (record_bytes (not form) s at) → max_length < length old + length whole
      filing_over h = part_over i.appended (record_bytes (not form) s at) _ (records_first n at more) h

      pub filing_next : (new : List ℕ) → new ≡ mid ++ record_bytes (not form) s at → (size : ℕ) → size ≡ two s (at + 2) → Filing whole old (n - 1) (at + size) new
      unfolding length_in
      filing_next new c size d =
          let part = part_next i.appended (record_bytes (not form) s at) (records_first n at more) c in
          record { appended = rw d part; good = rw d (records_next n at more i.good).1 }
