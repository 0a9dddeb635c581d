-- One step of a record observed as its list is looked over: what the step's form gives the functions of observestep, and what they say comes to what is
-- observed after the step.
use Prim.Native.Nat.{ℕ, ◌+◌, ◌≤◌}
use native.Mathlib.Omega.{arith}
use mathlib.Core.Path.{◌≡◌, refl, sym, ap, ◌∙◌, subst}
use mathlib.Core.Bool.{Bool, true, false, ◌&&◌, not}
use mathlib.Core.List.{List}
use lib.ListN.{length}
use Rattle.std.proofs.Common.{Result, Ok, Err, IfOk}
use Rattle.truth.specs.Bools.{clash}
use Rattle.answer.specs.Answer.{Good}
use Rattle.answer.specs.declared.Refusal.{Refusal}
use Rattle.answer.specs.Refusal.{refused_by, answer_by}
use Rattle.answer.proofs.Laws.{bind_good, bind_refused, parted}
use Rattle.mask.specs.Bits.{test_bit}
use Rattle.mask.specs.Sets.{mask_of, cardinality}
use Rattle.terms.specs.declared.Fact.{Fact}
use Rattle.terms.specs.Schema.{schema, typed_objects}
use Rattle.terms.specs.Steps.{ground}
use Rattle.terms.specs.Facts.{fact_bad, no_fact}
use Rattle.terms.specs.Told.{suits}
use Rattle.limits.specs.Limits.{max_length, step_size}
use Rattle.format.specs.Filed.{went_at, filed_fact, filed_step_at, as_written}
use Rattle.format.specs.Lists.{list_at, list_end}
use Rattle.format.specs.Toggled.{toggled}
use Rattle.format.specs.Form.{Form, full, most_listed, state_after}
use Rattle.format.specs.States.{list}
use Rattle.format.specs.Decode.{recorded_step}
use Rattle.quantify.specs.Quantify.{Mem}
use Rattle.atoms.specs.Atoms.{atom_set, atoms_end}
use Rattle.grounding.specs.Grounding.{Bounded, held_atoms}
use Rattle.tables.specs.Tables.{RightByPlace}
use Rattle.turning.specs.Turning.{Turnable, Carried}
use Rattle.turning.proofs.Carrying.{carries_count, list_turnable}
use Rattle.factsets.specs.Right.{Increasing, RightStep}
use Rattle.factsets.proofs.Suits.{move_there}
use Rattle.factsets.proofs.States.{list_suits, list_increasing}
use Rattle.factsets.proofs.Numbers.{fact_parts}
use Rattle.terms.proofs.Atoms.{range_out}
use Rattle.observed.specs.Inverse.{atoms_in}
use Rattle.observed.specs.Observed.{bound, Observed, observed_set, failure_seen, observe, observe_by}
use Rattle.observed.proofs.Observe.{observe_went, observe_failed}
use Rattle.onewalk.proofs.Bound.{step_bounded, step_ended}
use Rattle.onewalk.proofs.Turned.{held_found, turn_marks_lem, some_unbound_lem}
use Rattle.states.specs.Looked.{whole_list}
use Rattle.states.proofs.Looking.{whole_parts, good_whole}
use Rattle.records.specs.declared.Scope.{Scope}
use Rattle.records.specs.Readable.{schema_in, typed_in, step_alone, step_listed}
use Rattle.records.proofs.Parts.{alone_behind}
use Rattle.lifting.specs.Pairs.{no_digits}
use Rattle.stepmasks.specs.Marks.{Suited, RightForFew}
use Rattle.observestep.specs.declared.Noted.{Noted}
use Rattle.observestep.specs.Notes.{observed_step, IsObserved, StepTurnable, observed_turned, TurnObserved}
use Rattle.observerecords.specs.Observing.{Observable, Ready, Whole, Done, DoneReady}

-- the facts that hold after a step of a short book
after_short : (form : Form) (s : List ℕ) (before : List Fact) (at : ℕ) → form ≡ true → state_after form s before at ≡ toggled before (list_at s at)
unfolding state_after
after_short form s before at e = rw e

-- a step that went is observed by the bound facts of its move
observed_went : (form : Form) (s : List ℕ) (before : List Fact) (at : ℕ) (masks : List ℕ) (named : ℕ) → went_at s at ≡ true
    → observed_step form s before at masks named ≡ observe (recorded_step form s before at) (record { masks = masks; named = named; failed = false })
unfolding observed_step recorded_step
observed_went form s before at masks named went = sym (observe_went _ _ went)

-- one that did not go is passed over: nothing is learned of it, and its list is carried
pub done_passed : (form : Form) (s : List ℕ) (before : List Fact) (at : ℕ) (m m' masks : List ℕ) (named : ℕ) (r : Noted) → went_at s at ≡ false
    → r.named ≡ named
    → Carried form s (at + step_size) m m' r.count
    → Done form s before at m masks named m' masks r
unfolding recorded_step failure_seen
done_passed form s before at m m' masks named r failed same carried =
    record {
      observed = subst (λ (x : Observed). IsObserved x masks r.named) (sym (observe_failed (recorded_step form s before at) _ failed)) (record { masks = refl; named = same });
      carried = carried;
    }

-- what the functions say of a step, by the list behind it
module _ (s : List ℕ) (c : Scope) where
  pub alone_err : (at : ℕ) (e : Refusal) → refused_by e ≡ step_alone (schema_in s c) (typed_in s c) s c.end at → refused_by e ≡ step_listed c.short (schema_in s c) (typed_in s c) s c.end at
  unfolding step_listed
  alone_err at e told = sym (bind_refused _ _ _ _ (sym told))

  pub alone_ok : (at listed : ℕ) → Good listed ≡ step_alone (schema_in s c) (typed_in s c) s c.end at
      → list (filed_fact c.short) 8 (most_listed c.short) (schema_in s c) (typed_in s c) s c.end (at + step_size) ≡ step_listed c.short (schema_in s c) (typed_in s c) s c.end at
  unfolding step_listed
  alone_ok at listed told =
      let place = (alone_behind (schema_in s c) (typed_in s c) s c.end at listed (sym told)).3 in
      sym (bind_good _ (list (filed_fact c.short) 8 (most_listed c.short) (schema_in s c) (typed_in s c) s c.end) (at + step_size) (sym told ∙ ap Good place))

  module _ (pre at : ℕ) (m : List ℕ) (held : ℕ) (masks : List ℕ) (named : ℕ) (t m' : List ℕ) where
    pub passed_done : (r : Result Noted Refusal) → t ≡ no_digits → went_at s at ≡ false
        → IfOk r (λ x. (x.named ≡ named) × Carried c.short s (at + step_size) m m' x.count)
        → IfOk r (λ x. (t ≡ no_digits) × DoneReady s c pre at m held masks named m' masks x)
    passed_done (Ok x) same failed v = (same, λ ready. done_passed c.short s ready.before at m m' masks named x failed v.0 v.1)
    passed_done (Err e) same failed v = tt

    -- a list that is not whole is refused
    pub cut_done : (masks' : List ℕ) (r : Result Noted Refusal)
        → answer_by (λ (x : Noted). x.next) r ≡ list (filed_fact c.short) 8 (most_listed c.short) (schema_in s c) (typed_in s c) s c.end (at + step_size)
        → whole_list (most_listed c.short) s c.end (at + step_size) ≡ false
        → IfOk r (λ x. (t ≡ no_digits) × DoneReady s c pre at m held masks named m' masks' x)
    cut_done masks' (Ok x) e cut = clash _ (good_whole _ _ _ _ _ _ _ _ x.next (sym e)) cut
    cut_done masks' (Err y) e cut = tt

module _ (s : List ℕ) (c : Scope) (ks table : List ℕ) (obs : Observable s c ks table) where
  pub known : (schema_in s c).relations ≤ 16
  unfolding schema
  known = obs.readable.known

  pub few : (typed_in s c).count ≤ 16
  unfolding typed_objects
  few = obs.readable.few

  -- the table serves lists that turn
  pub right_few : RightForFew table
  right_few = record { sch = schema_in s c; ob = typed_in s c; right = obs.readable.table; few = few; known = known }

  -- right facts suit by the table
  pub right_suited : (fs : List Fact) → ((f : Fact) → Mem f fs → fact_bad (schema_in s c) (typed_in s c) f ≡ false) → Suited table fs
  unfolding RightByPlace
  right_suited fs right f m =
      let good = right f m in
      let low = (range_out (schema_in s c).relations f.relation.0 (fact_parts (schema_in s c) (typed_in s c) f good).0).1 in
      go (suits table f) (obs.readable.table f (omega (arith, low, known)) ∙ good)
    where
      go : (b : Bool) → not b ≡ false → b ≡ true
      go true e = refl
      go false e = clash true refl e

  -- a good list behind a step can be turned
  pub list_turns : (at next : ℕ) → at + step_size ≤ c.end → list as_written 8 (most_listed c.short) (schema_in s c) (typed_in s c) s c.end (at + step_size) ≡ Good next → Turnable s (at + step_size)
  list_turns at next fits good =
      list_turnable (most_listed c.short) 8 (schema_in s c) (typed_in s c) few known s c.end (at + step_size) next good obs.readable.within (omega (arith, fits, obs.readable.near))

  -- a step that was found good alone
  pub step_found : (at listed : ℕ) → Good listed ≡ step_alone (schema_in s c) (typed_in s c) s c.end at
      → (at + step_size ≤ c.end) × (step_alone (schema_in s c) (typed_in s c) s c.end at ≡ Good (at + step_size)) × (listed ≡ at + step_size)
  step_found at listed told =
      let (fits, suits, different, place) = alone_behind (schema_in s c) (typed_in s c) s c.end at listed (sym told) in
      (fits, sym told ∙ ap Good place, place)

  -- a step and a list that were found good
  pub listed_whole : (at next : ℕ) → step_listed c.short (schema_in s c) (typed_in s c) s c.end at ≡ Good next → Whole s c at
  unfolding step_listed
  listed_whole at next e =
      let (listed, alone, good) = parted (step_alone (schema_in s c) (typed_in s c) s c.end at) next _ e in
      let place = (alone_behind (schema_in s c) (typed_in s c) s c.end at listed alone).3 in
      record {
        alone = alone ∙ ap Good place;
        list = good_whole _ (most_listed c.short) 8 (schema_in s c) (typed_in s c) s c.end (at + step_size) next (rw place at good);
      }

  -- in a short book the number is that of the mask
  pub held_count : (pre : ℕ) (m : List ℕ) (held : ℕ) (masks : List ℕ) (ready : Ready s c pre m held masks) → c.short ≡ true → held ≡ cardinality m
  held_count pre m held masks ready =
      carries_count (schema_in s c) (typed_in s c) few known c.short ready.before m held ready.right.suits ready.right.increasing ready.carries

  module _ (at : ℕ) (whole : Whole s c at) where
    -- ---- what the form of the step gives
    behind : at + step_size ≤ c.end
    behind = (alone_behind (schema_in s c) (typed_in s c) s c.end at (at + step_size) whole.alone).0

    pub right_step : RightStep (schema_in s c) (typed_in s c) (filed_step_at s at)
    right_step =
        let (fits, suits, different, place) = alone_behind (schema_in s c) (typed_in s c) s c.end at (at + step_size) whole.alone in
        record { typed = obs.typed; suits = suits; different = different }

    pub step_move : (1 ≤ (filed_step_at s at).action.0) × ((filed_step_at s at).action.0 ≤ 32)
    unfolding schema
    step_move =
        let w = move_there (schema_in s c) (typed_in s c) (filed_step_at s at) right_step.suits in
        (w.0, omega (arith, w.1, obs.moves))

    pub step_within : (at ≤ max_length) × (list_end s (at + step_size) ≤ length s)
    step_within =
        (omega (arith, behind, obs.readable.near), omega (arith, (whole_parts (most_listed c.short) s c.end (at + step_size) whole.list).1, obs.readable.within))

    bounded : Bounded (filed_step_at s at).binding
    bounded = step_bounded (schema_in s c) (typed_in s c) (filed_step_at s at) right_step few

    module _ (pre : ℕ) (m : List ℕ) (held : ℕ) (masks : List ℕ) (ready : Ready s c pre m held masks) where
      ended : (n : ℕ) → atoms_end c.h.relations.count ≤ n → test_bit (observed_set masks (filed_step_at s at).action.0 bound) n ≡ false
      unfolding schema
      ended = step_ended (schema_in s c) (typed_in s c) (filed_step_at s at) right_step known obs.moves masks ready.begun

      pub ready_turnable : StepTurnable c.h s at m masks
      ready_turnable =
          record {
            near = step_within.0;
            within = step_within.1;
            counted = step_move.0;
            known = step_move.1;
            bounded = bounded;
            ended = ended;
            sized = ready.begun.sized;
            long = ready.long;
          }

      pub ready_suited : c.short ≡ false → Suited table (list_at s pre)
      ready_suited e = rw (ready.listed e).0 (right_suited ready.before ready.right.suits)

      -- ---- what the functions say of a full book
      pub done_listed : went_at s at ≡ true → c.short ≡ false → (masks' : List ℕ) (named : ℕ) (r : Noted) → r.count ≡ 0
          → IsObserved (observed_step full s (list_at s pre) at masks named) masks' r.named → Done c.short s ready.before at m masks named m masks' r
      done_listed went e masks' named r none o =
          record {
            observed = subst (λ (x : Observed). IsObserved x masks' r.named) (observed_went c.short s ready.before at masks named went)
                (subst (λ (f : Form). IsObserved (observed_step f s ready.before at masks named) masks' r.named) (sym e)
                (subst (λ (fs : List Fact). IsObserved (observed_step full s fs at masks named) masks' r.named) (ready.listed e).0 o));
            carried = record { turned = λ t. clash c.short t e; nothing = λ f. (refl, none) };
          }

      -- ---- of a short one, whose list is good
      module _ (e : c.short ≡ true) (next : ℕ) (good : list as_written 8 (most_listed c.short) (schema_in s c) (typed_in s c) s c.end (at + step_size) ≡ Good next) where
        abbrev own : List ℕ
        own = atom_set (schema_in s c) (filed_step_at s at).action.0

        abbrev ts : List Fact
        ts = list_at s (at + step_size)

        suit : (f : Fact) → Mem f ts → fact_bad (schema_in s c) (typed_in s c) f ≡ false
        suit = list_suits (most_listed c.short) 8 (schema_in s c) (typed_in s c) s c.end (at + step_size) next good

        order : Increasing no_fact ts
        order = list_increasing (most_listed c.short) 8 (schema_in s c) (typed_in s c) s c.end (at + step_size) next good

        found : held_atoms (schema_in s c) (filed_step_at s at).binding own m ≡ atoms_in own (filed_step_at s at).binding ready.before
        unfolding held_atoms
        found =
            ap (λ (x : List ℕ). mask_of 32 (λ n. test_bit own n && test_bit x (ground (schema_in s c) (filed_step_at s at).binding n))) (ready.carries.mask e)
            ∙ held_found (schema_in s c) known (typed_in s c) few (filed_step_at s at) right_step ready.before ready.right.suits

        same : (named : ℕ) → observed_turned (schema_in s c) (filed_step_at s at) own m ts at masks named ≡ observe_by own (recorded_step c.short s ready.before at) (record { masks = masks; named = named; failed = false })
        unfolding observed_turned observe_by recorded_step
        same named =
            let post = after_short c.short s ready.before (at + step_size) e in
            rw (
              post,
              found,
              turn_marks_lem (schema_in s c) known (typed_in s c) few (filed_step_at s at) right_step ready.before ts ready.right.suits ready.right.increasing suit order,
              some_unbound_lem own (filed_step_at s at).binding ready.before ts ready.right.increasing order,
            )

        pub done_turned : went_at s at ≡ true → (m' masks' : List ℕ) (named : ℕ) (r : Noted)
            → TurnObserved (schema_in s c) (filed_step_at s at) ts at masks named masks' r.named m m'
            → r.count ≡ cardinality m'
            → Done c.short s ready.before at m masks named m' masks' r
        unfolding observed_step
        done_turned went m' masks' named r o count =
            let atoms = ready.begun.atoms _ step_move.0 step_move.1 in
            record {
              observed = subst (λ (x : Observed). IsObserved x masks' r.named) (observed_went c.short s ready.before at masks named went)
                  (rw atoms (subst (λ (x : Observed). IsObserved x masks' r.named) (same named) (rw atoms at o.observed)));
              carried = record { turned = λ t. (o.state, count); nothing = λ f. clash c.short e f };
            }

    -- ---- the same, by what they return
    module _ (pre : ℕ) (m : List ℕ) (held : ℕ) (masks : List ℕ) (named : ℕ) (t : List ℕ) where
      pub listed_done : (masks' : List ℕ) (r : Result Noted Refusal) → c.short ≡ false → went_at s at ≡ true
          → IfOk r (λ x. (x.count ≡ 0) × (t ≡ no_digits) × IsObserved (observed_step full s (list_at s pre) at masks named) masks' x.named)
          → IfOk r (λ x. (t ≡ no_digits) × DoneReady s c pre at m held masks named m masks' x)
      listed_done masks' (Ok x) e went v = (v.1, λ ready. done_listed pre m held masks ready went e masks' named x v.0 v.2)
      listed_done masks' (Err y) e went v = tt

      pub turned_done : (m' masks' : List ℕ) (r : Result Noted Refusal) → c.short ≡ true → went_at s at ≡ true
          → answer_by (λ (x : Noted). x.next) r ≡ list as_written 8 (most_listed c.short) (schema_in s c) (typed_in s c) s c.end (at + step_size)
          → IfOk r (λ x. (t ≡ no_digits) × TurnObserved (schema_in s c) (filed_step_at s at) (list_at s (at + step_size)) at masks named masks' x.named m m' × (x.count ≡ cardinality m'))
          → IfOk r (λ x. (t ≡ no_digits) × DoneReady s c pre at m held masks named m' masks' x)
      turned_done m' masks' (Ok x) e went good v = (v.0, λ ready. done_turned pre m held masks ready e x.next (sym good) went m' masks' named x v.1 v.2)
      turned_done m' masks' (Err y) e went good v = tt
