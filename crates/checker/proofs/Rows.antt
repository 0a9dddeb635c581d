-- The rows of a check one after the other, by what the calls return, and what the lent end sheet holds.
use Prim.Native.Nat.{ℕ, ◌*◌, ◌≤◌}
use native.Mathlib.Omega.{arith}
use mathlib.Core.Path.{◌≡◌, refl, sym, ap, ◌∙◌}
use mathlib.Core.Bool.{not}
use mathlib.Core.List.{List, [], ◌∷◌}
use lib.ListN.{length, take, drop}
use lib.Seq.{take_at}
use borrow.Author.Tests.{eq-eqb, ne_eqb}
use Rattle.answer.specs.Answer.{Answer, Good, Refused, Positioned, ◌>>=◌, refuse, value_of, unpositioned, then_at, kept}
use Rattle.answer.specs.declared.Refusal.{Refusal}
use Rattle.answer.specs.Refusal.{refused_by}
use Rattle.answer.proofs.Laws.{bind_good, refuse_unmet}
use Rattle.answer.proofs.Positions.{then_by}
use Rattle.limits.specs.Limits.{end_sheet_size, observed_size, rule_size, max_moves}
use Rattle.terms.specs.declared.Sections.{Sections}
use Rattle.terms.specs.declared.Fact.{Fact}
use Rattle.terms.specs.Sections.{sections_of}
use Rattle.terms.specs.Schema.{schema}
use Rattle.format.specs.Form.{Form}
use Rattle.format.specs.LookOver.{look_over}
use Rattle.format.specs.Order.{start_count, start_at, step_count, steps_at, order_form, starts}
use Rattle.quantify.specs.Quantify.{here}
use Rattle.jobs.specs.Planning.{schema_of, start_states}
use Rattle.output.specs.Written.{written}
use Rattle.output.proofs.Written.{front_written}
use Rattle.jobs.specs.Learn.{learnable, rules_from, rule_sheet}
use Rattle.jobs.proofs.Sheet.{length_blocks}
use Rattle.jobs.specs.Check.{order_run, start_answer, first_failing, starts_answer, before_plan, check, end_sheet, end_after, check_bytes}
use Rattle.jobs.proofs.Starts.{failing_same, failing_map, end_map}
use Rattle.execution.specs.Execution.{Executable}
use Rattle.wellformed.proofs.Headers.{moves_few}
use Rattle.observed.specs.Rules.{sheet_observed}
use Rattle.statemask.specs.Statemask.{rules_in}
use Rattle.rulesheet.proofs.Blocks.{length_sheet}
use Rattle.learner.specs.Learner.{BookObserved}
use Rattle.learner.proofs.Book.{schema_own, moves_own, sheet_by, form_good}
use Rattle.starts.specs.Starts.{executed_from, answer_from, StartsGood, answer_each, StartsOutcome}
use Rattle.starts.proofs.Starts.{only_goes}
use Rattle.checker.specs.Checker.{from_order, ReadyForOrder, OrderOutcome, CheckOutcome}
use Rattle.checker.proofs.Executed.{executable, starts_good, start_executed, start_sheet}
use Rattle.factsets.specs.Holding.{holding}

-- ---- rows 14 to 20
module _ (form : Form) (s o old : List ℕ) (h : Sections) (observed : List ℕ) (ready : ReadyForOrder form s h observed old) where
  -- rows 14 to 18
  pub at_order : (e : Refusal) → refused_by e ≡ order_form (schema h s) o → OrderOutcome form s o old old (record { answer = refused_by e; position = 0 })
  unfolding from_order then_at unpositioned kept
  at_order e ordered =
      let refused : order_form (schema_of s) o ≡ refused_by e = sym (rw (schema_own s h ready.own) at ordered) in
      record { says = rw (from_order, refused) refl; bytes = rw (from_order, refused) refl }

  module _ (n : ℕ) (ordered : Good n ≡ order_form (schema h s) o) where
    formed : (n : ℕ) × (look_over form s ≡ Good n)
    formed = form_good form s _ ready.learns

    order : order_form (schema_of s) o ≡ Good n
    order = sym (rw (schema_own s h ready.own) at ordered)

    pub order_starts : StartsGood o (start_count o) (start_at o)
    order_starts = starts_good form s formed.0 _ formed.1 ready.learns o _ order

    -- ---- the rules, written over what was observed
    pub order_few : h.moves.count ≤ max_moves
    order_few = rw (moves_own s h ready.own) (moves_few form s formed.0 formed.1)

    -- and what is lent of them
    module _ (over rules : List ℕ) (w : over ≡ written observed 0 (sheet_observed observed h.moves.count 1)) (lent : rules ≡ take (rule_size * h.moves.count) over) where
      is_sheet : rules ≡ rule_sheet form s
      is_sheet =
          let sheet : List ℕ = sheet_observed observed h.moves.count 1 in
          let size : length sheet ≡ rule_size * h.moves.count = length_sheet observed ready.room h.moves.count 1 (omega arith) (omega (arith, order_few)) in
          sheet_by form s _ h observed rules ready.own ready.learns ready.observes
          (lent ∙ ap (take (rule_size * h.moves.count)) (w ∙ front_written observed sheet) ∙ take_at sheet (drop (length sheet) observed) (rule_size * h.moves.count) size)

      pub order_executable : Executable rules o (step_count o) (steps_at o)
      unfolding rule_sheet
      order_executable =
          executable form s formed.0 _ formed.1 ready.learns o _ order rules (ap (λ (l : List ℕ). length l) is_sheet ∙ length_blocks (rules_from form s) (schema_of s).moves 1)

      ran : (new : List ℕ) (r : Positioned) → StartsOutcome (schema h s) (rules_in rules) o old new r → StartsOutcome (schema_of s) (rules_in (rule_sheet form s)) o old new r
      ran new r out = rw (schema_own s h ready.own, is_sheet) at out

    module _ (new : List ℕ) (r : Positioned) (ran : StartsOutcome (schema_of s) (rules_in (rule_sheet form s)) o old new r) where
      -- masks answer from each start as the learned model does
      each_start : answer_each (schema_of s) (rules_in (rule_sheet form s)) o ≡ starts_answer form s o
      unfolding answer_each starts_answer start_states
      each_start =
          failing_same (answer_from (schema_of s) (rules_in (rule_sheet form s)) o) (λ start. start_answer form s o (holding start)) (step_count o) 1 (starts o)
          (λ start m. sym (start_executed form s formed.0 _ formed.1 ready.learns o _ order start m))
          ∙ sym (failing_map holding (start_answer form s o) (step_count o) 1 (starts o))

      says : r ≡ from_order form s o
      unfolding from_order
      says = ran.says ∙ each_start ∙ sym (then_by _ _ _ order)

      abbrev mask : List Fact → List ℕ
      mask start = (executed_from (schema_of s) (rules_in (rule_sheet form s)) o start).mask

      -- the mask of the only start is its end sheet, where no step stops
      kept_sheet : (xs : List (List Fact)) → starts o ≡ xs → (x : Answer) → x ≡ (first_failing (answer_from (schema_of s) (rules_in (rule_sheet form s)) o) (step_count o) 1 xs).answer
          → kept x (end_after mask xs old) old ≡ kept x (end_after (λ start. end_sheet (order_run form s o (holding start))) xs old) old
      unfolding kept end_after
      kept_sheet [] e x w = refl
      kept_sheet (start ∷ other ∷ rest) e x w = refl
      kept_sheet (start ∷ []) e (Refused m p) w = refl
      kept_sheet (start ∷ []) e (Good m) w =
          start_sheet form s formed.0 _ formed.1 ready.learns o _ order start (rw e here) (only_goes (schema_of s) (rules_in (rule_sheet form s)) o start m (sym w))

      ran_out : OrderOutcome form s o old new r
      unfolding answer_each start_states
      ran_out =
          record {
            says = says;
            bytes =
                ran.bytes
                ∙ kept_sheet (starts o) refl r.answer (ap (λ (x : Positioned). x.answer) ran.says)
                ∙ rw (says, end_map holding (λ start. end_sheet (order_run form s o start)) (starts o) old);
          }

    pub at_run : (over rules : List ℕ) → over ≡ written observed 0 (sheet_observed observed h.moves.count 1) → rules ≡ take (rule_size * h.moves.count) over
        → (new : List ℕ) (r : Positioned) → StartsOutcome (schema h s) (rules_in rules) o old new r → OrderOutcome form s o old new r
    at_run over rules w lent new r out = ran_out new r (ran over rules w lent new r out)

-- ---- the whole check
module _ (form : Form) (s observed o old : List ℕ) where
  -- rows 1 to 12
  pub at_book : (e : Refusal) → BookObserved form s observed (refused_by e) → CheckOutcome form s o old old (record { answer = refused_by e; position = 0 })
  unfolding check check_bytes before_plan then_at unpositioned ◌>>=◌ kept
  at_book e noted = record { says = rw (← noted.says) refl; bytes = rw (check, ← noted.says) refl }

  module _ (n : ℕ) (noted : BookObserved form s observed (Good n)) where
    learns : learnable form s ≡ Good n
    learns = sym noted.says

    pub ready_by : length old ≡ end_sheet_size → (h : Sections) → h ≡ sections_of s → length observed ≡ observed_size → ReadyForOrder form s h observed old
    unfolding value_of
    ready_by size h own room =
        record { own = own; learns = rw learns refl; observes = noted.observes n refl; room = room; size = size }

    -- row 13
    pub at_size : (length old ≡ end_sheet_size → ⊥) → CheckOutcome form s o old old (record { answer = Refused 13 0; position = 0 })
    unfolding check check_bytes before_plan refuse ◌>>=◌ then_at unpositioned kept
    at_size h = record { says = rw (learns, ne_eqb (length old) end_sheet_size h) refl; bytes = rw (check, learns, ne_eqb (length old) end_sheet_size h) refl }

    -- rows 14 to 20
    pub at_rest : length old ≡ end_sheet_size → (new : List ℕ) (r : Positioned) → OrderOutcome form s o old new r → CheckOutcome form s o old new r
    unfolding check before_plan from_order check_bytes
    at_rest size new r out =
        let rest : check form s o (length old) ≡ from_order form s o =
        ap (λ (x : Answer). then_at x (starts_answer form s o)) (bind_good _ _ _ learns ∙ refuse_unmet _ 13 0 _ (ap not (eq-eqb (length old) end_sheet_size size))) in
        record { says = out.says ∙ sym rest; bytes = rw rest out.bytes }
