-- Demand 2, proved: the bits of the sheet are those of the learned model, which bounds every fitting one.
use Prim.Native.Nat.{ℕ, zero, suc, ◌*◌, ◌≤◌, ◌<◌}
use mathlib.Core.Path.{◌≡◌, refl, sym, ◌∙◌}
use mathlib.Core.Logic.{◌↔◌}
use mathlib.Core.Bool.{Bool, true, false, not, not-eq-not}
use mathlib.Core.List.{List}
use native.Mathlib.Omega.{arith}
use lib.ListN.{length}
use borrow.Author.Tests.{eq-eqb}
use Rattle.answer.specs.Answer.{kept, Good}
use Rattle.limits.specs.Limits.{rule_size}
use Rattle.truth.specs.Bools.{clash, not_self, is_false}
use Rattle.answer.proofs.Laws.{bind_good, refuse_unmet}
use Rattle.terms.specs.Steps.{is_atom}
use Rattle.format.specs.Form.{Form}
use Rattle.format.specs.Decode.{RecordedStep}
use Rattle.format.specs.LookOver.{look_over}
use Rattle.quantify.specs.Quantify.{Mem}
use Rattle.model.specs.Learned.{learned_rules, model_of, learned}
use Rattle.model.proofs.Seen.{before_in, before_out, turned_in, turned_out, need_in, need_out, effect_in, effect_out}
use Rattle.model.proofs.Bounds.{precondition_iff_some, effect_iff_every}
use Rattle.jobs.specs.Planning.{domain, schema_of, steps_of_book, transitions_of, failed_of}
use Rattle.jobs.specs.Learn.{learnable, rules_from, learned_from, rule_sheet, learn, learn_bytes}
use Rattle.jobs.specs.SheetBits.{needed_set, needed_not_set, added_set, removed_set, sheet_bit, rules_on}
use Rattle.jobs.proofs.Sheet.{length_blocks, learned_bits}
use Rattle.wellformed.proofs.Formed.{formed}
use Rattle.demand.specs.Demand2.{value_in, NeedBit, EffectBit, Bits, Demand2}
use Rattle.wellformed.proofs.Learnable.{unfit_in, learned_fit}
use Rattle.demand.proofs.Demand3.{demand3}
use Rattle.demand.proofs.Recorded.{sight_of_recorded, recorded_of_sight}

module _ (form : Form) (s : List ℕ) (b : Bool) (a n : ℕ) where
  -- ---- what is learned, told of the steps as they are recorded
  need_recorded : (learned_from form s).precondition b a n ≡ true
      ↔ ((is_atom (schema_of s) a n ≡ true) × ((f : RecordedStep) → Mem f (steps_of_book form s) → f.went ≡ true → f.step.action.0 ≡ a → value_in s f f.pre n ≡ b))
  unfolding learned_from domain
  need_recorded = (
    λ e.
        let (atom, never) = need_out (domain (schema_of s)) (transitions_of form s) b a n e in (
          atom,
          λ f m went q.
              (not-eq-not {a = value_in s f f.pre n} {b = b}).0
              (λ w.
              clash _
              (before_in (transitions_of form s) a n (not b) _
              (sight_of_recorded form s a n (not b) _ (record { recorded_steps = f; member = m; went = went; action = q; was = w; got = refl })))
              never),
        ),
    λ (atom, always).
        need_in (domain (schema_of s)) (transitions_of form s) b a n atom
        (is_false _
        (λ e.
        let (y, sight) = before_out (transitions_of form s) a n (not b) e in
        let h = recorded_of_sight form s a n (not b) y sight in
        not_self b (sym (always h.recorded_steps h.member h.went h.action) ∙ h.was))),
  )

  effect_recorded : (learned_from form s).effect b a n ≡ true
      ↔ ((is_atom (schema_of s) a n ≡ true)
      × ((f : RecordedStep) × Mem f (steps_of_book form s) × (f.went ≡ true) × (f.step.action.0 ≡ a) × (value_in s f f.pre n ≡ not b) × (value_in s f f.post n ≡ b)))
  unfolding learned_from domain
  effect_recorded = (
    λ e.
        let (atom, turns) = effect_out (domain (schema_of s)) (transitions_of form s) b a n e in
        let h = recorded_of_sight form s a n (not b) b (turned_out (transitions_of form s) a n b turns) in
        (atom, (h.recorded_steps, h.member, h.went, h.action, h.was, h.got)),
    λ (atom, (f, m, went, q, w, g)).
        effect_in (domain (schema_of s)) (transitions_of form s) b a n atom
        (turned_in (transitions_of form s) a n b (sight_of_recorded form s a n (not b) b (record { recorded_steps = f; member = m; went = went; action = q; was = w; got = g }))),
  )

-- ---- the bits
module _ (form : Form) (s : List ℕ) (a n : ℕ) where
  need_none : (b : Bool) → is_atom (schema_of s) a n ≡ false → (learned_from form s).precondition b a n ≡ false
  unfolding learned_from learned model_of learned_rules domain
  need_none true e = rw e
  need_none false e = rw e

  effect_none : (b : Bool) → is_atom (schema_of s) a n ≡ false → (learned_from form s).effect b a n ≡ false
  unfolding learned_from learned model_of learned_rules domain
  effect_none true e = rw e
  effect_none false e = rw e

-- the bits are the learned model's
module _ (form : Form) (s : List ℕ) (a n : ℕ) (low : 1 ≤ a) (high : a ≤ (schema_of s).moves) (small : n < 256) where
  needed_bit : sheet_bit (rule_sheet form s) needed_set a n ≡ (learned_from form s).precondition true a n
  unfolding rules_on rules_from learned_from learned model_of
  needed_bit = (learned_bits form s a n low high small).needed

  needed_not_bit : sheet_bit (rule_sheet form s) needed_not_set a n ≡ (learned_from form s).precondition false a n
  unfolding rules_on rules_from learned_from learned model_of
  needed_not_bit = (learned_bits form s a n low high small).needed_not

  added_bit : sheet_bit (rule_sheet form s) added_set a n ≡ (learned_from form s).effect true a n
  unfolding rules_on rules_from learned_from learned model_of
  added_bit = (learned_bits form s a n low high small).added

  removed_bit : sheet_bit (rule_sheet form s) removed_set a n ≡ (learned_from form s).effect false a n
  unfolding rules_on rules_from learned_from learned model_of
  removed_bit = (learned_bits form s a n low high small).removed

  none : is_atom (schema_of s) a n ≡ false → (set : ℕ) → set < 4 → sheet_bit (rule_sheet form s) set a n ≡ false
  none e zero l = needed_bit ∙ need_none form s a n true e
  none e (suc zero) l = needed_not_bit ∙ need_none form s a n false e
  none e (suc (suc zero)) l = added_bit ∙ effect_none form s a n true e
  none e (suc (suc (suc zero))) l = removed_bit ∙ effect_none form s a n false e
  none e (suc (suc (suc (suc k)))) l = absurd (omega arith)

  module _ (m : ℕ) (good : look_over form s ≡ Good m) (fit : unfit_in form s ≡ false) (set : ℕ) (b : Bool) where
    need : sheet_bit (rule_sheet form s) set a n ≡ (learned_from form s).precondition b a n → NeedBit form s set b a n
    unfolding learned_from
    need bit =
        record {
          by_some = rw bit (precondition_iff_some (domain (schema_of s)) (transitions_of form s) (failed_of form s) (formed form s m good) fit b a n);
          by_record = rw bit (need_recorded form s b a n);
        }

    effect : sheet_bit (rule_sheet form s) set a n ≡ (learned_from form s).effect b a n → EffectBit form s set b a n
    unfolding learned_from
    effect bit =
        record {
          by_every = rw bit (effect_iff_every (domain (schema_of s)) (transitions_of form s) (failed_of form s) (formed form s m good) fit b a n);
          by_record = rw bit (effect_recorded form s b a n);
        }

  bits : (m : ℕ) → look_over form s ≡ Good m → unfit_in form s ≡ false → Bits form s a n
  bits m good fit =
      record {
        needed = need m good fit _ true needed_bit;
        needed_not = need m good fit _ false needed_not_bit;
        added = effect m good fit _ true added_bit;
        removed = effect m good fit _ false removed_bit;
        of_none = none;
      }

-- ---- the whole
module _ (form : Form) (s : List ℕ) (n : ℕ) (good : look_over form s ≡ Good n) (total : ℕ) (accepted : learnable form s ≡ Good total) where
  written : (lent : List ℕ) → length lent ≡ rule_size * (schema_of s).moves → learn_bytes form s lent ≡ rule_sheet form s
  unfolding learn_bytes kept learn
  written lent long =
      let e : learn form s (length lent) ≡ Good total =
      bind_good (learnable form s) _ total accepted ∙ refuse_unmet _ 13 0 _ (rw (eq-eqb (length lent) (rule_size * (schema_of s).moves) long))
      in
      rw e

  long : length (rule_sheet form s) ≡ rule_size * (schema_of s).moves
  unfolding rule_sheet
  long = length_blocks (rules_from form s) (schema_of s).moves 1

-- Demand 2.
pub demand2 : Demand2
demand2 form s n good =
    record {
      refused = (demand3 form s n good).learning;
      learned = λ total accepted.
          record {
            long = long form s n good total accepted;
            written = written form s n good total accepted;
            bits = λ a k low high small. bits form s a k low high small n good (learned_fit form s n good total accepted);
          };
    }
