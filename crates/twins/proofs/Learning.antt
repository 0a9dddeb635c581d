-- Learning from two books with the same transitions: one sheet, and answers that are the same but for the places of 11 and 28.
use Prim.Native.Nat.{ℕ, ◌*◌}
use mathlib.Core.Path.{◌≡◌, refl, sym, ap, ap₂, ◌∙◌}
use mathlib.Core.Bool.{Bool, not}
use mathlib.Core.List.{List}
use lib.Dec.{eqb}
use lib.ListN.{length}
use Rattle.answer.specs.Answer.{Good, ◌>>=◌, refuse}
use Rattle.answer.specs.Table.{among, impossible_rows, is_impossible, book_offset_rows, is_book_offset}
use Rattle.limits.specs.Limits.{rule_size}
use Rattle.format.specs.Form.{Form}
use Rattle.quantify.specs.Quantify.{least}
use Rattle.model.specs.Learned.{Rules, unbound_effect}
use Rattle.model.specs.Check.{refuted}
use Rattle.jobs.specs.Planning.{domain, transition, failed, went_steps, failed_steps, schema_of, steps_of_book, transitions_of, failed_of}
use Rattle.jobs.specs.Learn.{unbound_effects, conflict_answer, conflicting_move, inconsistency, learned_from, refuted_steps, refutation, learnable, rule_blocks, rule_sheet, learn, learn_bytes}
use Rattle.quantify.proofs.Mapped.{any_map}
use Rattle.twins.specs.Twins.{SameTransitions}
use Rattle.twins.proofs.Answers.{Twin, equal, twin_bind, first_twin, twin_kept}
use Rattle.twins.proofs.Books.{unbound_same, refuted_same, conflicts_same, rules_same}

module _ (f g : Form) (s t : List ℕ) (n : ℕ) (same : SameTransitions f g s t n) where
  -- ---- rows 11, 12 and 28

  unbound_twin : Twin (unbound_effects (schema_of s) (steps_of_book f s)) (unbound_effects (schema_of t) (steps_of_book g t))
  unfolding transitions_of unbound_effects among impossible_rows is_impossible book_offset_rows is_book_offset
  unbound_twin =
      first_twin _ _ 11 _ _ (went_steps (steps_of_book f s)) (went_steps (steps_of_book g t)) refl
      (sym (any_map (unbound_effect (domain (schema_of s))) (transition (schema_of s)) (went_steps (steps_of_book f s)))
      ∙ unbound_same f g s t n same
      ∙ any_map (unbound_effect (domain (schema_of t))) (transition (schema_of t)) (went_steps (steps_of_book g t)))

  conflict_same : conflicting_move (schema_of s) (transitions_of f s) ≡ conflicting_move (schema_of t) (transitions_of g t)
  unfolding conflicting_move
  conflict_same = ap₂ (λ (m : ℕ) (p : ℕ → Bool). conflict_answer (least m p)) same.comparable.schema.moves (conflicts_same f g s t n same)

  inconsistency_twin : Twin (inconsistency f s) (inconsistency g t)
  unfolding inconsistency
  inconsistency_twin = twin_bind _ _ _ _ unbound_twin (λ x. equal conflict_same)

  refutation_twin : Twin (refutation f s) (refutation g t)
  unfolding failed_of refutation refuted_steps among impossible_rows is_impossible book_offset_rows is_book_offset
  refutation_twin =
      first_twin _ _ 28 _ _ (failed_steps (steps_of_book f s)) (failed_steps (steps_of_book g t)) refl
      (sym (any_map (refuted (domain (schema_of s)) (learned_from f s)) (failed (schema_of s)) (failed_steps (steps_of_book f s)))
      ∙ refuted_same f g s t n same
      ∙ any_map (refuted (domain (schema_of t)) (learned_from g t)) (failed (schema_of t)) (failed_steps (steps_of_book g t)))

  -- ---- learning

  -- Both books learn, or are refused together.
  pub learnable_twin : Twin (learnable f s) (learnable g t)
  unfolding learnable
  learnable_twin =
      twin_bind _ _ _ _ (equal (same.comparable.good ∙ sym same.comparable.good'))
      (λ total. twin_bind _ _ _ _ inconsistency_twin (λ x. twin_bind _ _ _ _ refutation_twin (λ y. equal refl)))

  -- So it is with learning into a sheet of any size.
  pub learn_twin : (size : ℕ) → Twin (learn f s size) (learn g t size)
  unfolding learn
  learn_twin size =
      twin_bind _ _ _ _ learnable_twin
      (λ total. equal (ap (λ (m : ℕ). refuse (not (eqb size (rule_size * m))) 13 0 >>= λ _. Good total) same.comparable.schema.moves))

  -- ---- the sheet

  -- The sheet is the same,
  pub sheet_same : rule_sheet f s ≡ rule_sheet g t
  unfolding rule_sheet
  sheet_same = ap₂ (λ (R : Rules) (m : ℕ). rule_blocks R m 1) (rules_same f g s t n same) same.comparable.schema.moves

  -- and so is what the lent sheet holds afterwards.
  pub learn_bytes_same : (lent : List ℕ) → learn_bytes f s lent ≡ learn_bytes g t lent
  unfolding learn_bytes
  learn_bytes_same lent = twin_kept _ _ _ _ lent (learn_twin (length lent)) sheet_same
