-- The move and the objects of a right step are within limits, and the bound facts of its move are of relations that the book has: what is asked before
-- these facts are looked up in a state.
use Prim.Native.Nat.{ℕ, ◌≤◌, ◌<◌}
use native.Mathlib.Decide.{dec_lt}
use native.Mathlib.Omega.{arith}
use mathlib.Core.Path.{◌≡◌, ◌∙◌}
use mathlib.Core.Bool.{false}
use mathlib.Core.List.{List}
use Rattle.truth.specs.Bools.{is_false}
use Rattle.mask.specs.Bits.{test_bit}
use Rattle.mask.specs.Sets.{mask_of}
use Rattle.mask.proofs.Bytes.{test_past}
use Rattle.mask.proofs.Whole.{length_mask_of, test_mask_of}
use Rattle.terms.specs.declared.Param.{Param}
use Rattle.terms.specs.declared.Step.{Step}
use Rattle.terms.specs.Schema.{Schema, TypedObjects}
use Rattle.terms.specs.Steps.{object_of, argument_bad, is_atom}
use Rattle.terms.proofs.Atoms.{atom_below}
use Rattle.limits.specs.Limits.{max_objects, max_relations, max_moves, max_params}
use Rattle.atoms.specs.Atoms.{atom_set, atoms_end}
use Rattle.factsets.specs.Right.{RightStep}
use Rattle.factsets.proofs.Suits.{object_most, argument_right, move_known}
use Rattle.observed.specs.Observed.{bound, observed_set}
use Rattle.observed.specs.Begun.{Begun}

-- the bound facts of a move are of relations that the book has
atoms_end_lem : (sch : Schema) (a n : ℕ) → atoms_end sch.relations ≤ n → sch.relations ≤ 16 → test_bit (atom_set sch a) n ≡ false
unfolding atom_set atoms_end
atoms_end_lem sch a n h k = go (dec_lt n 256)
  where
    go : Dec (n < 256) → test_bit (mask_of 32 (is_atom sch a)) n ≡ false
    go (yes l) = test_mask_of 32 (is_atom sch a) n l ∙ is_false _ (λ e. omega (arith, atom_below sch a n e))
    go (no l) = test_past _ n (omega (arith, length_mask_of 32 (is_atom sch a)))

module _ (sch : Schema) (ob : TypedObjects) (st : Step) (right : RightStep sch ob st) where
  pub step_move : sch.moves ≤ max_moves → (1 ≤ st.action.0) × (st.action.0 ≤ max_moves)
  step_move moves = let w = move_known sch ob st right in (w.0, omega (arith, w.1))

  -- a state has a group and a column for each of its objects
  pub step_bounded : ob.count ≤ max_objects → (p : Param) → 1 ≤ p.0 → p.0 ≤ max_params → (object_of st.binding p).0 ≤ max_objects
  unfolding argument_bad
  step_bounded few p low high = omega (arith, object_most sch ob _ (object_of st.binding p) _ (argument_right sch ob st right p.0 low high), few)

  pub step_ended : sch.relations ≤ max_relations → sch.moves ≤ max_moves → (masks : List ℕ) → Begun sch masks
      → (n : ℕ) → atoms_end sch.relations ≤ n → test_bit (observed_set masks st.action.0 bound) n ≡ false
  step_ended known moves masks begun n l =
      rw (begun.atoms _ (step_move moves).0 (step_move moves).1) (atoms_end_lem sch st.action.0 n l known)
