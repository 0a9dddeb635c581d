-- Row 28 of one step, by the state before it as a mask, is that by the facts that hold before it; and what the functions that it calls ask.
use Prim.Native.Nat.{ℕ, ◌≤◌}
use mathlib.Core.Path.{◌≡◌, refl, ap, ◌∙◌}
use mathlib.Core.Bool.{true, false, not}
use mathlib.Core.List.{List, []}
use Rattle.limits.specs.Limits.{max_relations, max_moves, max_params, max_objects, state_size}
use Rattle.mask.specs.Bits.{test_bit}
use Rattle.mask.specs.Sets.{empty, mask_of}
use Rattle.mask.proofs.Whole.{empty_mask_of}
use Rattle.terms.specs.declared.Param.{Param}
use Rattle.terms.specs.declared.Step.{Step}
use Rattle.terms.specs.declared.Fact.{Fact}
use Rattle.terms.specs.declared.Sections.{Sections}
use Rattle.terms.specs.Schema.{Schema, schema}
use Rattle.terms.specs.Facts.{no_fact}
use Rattle.terms.specs.Steps.{object_of}
use Rattle.format.specs.Filed.{filed_step_at}
use Rattle.format.specs.Lists.{list_at}
use Rattle.format.specs.Form.{Form}
use Rattle.format.specs.Decode.{recorded_step}
use Rattle.atoms.specs.Atoms.{atoms_end}
use Rattle.quantify.specs.Quantify.{any}
use Rattle.factsets.specs.Holding.{holding}
use Rattle.factsets.specs.Right.{RightState}
use Rattle.factsets.proofs.Sorted.{mem_none}
use Rattle.factsets.proofs.Toggled.{toggled_none}
use Rattle.grounding.specs.Grounding.{held_atoms}
use Rattle.turning.specs.Turning.{flipped, Carried}
use Rattle.turning.proofs.Carrying.{flipped_holding}
use Rattle.observed.specs.Observed.{bound, observed_set}
use Rattle.observed.specs.Rules.{in_use, unmet_set, met_before}
use Rattle.onewalk.proofs.Turned.{held_found}
use Rattle.onewalk.proofs.Bound.{step_move, step_bounded, step_ended}
use Rattle.failedsteps.specs.Met.{met_in, mask_before}
use Rattle.failedsteps.specs.Asked.{BookAsked, StepAsked, ListAsked}

module _ (h : Sections) (s masks : List ℕ) (book : BookAsked h s masks) where
  pub book_known : (schema h s).relations ≤ max_relations
  unfolding schema
  book_known = book.known

  pub book_moves : (schema h s).moves ≤ max_moves
  unfolding schema
  book_moves = book.moves

-- ---- a step

module _ (h : Sections) (s : List ℕ) (at : ℕ) (masks : List ℕ) (ask : StepAsked h s at masks) where
  abbrev sch : Schema
  sch = schema h s

  abbrev st : Step
  st = filed_step_at s at

  pub asked_move : (1 ≤ st.action.0) × (st.action.0 ≤ max_moves)
  asked_move = step_move sch ask.ob st ask.right (book_moves h s masks ask.book)

  pub asked_bounded : (p : Param) → 1 ≤ p.0 → p.0 ≤ max_params → (object_of st.binding p).0 ≤ max_objects
  asked_bounded = step_bounded sch ask.ob st ask.right ask.few

  pub asked_ended : (n : ℕ) → atoms_end h.relations.count ≤ n → test_bit (observed_set masks st.action.0 bound) n ≡ false
  unfolding schema
  asked_ended = step_ended sch ask.ob st ask.right (book_known h s masks ask.book) (book_moves h s masks ask.book) masks ask.book.begun

  -- In the mask of the facts before the step the preconditions are met exactly if they are met by these facts.
  pub met_facts : (form : Form) (before : List Fact) (m : List ℕ) → RightState sch ask.ob before → m ≡ mask_of state_size (holding before)
      → met_in sch masks st m ≡ met_before masks (recorded_step form s before at)
  unfolding met_in met_before recorded_step held_atoms
  met_facts form before m right e =
      let move = asked_move in
      rw (e, ask.book.begun.atoms _ move.0 move.1)
      (ap (λ (held : List ℕ). not (in_use (unmet_set masks st.action.0 held)))
      (held_found sch (book_known h s masks ask.book) ask.ob ask.few st ask.right before right.suits))

-- ---- the state before it

-- the facts of a list, turned in the empty mask
module _ (h : Sections) (s : List ℕ) (pre : ℕ) (ask : ListAsked h s pre) (known : (schema h s).relations ≤ max_relations) where
  listed_mask : flipped (list_at s pre) (empty state_size) ≡ mask_of state_size (holding (list_at s pre))
  unfolding holding any
  listed_mask =
      ap (flipped (list_at s pre)) (empty_mask_of state_size)
      ∙ flipped_holding (schema h s) ask.ob ask.few known [] (list_at s pre) (λ f m. absurd (mem_none m)) tt ask.right.suits ask.right.increasing
      ∙ ap (λ (fs : List Fact). mask_of state_size (holding fs)) (toggled_none no_fact (list_at s pre) ask.right.increasing)

  pub listed_before : (old new : List ℕ) (count : ℕ) → old ≡ empty state_size → Carried true s pre old new count → new ≡ mask_of state_size (holding (list_at s pre))
  listed_before old new count e carried = (carried.turned refl).0 ∙ ap (flipped (list_at s pre)) e ∙ listed_mask

pub mask_short : (form : Form) (s : List ℕ) (pre : ℕ) (m : List ℕ) → form ≡ true → mask_before form s pre m ≡ m
unfolding mask_before
mask_short form s pre m e = rw e

pub mask_full : (form : Form) (s : List ℕ) (pre : ℕ) (m : List ℕ) → form ≡ false → mask_before form s pre m ≡ mask_of state_size (holding (list_at s pre))
unfolding mask_before
mask_full form s pre m e = rw e
