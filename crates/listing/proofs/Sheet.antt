-- The sheet that was learned, read back: its bits are the learned rules', so its lines are.
use Prim.Native.Nat.{ℕ, ◌*◌, ◌≤◌, ◌<◌}
use mathlib.Core.Path.{◌≡◌, refl, sym, ap, ◌∙◌}
use mathlib.Core.Bool.{Bool, true, false}
use mathlib.Core.List.{List, ◌++◌, append-nil}
use Rattle.format.specs.Form.{full}
use Rattle.terms.specs.declared.Sections.{Sections}
use Rattle.terms.specs.Schema.{Schema, schema}
use Rattle.terms.specs.Steps.{is_atom}
use Rattle.mask.specs.Bits.{test_bit}
use Rattle.mask.proofs.Whole.{test_mask_of}
use Rattle.atoms.specs.Atoms.{atom_set}
use Rattle.jobs.specs.Planning.{schema_of}
use Rattle.jobs.specs.Learn.{rules_from, rule_sheet}
use Rattle.jobs.specs.SheetBits.{rules_on}
use Rattle.jobs.specs.Listing.{atom_line, line_if_atom, atom_lines, move_lines}
use Rattle.jobs.proofs.Sheet.{learned_bits}
use Rattle.listing.proofs.Text.{Each}
use Rattle.listing.specs.SheetOf.{SheetOf}

line_learned : (s : List ℕ) (sch : Schema) (a n : ℕ) → 1 ≤ a → a ≤ (schema_of s).moves → n < 256 → atom_line sch (rules_on (rule_sheet full s)) a n ≡ atom_line sch (rules_from full s) a n
unfolding atom_line rules_on
line_learned s sch a n h l k =
    let same = learned_bits full s a n h l k in
    rw (same.needed, same.needed_not, same.added, same.removed)

module _ (s : List ℕ) (h : Sections) (sheet : List ℕ) (l : SheetOf s h sheet) where
  -- the line from the sheet is that of the learned rules
  line_shown : (a n : ℕ) → 1 ≤ a → a ≤ h.moves.count → n < 256 → atom_line (schema h s) (rules_on sheet) a n ≡ atom_line (schema_of s) (rules_from full s) a n
  unfolding schema_of schema
  line_shown a n p q k = rw (l.own, l.bytes) (line_learned s (schema_of s) a n p (rw l.own at q) k)

  -- what the set of the move's bound facts says of a number
  pub told : (a n : ℕ) (atoms : List ℕ) (b : Bool) → n < 256 → atoms ≡ atom_set (schema h s) a → b ≡ test_bit atoms n → b ≡ is_atom (schema h s) a n
  unfolding atom_set
  told a n atoms b k e f = f ∙ ap (λ (m : List ℕ). test_bit m n) e ∙ test_mask_of 32 (is_atom (schema h s) a) n k

  -- a number's line is there or not, by what the test says
  module _ (text : List ℕ) (a n : ℕ) (b : Bool) (e : b ≡ is_atom (schema h s) a n) where
    pub there_by : (next : List ℕ) → 1 ≤ a → a ≤ h.moves.count → n < 256 → b ≡ true
        → next ≡ text ++ atom_line (schema h s) (rules_on sheet) a n
        → next ≡ text ++ line_if_atom (schema_of s) (rules_from full s) a n
    unfolding line_if_atom schema_of
    there_by next p q k y i = rw (line_if_atom, ← l.own, ← e, y) (i ∙ ap (λ (t : List ℕ). text ++ t) (line_shown a n p q k))

    pub absent_by : b ≡ false → text ≡ text ++ line_if_atom (schema_of s) (rules_from full s) a n
    unfolding line_if_atom schema_of
    absent_by y = rw (line_if_atom, ← l.own, ← e, y) (sym (append-nil text))

  -- the lines of the moves, by the count of relations that was read
  pub moves_each : Each (λ a. atom_lines (schema_of s) (rules_from full s) a (16 * h.relations.count) 0) (move_lines (schema_of s) (rules_from full s))
  unfolding move_lines schema_of schema
  moves_each = record { none = λ n. refl; more = λ left n. rw l.own }
