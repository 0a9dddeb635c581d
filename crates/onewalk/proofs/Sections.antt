-- What is held before any record comes from the bytes of the sections alone, and so does the count of moves.
use Prim.Native.Nat.{ℕ, ◌+◌, ◌/◌, ◌%◌}
use mathlib.Core.Path.{◌≡◌, sym, ap, ◌∙◌}
use mathlib.Core.Bool.{Bool, false, ◌&&◌, ◌||◌}
use mathlib.Core.List.{List}
use lib.Dec.{eqb}
use Rattle.answer.specs.Answer.{Good}
use Rattle.limits.specs.Limits.{observed_size, observed_sets, max_atoms}
use Rattle.mask.proofs.Whole.{mask_of_same}
use Rattle.terms.specs.declared.Sections.{Sections}
use Rattle.terms.specs.Sections.{sections_of}
use Rattle.terms.specs.Schema.{Schema, schema}
use Rattle.terms.specs.Steps.{is_atom}
use Rattle.terms.proofs.Agree.{atoms_same}
use Rattle.format.specs.Header.{sections}
use Rattle.format.specs.Parts.{sections_part}
use Rattle.format.proofs.Header.{sections_good}
use Rattle.format.proofs.Typing.{schema_right}
use Rattle.format.proofs.Parts.{header_alone, schema_alone, right_alone}
use Rattle.jobs.specs.Planning.{schema_of}
use Rattle.observed.specs.Observed.{always_before, always_after, bound, at_first, nothing_seen}

-- of a schema it uses only which numbers are bound facts
nothing_same : (S T : Schema) → ((a n : ℕ) → is_atom S a n ≡ is_atom T a n) → nothing_seen S ≡ nothing_seen T
unfolding nothing_seen at_first
nothing_same S T same =
    let start : Schema → ℕ → Bool = λ sch i. at_first sch (i / max_atoms / observed_sets + 1) (i / max_atoms % observed_sets) (i % max_atoms) in
    ap (λ (m : List ℕ). record { masks = m; named = 0; failed = false })
    (mask_of_same observed_size (start S) (start T)
    (λ i l.
    ap (λ (b : Bool). b && (eqb (i / max_atoms % observed_sets) always_before || eqb (i / max_atoms % observed_sets) always_after || eqb (i / max_atoms % observed_sets) bound))
    (same (i / max_atoms / observed_sets + 1) (i % max_atoms))))

-- a book whose rows 1 to 5 pass
module _ (s : List ℕ) (n : ℕ) (good : sections (sections_of s) s ≡ Good n) where
  schema_own : schema_of (sections_part s) ≡ schema (sections_of s) (sections_part s)
  unfolding schema_of
  schema_own = ap (λ (h : Sections). schema h (sections_part s)) (header_alone s n (sections_good (sections_of s) s n good))

  pub moves_alone : (schema_of (sections_part s)).moves ≡ (schema_of s).moves
  unfolding schema_of schema
  moves_alone = ap (λ (h : Sections). h.moves.count) (header_alone s n (sections_good (sections_of s) s n good))

  pub nothing_alone : nothing_seen (schema_of (sections_part s)) ≡ nothing_seen (schema_of s)
  unfolding schema_of
  nothing_alone =
      let g = sections_good (sections_of s) s n good in
      ap nothing_seen schema_own
      ∙ sym (nothing_same (schema (sections_of s) s) (schema (sections_of s) (sections_part s)) (atoms_same _ _ (schema_alone s n g) (schema_right (sections_of s) s n g) (right_alone s n g)))
