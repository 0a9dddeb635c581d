-- The lines of numbers one after another, and a loop that puts each after what is there.
use Prim.Native.Nat.{ℕ, suc, ◌-◌}
use native.Mathlib.Nat.{sub-zero}
use mathlib.Core.Path.{◌≡◌, refl, sym, ap, ◌∙◌}
use mathlib.Core.List.{List, [], ◌++◌, append-nil, append_assoc}
use Rattle.terms.specs.Schema.{Schema}
use Rattle.model.specs.Learned.{Rules}
use Rattle.jobs.specs.Listing.{line_if_atom, atom_lines}

-- the lines of so many numbers from one on: the text of each, one after another
pub record Each (item : ℕ → List ℕ) (lines : ℕ → ℕ → List ℕ) : Type 0 where
  pub none : (n : ℕ) → lines 0 n ≡ []
  pub more : (left n : ℕ) → lines (suc left) n ≡ item n ++ lines left (suc n)

pub atoms_each : (sch : Schema) (R : Rules) (a : ℕ) → Each (line_if_atom sch R a) (atom_lines sch R a)
unfolding atom_lines
atoms_each sch R a = record { none = λ n. refl; more = λ left n. refl }

-- what is written and what is left are the whole
unfoldable pub Split : List ℕ → List ℕ → List ℕ → Type 0
Split text rest whole = text ++ rest ≡ whole

-- a loop that puts the text of each number after what is there: its first turn, any turn, and its end
module _ (item : ℕ → List ℕ) (lines : ℕ → ℕ → List ℕ) (each : Each item lines) where
  pub first : (text : List ℕ) (left n : ℕ) → Split text (lines (left - 0) n) (text ++ lines left n)
  unfolding Split
  first text left n = rw (sub-zero left)

  pub turn : (text next whole : List ℕ) (left rest n m : ℕ)
      → Split text (lines left n) whole
      → next ≡ text ++ item n
      → left ≡ suc rest
      → m ≡ suc n
      → Split next (lines rest m) whole
  unfolding Split
  turn text next whole left rest n m i e p q =
      rw (e, q) (append_assoc text (item n) (lines rest (suc n)) ∙ ap (λ (l : List ℕ). text ++ l) (sym (each.more rest n)) ∙ rw p at i)

  pub last : (text whole : List ℕ) (left n : ℕ) → Split text (lines left n) whole → left ≡ 0 → text ≡ whole
  unfolding Split
  last text whole left n i p = sym (append-nil text) ∙ ap (λ (l : List ℕ). text ++ l) (sym (each.none n)) ∙ rw p at i
