-- The records of a book as bytes: each is the bytes of a record of good form, which stands somewhere in the book.
use Prim.Native.Nat.{ℕ, suc, ◌+◌}
use mathlib.Core.Path.{◌≡◌, refl, subst}
use mathlib.Core.List.{List}
use Rattle.answer.specs.Answer.{Good}
use Rattle.answer.specs.Walk.{walk}
use Rattle.terms.specs.declared.Sections.{Sections}
use Rattle.format.specs.Form.{Form}
use Rattle.format.specs.Records.{length_in, record_at}
use Rattle.format.specs.Parts.{record_part, records_at}
use Rattle.format.proofs.Records.{record_within}
use Rattle.quantify.specs.Quantify.{Mem, here, there}
use Rattle.answer.proofs.Walks.{walk_parted}

module _ (form : Form) (h : Sections) (s : List ℕ) where
  abbrev pub RecordOf : List ℕ → Type 0
  RecordOf r = (at next : ℕ) × (record_at form h s at ≡ Good next) × (record_part s at ≡ r)

  pub each_record : (n at last : ℕ) → walk (record_at form h s) n at ≡ Good last → {r : List ℕ} → Mem r (records_at s n at) → RecordOf r
  unfolding records_at
  each_record Prim.Native.Nat.zero at last e {r = r} x'' = elim x'' [ ]
  each_record (suc n) at last e here = let (next, good, rest) = walk_parted (record_at form h s) n at last e in (at, next, good, refl)
  each_record (suc n) at last e (there m) =
      let (next, good, rest) = walk_parted (record_at form h s) n at last e in
      each_record n (at + length_in s at) last (subst (λ (x : ℕ). walk (record_at form h s) n x ≡ Good last) (record_within form h s at next good).0 rest) m
