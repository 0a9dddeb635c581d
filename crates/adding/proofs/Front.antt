-- Rows 1 to 5 of the new book, 21 among them, where the old one is of good form: only the record count can be refused.
use Prim.Native.Nat.{ℕ, ◌+◌, ◌*◌, ◌≤◌}
use mathlib.Core.Path.{◌≡◌, refl}
use mathlib.Core.List.{List}
use native.Mathlib.Omega.{arith}
use lib.Dec.{ltb}
use lib.ListN.{length}
use Rattle.answer.specs.Answer.{Good, ◌>>=◌, refuse}
use Rattle.terms.specs.Sections.{sections_of}
use Rattle.limits.specs.Limits.{max_length, max_records, move_size}
use Rattle.format.specs.Form.{Form}
use Rattle.format.specs.Header.{sections}
use Rattle.jobs.specs.Add.{added}
use Rattle.format.proofs.Front.{sections_row as rows}
use Rattle.format.proofs.LookOver.{LookedOver}
use Rattle.adding.specs.NewHeader.{one_more}
use Rattle.adding.proofs.Formed.{length_added}
use Rattle.adding.proofs.Kept.{long, between}

-- for an old book of good form
module _ (form : Form) (s r : List ℕ) (n : ℕ) (was : LookedOver form s n) (most : length s + length r ≤ max_length) where
  pub sections_row : sections (one_more (sections_of s) (length s + length r)) (added s r)
      ≡ (refuse (ltb max_records ((sections_of s).records.count + 1)) 2 0 >>= λ _. Good ((sections_of s).moves.at + move_size * (sections_of s).moves.count))
  unfolding one_more
  sections_row =
      let l = length_added s r (long form s r n was most) in
      let w = was.sections.offsets.within in
      rows (sections_of s) s _ was.sections (record { count = (sections_of s).records.count + 1; at = (sections_of s).records.at }) (length s + length r) (added s r)
      (between form s r n was most) refl (omega arith) (omega arith) (omega arith)
