-- What a book that was looked over as good has: rows 1 to 5 are not met, its records end it, and the answer is the sum of their steps.
use Prim.Native.Nat.{ℕ, ◌≤◌}
use mathlib.Core.Path.{◌≡◌, ◌∙◌}
use mathlib.Core.List.{List}
use lib.ListN.{length}
use native.Mathlib.Omega.{arith}
use borrow.Author.Tests.{ltb-false, le-ltb}
use Rattle.answer.specs.Answer.{Good}
use Rattle.answer.proofs.Laws.{passed, parted, refuse_unmet, bind_good}
use Rattle.answer.specs.Walk.{walk}
use Rattle.answer.proofs.Turns.{walk_within}
use Rattle.terms.specs.Sections.{sections_of}
use Rattle.format.specs.Form.{Form}
use Rattle.format.specs.Header.{sections}
use Rattle.format.specs.Records.{record_at}
use Rattle.format.specs.LookOver.{step_total, all_records, look_over_by, look_over}
use Rattle.format.proofs.Header.{SectionsGood, sections_good}
use Rattle.format.proofs.Records.{record_within}

pub record LookedOver (form : Form) (s : List ℕ) (n : ℕ) : Type 0 where
  pub sections : SectionsGood (sections_of s) s (sections_of s).records.at
  pub records : walk (record_at form (sections_of s) s) (sections_of s).records.count (sections_of s).records.at ≡ Good (length s)
  pub total : n ≡ step_total s (sections_of s).records.count (sections_of s).records.at

pub look_over_good : (form : Form) (s : List ℕ) (n : ℕ) → look_over form s ≡ Good n → LookedOver form s n
unfolding look_over look_over_by all_records
look_over_good form s n e =
    let h = sections_of s in
    let p = parted _ _ _ e in
    let g = sections_good h s p.0 p.1 in
    let q = parted _ _ _ p.2 in
    let r = passed _ _ _ _ _ q.2 in
    let last = q.0 in
    let m : length s ≤ last = ltb-false _ _ r.0 in
    let l : last ≤ length s = walk_within _ (length s) (λ at next f. (record_within form h s at next f).1) _ _ last g.offsets.within q.1 in
    let w : last ≡ length s = omega arith in
    let t = r.1 in
    record { sections = rw g.start at g; records = rw w at q.1; total = cc }

-- and the other way round
pub look_over_in : (form : Form) (s : List ℕ) (m : ℕ) → sections (sections_of s) s ≡ Good m
    → walk (record_at form (sections_of s) s) (sections_of s).records.count (sections_of s).records.at ≡ Good (length s)
    → look_over form s ≡ Good (step_total s (sections_of s).records.count (sections_of s).records.at)
unfolding look_over look_over_by all_records
look_over_in form s m e f = bind_good _ _ _ e ∙ bind_good _ _ _ f ∙ refuse_unmet _ _ _ _ (le-ltb (length s) (length s) (omega arith))
