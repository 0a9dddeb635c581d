-- What the functions of the checker say: rows 14 to 20 and the whole check with the lent end sheet.
use Rattle.std.specs.Prelude.{ℕ, ◌≡◌, List, length}
use Rattle.answer.specs.Answer.{Good, Positioned, value_of, then_at, kept}
use Rattle.limits.specs.Limits.{end_sheet_size, observed_size}
use Rattle.terms.specs.declared.Sections.{Sections}
use Rattle.terms.specs.Sections.{sections_of}
use Rattle.format.specs.Form.{Form}
use Rattle.format.specs.Order.{order_form}
use Rattle.jobs.specs.Planning.{schema_of, start_states}
use Rattle.jobs.specs.Learn.{learnable}
use Rattle.jobs.specs.Check.{order_run, starts_answer, check, end_sheet, end_after, check_bytes}
use Rattle.observed.specs.Observed.{observed_of}

-- rows 14 to 20
unfoldable pub from_order : Form → List ℕ → List ℕ → Positioned
from_order form s o = then_at (order_form (schema_of s) o) (starts_answer form s o)

-- rows 1 to 13 are not met: the header that was read, what is observed, and the lent end sheet
pub record ReadyForOrder (form : Form) (s : List ℕ) (h : Sections) (observed end : List ℕ) : Type 0 where
  pub own : h ≡ sections_of s
  pub learns : learnable form s ≡ Good (value_of (learnable form s))
  pub observes : observed ≡ (observed_of form s).masks
  pub room : length observed ≡ observed_size
  pub size : length end ≡ end_sheet_size

-- rows 14 to 20 with a lent end sheet: the answer with its position, and every byte of the sheet afterwards
pub record OrderOutcome (form : Form) (s o old new : List ℕ) (r : Positioned) : Type 0 where
  pub says : r ≡ from_order form s o
  pub bytes : new ≡ kept (from_order form s o).answer (end_after (λ start. end_sheet (order_run form s o start)) (start_states o) old) old

-- a check with a lent end sheet: the answer with its position, and every byte of the sheet afterwards
pub record CheckOutcome (form : Form) (s o old new : List ℕ) (r : Positioned) : Type 0 where
  pub says : r ≡ check form s o (length old)
  pub bytes : new ≡ check_bytes form s o old
