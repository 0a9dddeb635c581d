-- Records read in one form and rendered in any: what `jobs/specs/Convert` says of records, without "the other form". With both forms at hand a
-- record rendered and read again can be rendered back.
use Prim.Native.Nat.{ℕ, zero, suc, ◌+◌}
use mathlib.Core.Path.{◌≡◌, refl}
use mathlib.Core.Bool.{not}
use mathlib.Core.List.{List, [], ◌∷◌, ◌++◌}
use native.Mathlib.Omega.{arith}
use lib.ListN.{length}
use Rattle.output.specs.Written.{two_bytes}
use Rattle.limits.specs.Limits.{head_size}
use Rattle.terms.specs.Sections.{sections_of}
use Rattle.format.specs.Lists.{list_at}
use Rattle.format.specs.Form.{Form}
use Rattle.format.specs.Records.{objects_in, steps_in, length_in}
use Rattle.format.specs.Decode.{first_at, steps_of_record}
use Rattle.jobs.specs.Convert.{bytes_at, list_bytes, steps_bytes, body_bytes, record_bytes, records_bytes, all_records_bytes}

-- the part of a record after its head, read in `form` and rendered in `to`
unfoldable pub body_in : Form → Form → List ℕ → ℕ → List ℕ
body_in form to s at = bytes_at s (at + head_size) (objects_in s at) ++ list_bytes (list_at s (first_at s at)) ++ steps_bytes to (steps_of_record form s at)

unfoldable pub record_in : Form → Form → List ℕ → ℕ → List ℕ
record_in form to s at = objects_in s at ∷ steps_in s at ∷ (two_bytes (head_size + length (body_in form to s at)) ++ body_in form to s at)

unfoldable pub records_in : Form → Form → List ℕ → ℕ → ℕ → List ℕ
records_in form to s zero at = []
records_in form to s (suc n) at = record_in form to s at ++ records_in form to s n (at + length_in s at)

-- the length of a record
pub length_record_in : (form to : Form) (s : List ℕ) (at : ℕ) → length (record_in form to s at) ≡ head_size + length (body_in form to s at)
unfolding record_in two_bytes
length_record_in form to s at = omega arith

-- what a conversion renders
records_converted : (to : Form) (s : List ℕ) (n at : ℕ) → records_bytes to s n at ≡ records_in (not to) to s n at
unfolding records_bytes record_bytes body_bytes records_in record_in body_in
records_converted to s zero at = refl
records_converted to s (suc n) at = rw (records_converted to s n (at + length_in s at))

pub all_converted : (to : Form) (s : List ℕ) → all_records_bytes to s ≡ records_in (not to) to s (sections_of s).records.count (sections_of s).records.at
unfolding all_records_bytes
all_converted to s = records_converted to s (sections_of s).records.count (sections_of s).records.at
