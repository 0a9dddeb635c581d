-- The state of a record as it is carried on: a mask in which the facts of a list turn, and how many facts hold.
use Rattle.std.specs.Prelude.{ℕ, ◌≤◌, ◌<◌, ◌≡◌, List, [], ◌∷◌, true, false, length}
use Rattle.limits.specs.Limits.{near_ceiling, max_fact_numbers, state_size}
use Rattle.mask.specs.Bits.{flip_bit}
use Rattle.mask.specs.Sets.{cardinality, mask_of}
use Rattle.terms.specs.declared.Fact.{Fact}
use Rattle.terms.specs.Facts.{fact_number}
use Rattle.format.specs.Lists.{list_at, list_end}
use Rattle.format.specs.Form.{Form}
use Rattle.quantify.specs.Quantify.{Mem}
use Rattle.factsets.specs.Holding.{holding}

-- each fact of a list turned in a mask
unfoldable pub flipped : List Fact → List ℕ → List ℕ
flipped [] m = m
flipped (f ∷ fs) m = flipped fs (flip_bit m (fact_number f))

-- the mask has a bit for each fact
abbrev pub Numbered : List Fact → Type 0
Numbered fs = (f : Fact) → Mem f fs → fact_number f < max_fact_numbers

-- the list at an offset lies within the bytes, and the mask has a bit for each of its facts
pub record Turnable (s : List ℕ) (at : ℕ) : Type 0 where
  pub near : at ≤ near_ceiling
  pub within : list_end s at ≤ length s
  pub numbered : Numbered (list_at s at)

-- what the list at an offset does to the mask: in a short book its facts turn, and `count` is how many facts hold then; in a full book nothing, and
-- `count` is 0
pub record Carried (form : Form) (s : List ℕ) (at : ℕ) (old new : List ℕ) (count : ℕ) : Type 0 where
  pub turned : form ≡ true → (new ≡ flipped (list_at s at) old) × (count ≡ cardinality new)
  pub nothing : form ≡ false → (new ≡ old) × (count ≡ 0)

-- what is kept of a state in which the facts fs hold: in a short book their mask, and how many they are; in a full book no mask, and the number 0
pub record Carries (form : Form) (fs : List Fact) (m : List ℕ) (count : ℕ) : Type 0 where
  pub mask : form ≡ true → m ≡ mask_of state_size (holding fs)
  pub size : form ≡ true → count ≡ length fs
  pub nothing : form ≡ false → count ≡ 0
