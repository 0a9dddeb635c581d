-- From a fact to its bound fact by the numbers that its objects add, in the parts that the functions compute. Uses the definitions of observed.
use Rattle.std.specs.Prelude.{ℕ, ◌+◌, ◌-◌, ◌*◌, ◌<◌, ◌≡◌, cond, List, Option, Some, None, length, get_or, replicate}
use Rattle.limits.specs.Limits.{atoms_per_relation}
use Rattle.mask.specs.Bits.{set_bit, flip_bit}
use Rattle.terms.specs.declared.Object.{Object}
use Rattle.terms.specs.declared.Binding.{Binding}
use Rattle.terms.specs.declared.Fact.{Fact}
use Rattle.observed.specs.Inverse.{param_of, place_bound, fact_bound, atom_of}

-- What an object in the second place adds to a bound fact's number: the number of its parameter, counted from 0; nothing in an unused place. Where no
-- parameter has the object it is 16, the number of pairs of parameters, so that the sum is no bound fact's.
unfoldable pub digit : Binding → Object → ℕ
digit b x = cond (place_bound b x) (param_of b x - 1) atoms_per_relation

-- what the objects in both places add: the number of the pair of their parameters, which is under 16; or 16 and more where an object has no parameter
unfoldable pub places_of : Binding → Fact → ℕ
places_of b f = 4 * digit b f.first + digit b f.second

-- the number of the bound fact of the step that a fact is, none where it is no bound fact
unfoldable pub lifted : List ℕ → Binding → Fact → Option ℕ
lifted atoms b f = cond (fact_bound atoms b f) (Some (atom_of b f)) None

-- a set changed by `make` at a bound fact, unchanged where there is none
abbrev pub at_atom : (List ℕ → ℕ → List ℕ) → List ℕ → Option ℕ → List ℕ
at_atom make m None = m
at_atom make m (Some n) = make m n

-- the set with that bound fact put in, and with it turned
abbrev pub marked_as : List ℕ → Option ℕ → List ℕ
marked_as = at_atom set_bit

abbrev pub turned_as : List ℕ → Option ℕ → List ℕ
turned_as = at_atom flip_bit

unfoldable pub no_digits : List ℕ
no_digits = replicate 256 atoms_per_relation

-- a table of the digits, by the number of the object
pub record Inverts (b : Binding) (t : List ℕ) : Type 0 where
  pub long : length t ≡ 256
  pub gives : (x : ℕ) → x < 256 → get_or t x 0 ≡ digit b (record { 0 = x })
