-- A rule sheet taken apart: the four sets of a move in their order, the bit of a bound fact in one of them, a set, and the rules that the bits are.
use Rattle.std.specs.Prelude.{ℕ, ◌+◌, ◌-◌, ◌*◌, Bool, List, take, drop}
use Rattle.limits.specs.Limits.{set_size, rule_size, max_atoms, rule_bits}
use Rattle.mask.specs.Bits.{test_bit}
use Rattle.model.specs.Learned.{Rules}

-- what is needed to hold, and needed not to hold; src/lib.rt has the four numbers for code
abbrev pub needed_set : ℕ
needed_set = 0

abbrev pub needed_not_set : ℕ
needed_not_set = 1

-- what is added, and removed
abbrev pub added_set : ℕ
added_set = 2

abbrev pub removed_set : ℕ
removed_set = 3

-- bound fact n in a set of move a
unfoldable pub sheet_bit : List ℕ → ℕ → ℕ → ℕ → Bool
sheet_bit sheet set a n = test_bit sheet (rule_bits * (a - 1) + max_atoms * set + n)

-- a set of move a, as its bytes
unfoldable pub sheet_set : List ℕ → ℕ → ℕ → List ℕ
sheet_set sheet set a = take set_size (drop (rule_size * (a - 1) + set_size * set) sheet)

-- a sheet read back: the rules whose sets its bits are
unfoldable pub rules_on : List ℕ → Rules
rules_on sheet =
    record {
      needed = sheet_bit sheet needed_set;
      needed_not = sheet_bit sheet needed_not_set;
      added = sheet_bit sheet added_set;
      removed = sheet_bit sheet removed_set;
    }
