-- Rules in memory: a move's four sets, and the 128 bytes of its block; and where what is observed lies. Uses the sets of observed.
use Rattle.std.specs.Prelude.{ℕ, List, [], ◌∷◌, ◌++◌, get_or, Option, Some, None}
use Rattle.std.specs.Borrow.{Bor}
use Rattle.jobs.specs.SheetBits.{needed_set, needed_not_set, added_set, removed_set}
use Rattle.observed.specs.Rules.{rule_set}

unfoldable pub rule_sets : List ℕ → ℕ → List (List ℕ)
rule_sets l a = rule_set l a needed_set ∷ rule_set l a needed_not_set ∷ rule_set l a added_set ∷ rule_set l a removed_set ∷ []

-- the four sets one after the other
unfoldable pub block : List (List ℕ) → List ℕ
block r = get_or r needed_set [] ++ get_or r needed_not_set [] ++ get_or r added_set [] ++ get_or r removed_set []

-- what is observed: apart from the sheet, or the bytes that the sheet is written over
abbrev pub source : Option (Bor (List ℕ)) → List ℕ → List ℕ
source None sheet = sheet
source (Some observed) sheet = observed.now
