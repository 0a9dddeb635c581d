-- What the two programs print, as bytes (ASCII), of a full book: the listing of a book's rules, the outcome of a check, and the refused line.
use Rattle.std.specs.Prelude.{ℕ, zero, suc, ◌+◌, ◌*◌, ◌/◌, ◌%◌, Bool, true, false, cond, List, [], ◌∷◌, ◌++◌, leb}
use Rattle.limits.specs.Limits.{end_sheet_size, atoms_per_relation}
use Rattle.answer.specs.Answer.{Answer, Good, Refused}
use Rattle.terms.specs.declared.Relation.{Relation}
use Rattle.terms.specs.Sections.{sections_of}
use Rattle.terms.specs.Schema.{Schema}
use Rattle.terms.specs.Steps.{atom_relation, atom_first, atom_second, is_atom}
use Rattle.model.specs.Learned.{Rules}
use Rattle.format.specs.Form.{full}
use Rattle.jobs.specs.Planning.{schema_of}
use Rattle.jobs.specs.Learn.{learnable, rules_from}
use Rattle.jobs.specs.Check.{check}

-- the decimal digits of n, and then `rest`. The fuel, from which the recursion counts down, is at least the number of digits
unfoldable pub digits : ℕ → ℕ → List ℕ → List ℕ
digits zero n rest = rest
digits (suc fuel) n rest = elim (n / 10) [ zero ↦ (48 + n) ∷ rest | suc m ↦ digits fuel (suc m) ((48 + n % 10) ∷ rest) ]

unfoldable pub decimal : ℕ → List ℕ
decimal n = digits 20 n []

abbrev pub space : List ℕ
space = 32 ∷ []

abbrev pub newline : List ℕ
newline = 10 ∷ []

-- `moves `, ` records `, ` steps `, `passes `, `refused `
abbrev pub moves_word : List ℕ
moves_word = 109 ∷ 111 ∷ 118 ∷ 101 ∷ 115 ∷ 32 ∷ []

abbrev pub records_word : List ℕ
records_word = 32 ∷ 114 ∷ 101 ∷ 99 ∷ 111 ∷ 114 ∷ 100 ∷ 115 ∷ 32 ∷ []

abbrev pub steps_word : List ℕ
steps_word = 32 ∷ 115 ∷ 116 ∷ 101 ∷ 112 ∷ 115 ∷ 32 ∷ []

abbrev pub passes_word : List ℕ
passes_word = 112 ∷ 97 ∷ 115 ∷ 115 ∷ 101 ∷ 115 ∷ 32 ∷ []

abbrev pub refused_word : List ℕ
refused_word = 114 ∷ 101 ∷ 102 ∷ 117 ∷ 115 ∷ 101 ∷ 100 ∷ 32 ∷ []

unfoldable pub refused_line : ℕ → ℕ → List ℕ
refused_line num at = refused_word ++ decimal num ++ space ++ decimal at ++ newline

-- H hold, N not hold, B both, F neither
unfoldable pub need_letter : Bool → Bool → ℕ
need_letter true true = 66
need_letter true false = 72
need_letter false true = 78
need_letter false false = 70

-- A added, R removed, K none
unfoldable pub effect_letter : Bool → Bool → ℕ
effect_letter true removed = 65
effect_letter false true = 82
effect_letter false false = 75

-- a parameter's number, 0 in an unused place
unfoldable pub param_shown : Schema → Relation → ℕ → ℕ → ℕ
param_shown sch r i p = cond (leb i (sch.places r)) p 0

-- a bound fact's line up to its letters: move, relation, two parameters
unfoldable pub atom_front : Schema → ℕ → ℕ → List ℕ
atom_front sch a n =
    decimal a
    ++ space
    ++ decimal (atom_relation n).0
    ++ space
    ++ decimal (param_shown sch (atom_relation n) 1 (atom_first n).0)
    ++ space
    ++ decimal (param_shown sch (atom_relation n) 2 (atom_second n).0)
    ++ space

unfoldable pub atom_line : Schema → Rules → ℕ → ℕ → List ℕ
atom_line sch R a n =
    atom_front sch a n
    ++ (need_letter (R.needed a n) (R.needed_not a n) ∷ [])
    ++ space
    ++ (effect_letter (R.added a n) (R.removed a n) ∷ [])
    ++ newline

-- the line of a number, none where it is no bound fact of the move
unfoldable pub line_if_atom : Schema → Rules → ℕ → ℕ → List ℕ
line_if_atom sch R a n = elim (is_atom sch a n) [ true ↦ atom_line sch R a n | false ↦ [] ]

-- the lines of a move's bound facts, `left` numbers from n on
unfoldable pub atom_lines : Schema → Rules → ℕ → ℕ → ℕ → List ℕ
atom_lines sch R a zero n = []
atom_lines sch R a (suc left) n = line_if_atom sch R a n ++ atom_lines sch R a left (suc n)

unfoldable pub move_lines : Schema → Rules → ℕ → ℕ → List ℕ
move_lines sch R zero a = []
move_lines sch R (suc left) a = atom_lines sch R a (atoms_per_relation * sch.relations) 0 ++ move_lines sch R left (suc a)

-- the first line: counts of moves, records and recorded steps
unfoldable pub counts_line : ℕ → ℕ → ℕ → List ℕ
counts_line moves records steps =
    moves_word ++ decimal moves ++ records_word ++ decimal records ++ steps_word ++ decimal steps ++ newline

unfoldable pub rules_lines : List ℕ → Answer → List ℕ
rules_lines s (Refused num at) = refused_line num at
rules_lines s (Good total) =
    counts_line (schema_of s).moves (sections_of s).records.count total
    ++ move_lines (schema_of s) (rules_from full s) (schema_of s).moves 1

-- what the program `rules` prints of a book
unfoldable pub rules_printed : List ℕ → List ℕ
rules_printed s = rules_lines s (learnable full s)

unfoldable pub plan_line : Answer → List ℕ
plan_line (Refused num at) = refused_line num at
plan_line (Good steps) = passes_word ++ decimal steps ++ newline

-- what the program `plan` prints of a book and an order
unfoldable pub plan_printed : List ℕ → List ℕ → List ℕ
plan_printed s o = plan_line (check full s o end_sheet_size).answer
