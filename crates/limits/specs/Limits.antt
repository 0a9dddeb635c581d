-- The paper's limits and sizes, each under one name, for definitions and contracts. src/lib.rt has them for code.
use Rattle.std.specs.Prelude.{ℕ}

-- ---- a book

abbrev pub max_length : ℕ
max_length = 60000

-- of a book and of an order
abbrev pub header_size : ℕ
header_size = 16

abbrev pub max_kinds : ℕ
max_kinds = 8

abbrev pub max_relations : ℕ
max_relations = 16

abbrev pub max_moves : ℕ
max_moves = 32

abbrev pub max_records : ℕ
max_records = 64

abbrev pub relation_size : ℕ
relation_size = 4

abbrev pub move_size : ℕ
move_size = 6

abbrev pub max_places : ℕ
max_places = 2

abbrev pub max_params : ℕ
max_params = 4

-- ---- a record

abbrev pub head_size : ℕ
head_size = 4

abbrev pub max_objects : ℕ
max_objects = 16

abbrev pub max_steps : ℕ
max_steps = 64

abbrev pub count_size : ℕ
count_size = 2

abbrev pub max_facts : ℕ
max_facts = 256

-- of facts that turn, in a short book
abbrev pub max_turns : ℕ
max_turns = 512

abbrev pub fact_size : ℕ
fact_size = 3

abbrev pub step_size : ℕ
step_size = 5

-- added to the move byte of a step that did not go
abbrev pub failed_mark : ℕ
failed_mark = 128

-- ---- an order

abbrev pub max_starts : ℕ
max_starts = 16

abbrev pub max_entries : ℕ
max_entries = 64

abbrev pub entry_size : ℕ
entry_size = 4

-- ---- the sheets

-- a set of bound facts, a move's four sets, a state's set of facts, and the end sheet, in bytes
abbrev pub set_size : ℕ
set_size = 32

abbrev pub rule_size : ℕ
rule_size = 128

abbrev pub state_size : ℕ
state_size = 512

abbrev pub end_sheet_size : ℕ
end_sheet_size = 512

-- the most that a rule sheet comes to: the four sets of each move
abbrev pub sheet_max : ℕ
sheet_max = 4096

-- ---- what the learner has observed

-- seven sets of bound facts for each move, in bytes
abbrev pub observed_sets : ℕ
observed_sets = 7

abbrev pub observed_per_move : ℕ
observed_per_move = 224

abbrev pub observed_size : ℕ
observed_size = 7168

-- the most that the learner may hold after a record, in bytes
abbrev pub max_held : ℕ
max_held = 8192

-- ---- the numbers of bound facts, and of facts: how many there are in all, and how many a relation has

abbrev pub max_atoms : ℕ
max_atoms = 256

abbrev pub atoms_per_relation : ℕ
atoms_per_relation = 16

abbrev pub max_fact_numbers : ℕ
max_fact_numbers = 4096

abbrev pub facts_per_relation : ℕ
facts_per_relation = 256

-- the bits of a move's four sets
abbrev pub rule_bits : ℕ
rule_bits = 1024

-- ---- ceilings of the offsets and counts that code adds to, so that no sum of them overflows: from an offset up to the near one, as many entries as
-- two bytes can count end before the far one

-- the largest number of two bytes
abbrev pub max_two : ℕ
max_two = 65535

abbrev pub near_ceiling : ℕ
near_ceiling = 600000

abbrev pub far_ceiling : ℕ
far_ceiling = 1000000
