-- Groups and columns of a state's facts, and names for what the functions pass on to each other. A state is a mask of 512 bytes.
use Rattle.std.specs.Prelude.{ℕ, ◌+◌, ◌*◌, ◌/◌, ◌%◌, ◌≤◌, ◌<◌, ◌≡◌, Bool, false, cond, not, ◌&&◌, ◌||◌, List, [], ◌∷◌, eqb, leb, get_or}
use Rattle.limits.specs.Limits.{max_objects, max_params, max_atoms, atoms_per_relation, state_size}
use Rattle.mask.specs.Bits.{bit_of, test_bit}
use Rattle.mask.specs.Sets.{number, mask_of}
use Rattle.quantify.specs.Quantify.{below}
use Rattle.factgroups.specs.declared.Placement.{Placement}

-- the first bound fact of a relation
pub record StartsRelation (n : ℕ) : Type 0 where
  pub whole : n % atoms_per_relation ≡ 0
  pub within : n + atoms_per_relation ≤ max_atoms

-- ---- groups and columns

-- numbers of objects from 0: groups or columns of a relation's facts in a state
abbrev pub Indices : List ℕ → Type 0
Indices xs = (q : ℕ) → get_or xs q 0 < max_objects

-- where a place is unused
abbrev pub unused : List ℕ
unused = 0 ∷ 0 ∷ 0 ∷ 0 ∷ []

-- the groups or columns in a place of a relation with so many places
unfoldable pub in_place : ℕ → ℕ → List ℕ → List ℕ
in_place places i xs = cond (leb i places) xs unused

-- the columns of the parameters in a set of four bits, as bits of a group
unfoldable pub column_set : List ℕ → ℕ → ℕ
column_set ys k = number (λ y. below max_params (λ q. bit_of k q && eqb (get_or ys q 0) y)) 0 max_objects

-- a table has them for every such set, from an index on
abbrev pub Tabled : List ℕ → ℕ → List ℕ → Type 0
Tabled t at ys = (k : ℕ) → k < 16 → get_or t (at + k) 0 ≡ column_set ys k

-- a table has them for a step's objects and for an unused place
pub record Tables (t ys : List ℕ) : Type 0 where
  pub used : Tabled t 0 ys
  pub none : Tabled t 16 unused

unfoldable pub table_at : ℕ → ℕ
table_at places = cond (leb 2 places) 0 16

-- ---- a relation's bound facts

-- the groups of four parameters among those of a relation, n being its first bound fact: group r has facts 16 * r and on
unfoldable pub groups_from : ℕ → List ℕ → List ℕ
groups_from n xs = (n + get_or xs 0 0) ∷ (n + get_or xs 1 0) ∷ (n + get_or xs 2 0) ∷ (n + get_or xs 3 0) ∷ []

-- those of a relation with so many places, n being the first of them, by the groups and columns of the parameters
unfoldable pub placement_of : ℕ → List ℕ → ℕ → Placement
placement_of places xs n = record { groups = groups_from n (in_place places 1 xs); at = table_at places }

-- they stand in a state, and a table has their columns
pub record Within (p : Placement) : Type 0 where
  pub groups : (q : ℕ) → get_or p.groups q 0 < max_atoms
  pub at : p.at ≤ 16

-- the group of a parameter, counted from 0, in the first place
abbrev pub group_of : Placement → ℕ → ℕ
group_of p q = get_or p.groups q 0

-- the fact that bound fact j of the sixteen is, by the columns of the parameters in the second place
unfoldable pub facts : Placement → List ℕ → ℕ → ℕ
facts p ys j = 16 * group_of p (j / 4) + get_or ys (j % 4) 0

-- what holds of all columns that a table has for them
abbrev pub ForColumns : List ℕ → Placement → (List ℕ → Type 0) → Type 0
ForColumns t p P = (ys : List ℕ) → Indices ys → Tabled t p.at ys → P ys

-- ---- values

-- the bits of a group in four columns
unfoldable pub in_columns : ℕ → List ℕ → ℕ
in_columns group ys = number (λ q. bit_of group (get_or ys q 0)) 0 max_params

-- ---- needs

-- none of sixteen facts holds
abbrev pub Clear : List ℕ → (ℕ → ℕ) → Type 0
Clear m g = (j : ℕ) → j < atoms_per_relation → test_bit m (g j) ≡ false

-- a need of a group is unmet: of the columns that are to hold, and of those that are not to
unfoldable pub group_unmet : List ℕ → ℕ → ℕ → ℕ → Bool
group_unmet m group positive negative =
    below max_objects (λ y. bit_of positive y && not (test_bit m (16 * group + y)) || bit_of negative y && test_bit m (16 * group + y))

-- a need of one of sixteen bound facts is unmet, as words say which are to hold and which are not to
unfoldable pub word_unmet : List ℕ → (ℕ → ℕ) → ℕ → ℕ → Bool
word_unmet m g positive negative =
    below atoms_per_relation (λ j. bit_of positive j && not (test_bit m (g j)) || bit_of negative j && test_bit m (g j))

-- ---- effects

-- a state with the value at the facts of a set, and every other as it was
unfoldable pub put_at : Bool → (ℕ → Bool) → List ℕ → List ℕ
put_at value p m = mask_of state_size (λ f. cond (p f) value (test_bit m f))

-- a group's bits with the value at some columns
unfoldable pub changed : Bool → ℕ → ℕ → ℕ
changed value group columns = number (λ y. cond (bit_of columns y) value (bit_of group y)) 0 max_objects

-- the facts of a group in a set of columns
unfoldable pub in_group : ℕ → ℕ → ℕ → Bool
in_group group columns f = eqb (f / 16) group && bit_of columns (f % 16)

-- the facts of those of sixteen bound facts that a word has
unfoldable pub in_word : (ℕ → ℕ) → ℕ → ℕ → Bool
in_word g bits f = below atoms_per_relation (λ j. bit_of bits j && eqb (g j) f)
