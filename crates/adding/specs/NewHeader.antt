-- The header of the new book: which of its bytes are renewed, and what it says.
use Rattle.std.specs.Prelude.{ℕ, ◌+◌, Bool, ◌||◌, eqb}
use Rattle.terms.specs.declared.Sections.{Sections}

-- the bytes of the record count and of the end
unfoldable pub renewed : ℕ → Bool
renewed i = eqb i 6 || eqb i 7 || eqb i 14 || eqb i 15

-- a header with one record more and another end
unfoldable pub one_more : Sections → ℕ → Sections
one_more h end =
    record {
      kinds = h.kinds;
      relations = h.relations;
      moves = h.moves;
      records = record { count = h.records.count + 1; at = h.records.at };
      end = end;
    }
