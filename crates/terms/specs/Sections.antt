-- The header of a book: counts and offsets of its sections.
use Rattle.std.specs.Prelude.{ℕ, List}
use Rattle.input.specs.Bytes.{two}
use Rattle.terms.specs.declared.Sections.{Sections}

unfoldable pub sections_of : List ℕ → Sections
sections_of s =
    record {
      kinds = two s 0;
      relations = record { count = two s 2; at = two s 8 };
      moves = record { count = two s 4; at = two s 10 };
      records = record { count = two s 6; at = two s 12 };
      end = two s 14;
    }
