-- Where each of a move's seven sets stands among them, counted from 0, as Observed numbers them.
use Rattle.std.specs.Prelude.{ℕ}
use Rattle.observed.specs.declared.SeenSet.{SeenSet}
use Rattle.observed.specs.declared.SeenSet.TheVariants.{AlwaysBefore, EverBefore, AlwaysAfter, EverAfter, Added, Deleted, Bound}
use Rattle.observed.specs.Observed.{always_before, ever_before, always_after, ever_after, added, deleted, bound}

abbrev pub place_of : SeenSet → ℕ
place_of AlwaysBefore = always_before
place_of EverBefore = ever_before
place_of AlwaysAfter = always_after
place_of EverAfter = ever_after
place_of Added = added
place_of Deleted = deleted
place_of Bound = bound
