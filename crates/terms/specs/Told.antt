-- What the code computes of a fact in place of `fact_bad` and `precedes`: suit by a table, order by one number. For code and its proofs alone.
use Rattle.std.specs.Prelude.{ℕ, ◌+◌, ◌*◌, Bool, ◌&&◌, List}
use Rattle.objectset.specs.Sets.{member, entry}
use Rattle.terms.specs.declared.Fact.{Fact}

-- its objects are in the sets of objects that suit: those of first places stand in the table from 0 on, of second places from 256 on
unfoldable pub suits : List ℕ → Fact → Bool
suits t f = member (entry t f.relation.0) f.first.0 && member (entry t (256 + f.relation.0)) f.second.0

-- its three bytes as one number
unfoldable pub fact_key : Fact → ℕ
fact_key f = f.relation.0 * 65536 + f.first.0 * 256 + f.second.0
