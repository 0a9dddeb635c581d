-- The marked cases of the paper and its limits, and cases of kinds under kinds, of several starts, of short books, of adding, of records without
-- steps, of records in another sequence, of each start alone, of the facts that an end sheet shows and of steps that did not go, as one list of what
-- the definitions give and what the paper says. proofs/Cases.antt has the one theorem that covers it.
use Rattle.std.specs.Prelude.{◌≡◌, List, [], ◌∷◌, ◌++◌}
use Rattle.cases.specs.Marked.{Case, marked}
use Rattle.cases.specs.Further.{kinds_under, several_starts}
use Rattle.cases.specs.Shorts.{short_books}
use Rattle.cases.specs.Adding.{records_added}
use Rattle.cases.specs.Stepless.{records_of_nothing}
use Rattle.cases.specs.Sequences.{filed_late}
use Rattle.cases.specs.EachStart.{starts_alone}
use Rattle.cases.specs.EndSheet.{right_bits}
use Rattle.cases.specs.NotGone.{not_gone}

abbrev pub cases : List Case
cases = marked ++ (kinds_under ++ (several_starts ++ (short_books ++ (records_added ++ (records_of_nothing ++ (filed_late ++ (starts_alone ++ (right_bits ++ not_gone))))))))

unfoldable pub AllRight : List Case → Type 0
AllRight [] = Unit {0}
AllRight (c ∷ cs) = (c.gives ≡ c.wanted) × AllRight cs
