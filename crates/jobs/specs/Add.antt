-- Adding a record to a book, the record being in the book's form, and what the lent output holds afterwards.
use Rattle.std.specs.Prelude.{ℕ, ◌+◌, List, ◌++◌, length, take, drop, ltb}
use Rattle.answer.specs.Answer.{Answer, Good, ◌>>=◌, refuse, kept}
use Rattle.output.specs.Written.{two_bytes}
use Rattle.terms.specs.Sections.{sections_of}
use Rattle.limits.specs.Limits.{max_length, header_size}
use Rattle.format.specs.Form.{Form}
use Rattle.format.specs.LookOver.{look_over}

-- the old book with the record's bytes after it, record count (bytes 6 and 7) and end (14 and 15) renewed
unfoldable pub added : List ℕ → List ℕ → List ℕ
added s r =
    take 6 s
    ++ two_bytes ((sections_of s).records.count + 1)
    ++ take 6 (drop 8 s)
    ++ two_bytes (length s + length r)
    ++ drop header_size s
    ++ r

unfoldable pub add : Form → List ℕ → List ℕ → ℕ → Answer
add form s r size = do
  _ ← look_over form s
  _ ← refuse (ltb max_length (length s + length r)) 1 0
  _ ← look_over form (added s r)
  _ ← refuse (ltb size (length s + length r)) 13 0
  Good (length s + length r)

unfoldable pub add_bytes : Form → List ℕ → List ℕ → List ℕ → List ℕ
add_bytes form s r out = kept (add form s r (length out)) (added s r ++ drop (length s + length r) out) out
